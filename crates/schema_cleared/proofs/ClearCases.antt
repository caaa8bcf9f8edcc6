-- To store what is left from here is to store the whole from the start; and the ways out of the functions that do.
use mathlib.Core.Path.{◌≡◌, refl, sym, ap, ap₂, ◌∙◌, subst}
use mathlib.Core.Bool.{Bool, true, false, not, and-false}
use mathlib.Core.List.{List, ◌++◌}
use Prim.Native.Nat.{ℕ, suc, ◌+◌, ◌-◌, ◌/◌, ◌<◌, ◌≤◌}
use native.Mathlib.Numerals.{add-one}
use native.Mathlib.Nat.{zero-add}
use native.Mathlib.Omega.{arith}
use lib.ListN.{get_or, length, drop, set}
use lib.Seq.{sets, sets-eq}
use lib.Dec.{eqb}
use borrow.Author.Tests.{le-leb, lt-leb, eqb-true, not-true, not-false}
use Rattle.coding.specs.Lists.{run}
use Rattle.coding.specs.Bytes.{u48}
use Rattle.coding.specs.Packed as P
use Rattle.coding.specs.Message as Ms
use Rattle.coding.specs.Moving as M
use Rattle.coding.specs.declared.WriteAnswer.{WriteAnswer}
use Rattle.laws.specs.Lists.{run_length}
use Rattle.laws.specs.Rules.{lawful_counts}
use Rattle.laws.specs.MemberPlaces.{tables_start, cleared-member, cleared-other, before-tables, table_head, table_argument, without-length}
use Rattle.std.specs.Prelude.{Option, Some, None}
use Rattle.coding.specs.Lawful.{lawful}
use Rattle.schema.specs.declared.held.Schema.{Schema}
use Rattle.schema.specs.Parsed.{bytes_of, Held, held_is, held_none}
use Rattle.schema.specs.Directory.{Directory, Accepted, Block}
use Rattle.schema_cleared.specs.Rest.{first, rest, Kept}

-- ---- the first byte of a record
module _ (b : List ℕ) (at x k : ℕ) (e : x ≡ get_or b at 0) (g : k ≡ P.kind_at b at) (t : Bool) (f : t ≡ eqb k 17) where
  kind_is : (s : Bool) → t ≡ s → eqb (P.kind_at b at) 17 ≡ s
  kind_is s h = ap (λ (n : ℕ). eqb n 17) (sym g) ∙ sym f ∙ h

  pub no-union : not t ≡ true → x ≡ first b at
  unfolding first M.inplace_union
  no-union h = rw (kind_is false (not-true t h)) e

  pub not_in-place : (u : Bool) → u ≡ P.inplace_at b at → not u ≡ true → x ≡ first b at
  unfolding first M.inplace_union
  not_in-place u q h = rw (sym q ∙ not-true u h, and-false (eqb (P.kind_at b at) 17)) e

  pub flag_there : not t ≡ false → 2 ≤ x
  unfolding P.kind_at
  flag_there h = let z : get_or b at 0 / 8 ≡ 17 = eqb-true (P.kind_at b at) 17 (kind_is true (not-false t h)) in omega arith

  pub in_place : not t ≡ false → (u : Bool) → u ≡ P.inplace_at b at → not u ≡ false → x - 2 ≡ first b at
  unfolding first M.inplace_union M.flag_cleared
  in_place h u q i = rw (kind_is true (not-false t h), sym q ∙ not-false u i) (ap (λ (n : ℕ). n - 2) e)

-- the two bytes of a record
pub record-stored : (b out : List ℕ) (at x y : ℕ) → x ≡ first b at → y ≡ get_or b (at + 1) 0
    → set (set out at x) (at + 1) y ≡ set (set out at (first b at)) (at + 1) (get_or b (at + 1) 0)
record-stored b out at x y e f = ap₂ (λ (p q : ℕ). set (set out at p) (at + 1) q) e f

-- ---- one byte more
turn : (b out : List ℕ) (p x : ℕ) → p < length b → x ≡ M.cleared_byte b p → rest b (set out p x) (p + 1) ≡ rest b out p
unfolding rest run
turn b out p x l e =
    let z : length b - p ≡ suc (length b - (p + 1)) = omega arith in
    let r = run (M.cleared_byte b) (p + 1) (length b - (p + 1)) in
    sym
    (ap (λ (n : ℕ). sets out p (run (M.cleared_byte b) p n)) z ∙ ap (λ (y : ℕ). sets (set out p y) (suc p) r) (sym e)
    ∙ ap (λ (k : ℕ). sets (set out p x) k r) (sym (add-one p)))

module _ (b out₀ out : List ℕ) (from to p : ℕ) (inv : rest b out p ≡ rest b out₀ from) where
  pub copy_turn : (x : ℕ) → Kept b from to → from ≤ p → p < to → to ≤ length b → x ≡ get_or b p 0
      → rest b (set out p x) (p + 1) ≡ rest b out₀ from
  copy_turn x k l m n e = turn b out p x (omega arith) (e ∙ sym (k.at p l m)) ∙ inv

  pub copy_done : p ≤ to → to ≤ p → rest b out to ≡ rest b out₀ from
  copy_done l m = let e : p ≡ to = omega arith in subst (λ (q : ℕ). rest b out q ≡ rest b out₀ from) e inv

-- ---- a table
module _ (b out₀ out : List ℕ) (i at n : ℕ) (block : Block b 4 (P.table_place b i) at) (all : n ≡ P.records b 4 at) where
  pub record_turn : (out₁ : List ℕ) (j p from : ℕ) → i < P.table_count b → j < n → p ≡ P.record_place 4 at j
      → out₁ ≡ set (set out p (first b p)) (p + 1) (get_or b (p + 1) 0)
      → rest b out (P.record_place 4 at j) ≡ rest b out₀ from → rest b out₁ (P.record_place 4 at (j + 1)) ≡ rest b out₀ from
  unfolding P.record_place first
  record_turn out₁ j p from l m e f inv =
      let place = block.is in
      let q : p ≡ P.record_place 4 (P.table_place b i) j = e ∙ ap (λ (a : ℕ). P.record_place 4 a j) place in
      let k : j < P.records b 4 (P.table_place b i) = subst (λ (a : ℕ). j < P.records b 4 a) place (omega arith) in
      let inside = block.inside in
      let whole : p + 1 < length b = omega arith in
      let one = cleared-member b p (i, (j, (l, (k, q)))) in
      let two = cleared-other b (p + 1) (table_argument b i j (p + 1) k (ap (λ (a : ℕ). a + 1) q)) in
      let z : P.record_place 4 at (j + 1) ≡ p + 1 + 1 = omega arith in
      ap (rest b out₁) z ∙ ap (λ (o : List ℕ). rest b o (p + 1 + 1)) f
      ∙ turn b (set out p (first b p)) (p + 1) (get_or b (p + 1) 0) whole (sym two)
      ∙ turn b out p (first b p) (omega arith) (sym one) ∙ ap (rest b out) e ∙ inv

  pub record-inside : (j p : ℕ) → j < n → p ≡ P.record_place 4 at j → p + 1 < length b
  unfolding P.record_place
  record-inside j p l e = let inside = block.inside in omega arith

  -- behind the last record the next table begins
  pub records_done : (j : ℕ) → j ≤ n → n ≤ j → rest b out (P.record_place 4 at j) ≡ rest b out₀ (at + 5)
      → rest b out (P.table_place b (i + 1)) ≡ rest b out₀ (P.table_place b i + 5)
  unfolding P.table_place P.blocks
  records_done j l m inv =
      let z : j ≡ n = omega arith in
      let q : P.record_place 4 at j ≡ P.record_place 4 (P.table_place b i) (P.records b 4 (P.table_place b i)) =
      ap (P.record_place 4 at) (z ∙ all) ∙ ap (λ (a : ℕ). P.record_place 4 a (P.records b 4 a)) block.is in
      ap (λ (k : ℕ). rest b out (P.table_place b k)) (add-one i) ∙ ap (rest b out) (sym q) ∙ inv
      ∙ ap (λ (a : ℕ). rest b out₀ (a + 5)) block.is

pub first_record : (b out : List ℕ) (at : ℕ) → rest b out (P.record_place 4 at 0) ≡ rest b out (at + 5)
unfolding P.record_place
first_record b out at = let z : P.record_place 4 at 0 ≡ at + 5 = omega arith in ap (rest b out) z

-- its id and its count
pub head_kept : (b : List ℕ) (i at : ℕ) → Block b 4 (P.table_place b i) at → Kept b at (at + 4 + 1)
head_kept b i at block =
    record {
      at = λ p l m.
          cleared-other b p
          (table_head b i (p - at) p (omega arith)
          (let z : p ≡ at + (p - at) = omega arith in z ∙ ap (λ (a : ℕ). a + (p - at)) block.is));
    }

-- these, and then the records
pub table_done : (b out₀ out₁ out₂ : List ℕ) (i at : ℕ) → Block b 4 (P.table_place b i) at → rest b out₁ (at + 4 + 1) ≡ rest b out₀ at
    → rest b out₂ (P.table_place b (i + 1)) ≡ rest b out₁ (P.table_place b i + 5)
    → rest b out₂ (P.table_place b (i + 1)) ≡ rest b out₀ (P.table_place b i)
table_done b out₀ out₁ out₂ i at block e f =
    let z : P.table_place b i + 5 ≡ at + 4 + 1 = ap (λ (a : ℕ). a + 5) (sym block.is) ∙ omega arith in
    f ∙ ap (rest b out₁) z ∙ e ∙ ap (rest b out₀) block.is

-- ---- every table
pub tables-begin : (b out : List ℕ) → rest b out (P.table_place b 0) ≡ rest b out (tables_start b)
unfolding P.table_place P.blocks
tables-begin b out = refl

-- behind the last byte nothing is left
rest_end : (b out : List ℕ) → rest b out (length b) ≡ out
unfolding rest run
rest_end b out = let z : length b - length b ≡ 0 = omega arith in ap (λ (n : ℕ). sets out (length b) (run (M.cleared_byte b) (length b) n)) z

pub tables_done : (b dir out₀ out : List ℕ) (n i start : ℕ) → Directory b dir → n ≡ get_or b 3 0 → i ≤ n → n ≤ i
    → rest b out (P.table_place b i) ≡ rest b out₀ start → out ≡ rest b out₀ start
tables_done b dir out₀ out n i start D e l m inv =
    let z : i ≡ P.table_count b = omega arith in
    sym (rest_end b out) ∙ ap (rest b out) (sym (ap (P.table_place b) z ∙ D.ends)) ∙ inv

-- ---- the whole schema
-- what stands before the tables
pub start_kept : (b : List ℕ) (at : ℕ) → Block b 4 (P.table_place b 0) at → Kept b 0 at
unfolding P.table_place P.blocks
start_kept b at block =
    record { at = λ p l m. cleared-other b p (before-tables b p (subst (λ (q : ℕ). p < q) block.is m)) }

pub start-inside : (b : List ℕ) (at : ℕ) → Block b 4 (P.table_place b 0) at → at ≤ length b
start-inside b at block = let inside = block.inside in omega arith

pub some-table : (b dir : List ℕ) → Accepted b dir → 0 < P.table_count b
some-table b dir a = let h = (lawful_counts b a.formed).some in omega arith

module _ (b out₀ : List ℕ) (o : ℕ) (e : o ≡ 6) (a : lawful o b ≡ true) where
  lawful_clears : M.clearing b ≡ Ms.message (M.without_inplace_unions b)
  unfolding M.clearing u48
  lawful_clears = rw (ap (λ (w : ℕ). lawful w b) (sym e) ∙ a)

  long : length (M.without_inplace_unions b) ≡ length b
  long = without-length b

  pub no_room : length out₀ < length b → (r : WriteAnswer) → r ≡ record { number = 14; length = 0 }
      → r ≡ Ms.write_room (M.clearing b) (length out₀)
  unfolding Ms.write_room
  no_room l r e = e ∙ rw (lawful_clears, long, lt-leb (length b) (length out₀) l)

  pub no_room_out : length out₀ < length b → out₀ ≡ Ms.write_over (M.clearing b) out₀
  unfolding Ms.write_over
  no_room_out l = rw (lawful_clears, long, lt-leb (length b) (length out₀) l)

  module _ (l : length b ≤ length out₀) where
    pub cleared_answer : ◌≡◌ {A = WriteAnswer} (record { number = 0; length = length b }) (Ms.write_room (M.clearing b) (length out₀))
    unfolding Ms.write_room
    cleared_answer = rw (lawful_clears, long, le-leb (length b) (length out₀) l)

    stored : rest b out₀ 0 ≡ M.without_inplace_unions b ++ drop (length b) out₀
    unfolding rest M.without_inplace_unions
    stored =
        let n = run_length (M.cleared_byte b) (length b) 0 in
        let z : length b - 0 ≡ length b = omega arith in
        ap (λ (k : ℕ). sets out₀ 0 (run (M.cleared_byte b) 0 k)) z
        ∙ sets-eq (run (M.cleared_byte b) 0 (length b)) out₀ 0 (omega arith)
        ∙ ap (λ (k : ℕ). run (M.cleared_byte b) 0 (length b) ++ drop k out₀) (zero-add _ ∙ n)

    pub cleared_out : (out₁ out₂ : List ℕ) (at : ℕ) → Block b 4 (P.table_place b 0) at → rest b out₁ at ≡ rest b out₀ 0
        → out₂ ≡ rest b out₁ (tables_start b) → out₂ ≡ Ms.write_over (M.clearing b) out₀
    unfolding Ms.write_over
    cleared_out out₁ out₂ at block e f =
        f ∙ sym (tables-begin b out₁) ∙ ap (rest b out₁) (sym block.is) ∙ e ∙ stored
        ∙ rw (lawful_clears, long, le-leb (length b) (length out₀) l)

-- ---- any bytes
module _ (b out : List ℕ) (h : Option Schema) (j : Held 6 b h) where
  not-lawful : h ≡ None → M.clearing b ≡ Ms.refused 1
  unfolding M.clearing u48
  not-lawful e = rw (held_none 6 b h j e)

  pub refused_answer : h ≡ None → (x : WriteAnswer) → x ≡ record { number = 1; length = 0 }
      → x ≡ Ms.write_room (M.clearing b) (length out)
  unfolding Ms.write_room
  refused_answer e x f = f ∙ rw (not-lawful e)

  pub refused_out : h ≡ None → out ≡ Ms.write_over (M.clearing b) out
  unfolding Ms.write_over
  refused_out e = rw (not-lawful e)

-- the schema that was found lawful
module _ (b out : List ℕ) (h : Option Schema) (j : Held 6 b h) (s : Schema) (is : h ≡ Some s) where
  pub held_wide : s.width ≡ 6
  held_wide = let k : Held 6 b (Some s) = subst (Held 6 b) is j in k.1

  pub held_answer : (x : WriteAnswer) → x ≡ Ms.write_room (M.clearing (bytes_of s)) (length out) → x ≡ Ms.write_room (M.clearing b) (length out)
  held_answer = held_is 6 b h j s is (λ (w : ℕ) (c : List ℕ). Ms.write_room (M.clearing c) (length out))

  pub held_out : (x : List ℕ) → x ≡ Ms.write_over (M.clearing (bytes_of s)) out → x ≡ Ms.write_over (M.clearing b) out
  held_out = held_is 6 b h j s is (λ (w : ℕ) (c : List ℕ). Ms.write_over (M.clearing c) out)
