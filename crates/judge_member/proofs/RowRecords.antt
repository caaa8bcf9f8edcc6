-- Records by their first byte, and those of row tables.
use mathlib.Core.Path.{◌≡◌, refl, sym, ap, ◌∙◌, subst}
use mathlib.Core.Bool.{Bool, true, false, ◌&&◌, not}
use mathlib.Core.List.{List}
use Prim.Native.Nat.{ℕ, ◌+◌, ◌*◌, ◌/◌, ◌%◌, ◌<◌, ◌≤◌}
use native.Mathlib.Omega.{arith}
use lib.ListN.{get_or}
use lib.Dec.{eqb, ltb}
use borrow.Author.Tests.{eqb-true, eqb-false, ltb-false}
use Rattle.coding.specs.Schema as Sc
use Rattle.coding.specs.Packed as P
use Rattle.coding.specs.declared.Object.{Object}
use Rattle.coding.specs.declared.Object.TheVariants as O
use Rattle.laws.specs.Lists.{never, both_left, both_right}
use Rattle.laws.specs.Sound.{ObjectSound}
use Rattle.laws.specs.SoundAt.{table_index}
use Rattle.schema.specs.Directory.{Block}
use Rattle.judge_member.specs.Records.{Plain, plain_width, is_text_reference, Refers, RowMember, row_width, RowMembers, RowTable, RowObject}

-- ---- records
pub plain_is : (h z : ℕ) → z ≡ h % 8 → z ≡ 0 → (k : ℕ) → k ≡ h / 8 → 0 < k → k < 12 → Plain h
plain_is h z ez e k ek l g = record { low = omega arith; high = omega arith; flags = omega arith }

-- what the tests of a kind tell
module _ (k : ℕ) where
  no-flat : (not (ltb k 13)) ≡ true → 13 ≤ k
  no-flat = by (ltb k 13) refl
    where
      by : (t : Bool) → ltb k 13 ≡ t → not t ≡ true → 13 ≤ k
      by true q n = never n
      by false q n = ltb-false k 13 q

  no-union : (not (eqb k 17)) ≡ true → (k ≡ 17 → ⊥)
  no-union = by (eqb k 17) refl
    where
      by : (t : Bool) → eqb k 17 ≡ t → not t ≡ true → (k ≡ 17 → ⊥)
      by true q n = never n
      by false q n = eqb-false k 17 q

  pub object_kind : (not (ltb k 13) && not (eqb k 17)) ≡ true → (13 ≤ k) × (k ≡ 17 → ⊥)
  object_kind f = (no-flat (both_left (not (ltb k 13)) (not (eqb k 17)) f), no-union (both_right (not (ltb k 13)) (not (eqb k 17)) f))

  pub union_kind : ltb k 13 ≡ false → (not (ltb k 13) && not (eqb k 17)) ≡ false → k ≡ 17
  union_kind e f = by (eqb k 17) refl
    where
      by : (t : Bool) → eqb k 17 ≡ t → k ≡ 17
      by true q = eqb-true k 17 q
      by false q = never (sym f ∙ ap (λ (u : Bool). not u && not (eqb k 17)) e ∙ ap (λ (u : Bool). not u) q)

pub refers_is : (h y x : ℕ) → y ≡ x → h ≡ y → (z : ℕ) → z ≡ h % 8 → z ≡ 0 → (k : ℕ) → k ≡ h / 8 → (not (ltb k 13) && not (eqb k 17)) ≡ true → Refers x
refers_is h y x ey eh z ez e k ek f =
    let q = object_kind k f in
    let l = q.0 in
    let g : x / 8 ≡ k = omega arith in
    record { low = omega arith; other = λ w. q.1 (sym g ∙ w); flags = omega arith }

pub text_byte : (h : ℕ) (t : Bool) → t ≡ is_text_reference h → t ≡ true → h ≡ 104
unfolding is_text_reference
text_byte h t et e = eqb-true h 104 (sym et ∙ e)

other_byte : (h : ℕ) (t : Bool) → t ≡ is_text_reference h → t ≡ false → (h ≡ 104 → ⊥)
unfolding is_text_reference
other_byte h t et e = eqb-false h 104 (sym et ∙ e)

pub row-of-text : (h : ℕ) (t : Bool) → t ≡ is_text_reference h → t ≡ true → RowMember h
row-of-text h t et e =
    let z = text_byte h t et e in
    record { low = omega arith; high = omega arith; flags = omega arith; other = λ q. absurd (omega arith) }

pub row-of-plain : (h : ℕ) → Plain h → RowMember h
row-of-plain h p =
    let l = p.low in
    let g = p.high in
    record { low = l; high = omega arith; flags = p.flags; other = λ q. absurd (omega arith) }

module _ (h : ℕ) (t : Bool) (et : t ≡ is_text_reference h) (f : t ≡ false) where
  pub plain-of-row : RowMember h → Plain h
  plain-of-row p =
      let z = other_byte h t et f in
      let g = p.high in
      let m = p.flags in
      let o = p.other in
      record { low = p.low; high = omega arith; flags = m }

  pub row_kind : RowMember h → (k : ℕ) → k ≡ h / 8 → k < 12
  row_kind p k e = let g = (plain-of-row p).high in omega arith

  pub width_is : (o : ℕ) → row_width o h ≡ plain_width (h / 8)
  unfolding row_width
  width_is o = simp (← et, f)

  pub width-plain : (o k : ℕ) → k ≡ h / 8 → (w : ℕ) → w ≡ plain_width k → w ≡ row_width o h
  width-plain o k ek w ew = ew ∙ ap plain_width ek ∙ sym (width_is o)

module _ (o h : ℕ) (t : Bool) (et : t ≡ is_text_reference h) (f : t ≡ true) where
  pub width-text : o ≡ row_width o h
  unfolding row_width
  width-text = simp (← et, f)

  pub text-wide : (w : ℕ) → w ≡ row_width o h → w ≡ o
  text-wide w ew = ew ∙ sym width-text

module _ (b : List ℕ) (first : ℕ) where
  pub row-members_none : RowMembers b first 0
  row-members_none = record { each = λ j l. absurd (omega arith) }

  pub row-members_more : (j : ℕ) → RowMembers b first j → (at : ℕ) → at ≡ first + 4 + 1 + 2 * j → (x : ℕ) → x ≡ get_or b at 0 → (h : ℕ) → h ≡ x → RowMember h → RowMembers b first (j + 1)
  row-members_more j ls at ea x ex h eh lf = record { each = λ k l. by k l (eqb k j) refl }
    where
      by : (k : ℕ) → k < j + 1 → (t : Bool) → eqb k j ≡ t → RowMember (get_or b (first + 4 + 1 + 2 * k) 0)
      by k l true q =
          let e = eqb-true k j q in
          subst RowMember (eh ∙ ex ∙ ap (λ (z : ℕ). get_or b z 0) (ea ∙ ap (λ (z : ℕ). first + 4 + 1 + 2 * z) (sym e))) lf
      by k l false q = let z = eqb-false k j q in ls.each k (omega arith)

  pub row-members_all : (j : ℕ) → RowMembers b first j → (count : ℕ) → j ≤ count → count ≤ j → RowMembers b first count
  row-members_all j ls count l g = let e : j ≡ count = omega arith in subst (RowMembers b first) e ls

-- ---- an object that is a row table
pub row-object : (b : List ℕ) (ob : Object) (t i : ℕ) → ob ≡ O.Table t → i ≡ t → (first : ℕ) → Block b 4 (P.table_place b i) first → (count : ℕ) → count ≡ P.records b 4 first
    → RowMembers b first count → RowObject b ob
row-object b ob t i e ei first bl count ec ls =
    subst (RowObject b) (sym e)
    (subst (λ (k : ℕ). RowMembers b k (P.records b 4 k)) (bl.is ∙ ap (P.table_place b) ei) (subst (RowMembers b first) ec ls))

pub row-counted : (b : List ℕ) (t i : ℕ) → i ≡ t → ObjectSound (P.parse b) (O.Table t) → i < P.table_count b
row-counted b t i e h = rw e (table_index b t h)

pub row-table : (b : List ℕ) (t i : ℕ) → i ≡ t → ObjectSound (P.parse b) (O.Table t) → RowObject b (O.Table t) → (first : ℕ) → Block b 4 (P.table_place b i) first → (id : ℕ)
    → id ≡ (Sc.table_of (P.parse b) i).id → (count : ℕ) → count ≡ P.records b 4 first → count < 256
    → RowTable b (record { table = t; id = id; first = first; count = count })
row-table b t i ei sound ls first bl id eid count ec few =
    let stands : first ≡ P.table_place b t = bl.is ∙ ap (P.table_place b) ei in
    let z = bl.inside in
    record {
      counted = table_index b t sound;
      id = eid ∙ ap (λ (k : ℕ). (Sc.table_of (P.parse b) k).id) ei;
      is = stands;
      inside = omega arith;
      small = bl.small;
      few = few;
      all = ec;
      rows = subst (RowMembers b first) (sym ec) (subst (λ (k : ℕ). RowMembers b k (P.records b 4 k)) (sym stands) ls);
    }
