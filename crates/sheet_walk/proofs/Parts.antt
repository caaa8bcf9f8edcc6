-- The members of a table and the elements of a list, turn by turn.
use mathlib.Core.Path.{◌≡◌, refl, sym, ap, ap₂, ◌∙◌, subst}
use mathlib.Core.Bool.{Bool, true, false}
use mathlib.Core.List.{List, ◌∷◌, ◌++◌}
use Prim.Native.Nat.{ℕ, zero, suc, ◌+◌, ◌-◌, ◌*◌, ◌/◌, ◌%◌, ◌^◌, ◌<◌, ◌≤◌}
use native.Mathlib.Omega.{arith}
use native.Mathlib.Nat.{mul-zero, add-zero, mul-suc}
use native.Mathlib.Numerals.{add-one}
use lib.ListN.{length, get_or, drop, drop_of_length-le}
use lib.Seq.{drop-cons}
use Rattle.coding.specs.Lists.{pick}
use Rattle.coding.specs.Bytes.{le, bit_at}
use Rattle.coding.specs.Schema as Sc
use Rattle.coding.specs.Schema.{Schema}
use Rattle.coding.specs.Packed as P
use Rattle.coding.specs.Structs.{flat_width}
use Rattle.coding.specs.Layout as L
use Rattle.coding.specs.Step as T
use Rattle.coding.specs.Value as Tree
use Rattle.coding.specs.Read as R
use Rattle.coding.specs.Bits.{bits_of}
use Rattle.coding.specs.Sheet as E
use Rattle.coding.specs.declared.Flat.TheVariants as F
use Rattle.coding.specs.declared.Kind.{Kind}
use Rattle.coding.specs.declared.Kind.TheVariants.{OfFlat, OfObject, OfUnion}
use Rattle.coding.specs.declared.Member.{Member}
use Rattle.coding.specs.declared.Cursor.{Cursor}
use Rattle.coding.specs.declared.Step.{Step}
use Rattle.laws.specs.Sound.{KindSound}
use Rattle.schema.specs.Kinds.{flat_integer, integer_width}
use Rattle.schema.specs.Directory.{Accepted, accepted_sound}
use Rattle.message_step.specs.Lead.{reached}
use Rattle.message_step.specs.declared.Reach.{Reach}
use Rattle.message_step.specs.declared.Reach.TheVariants.{Cut, Past, Here}
use Rattle.message_step.proofs.Inside.{index_small}
use Rattle.wire.specs.Sizes.{Width}
use Rattle.bitio.specs.Puts.{Room, Puts}
use Rattle.bitio.specs.PutsLaws.{puts_then, puts-same}
use Rattle.sheet_lists.specs.Elements as Es
use Rattle.sheet_walk.specs.MessageBits as A
use Rattle.sheet_walk.specs.Readable as D
use Rattle.sheet_walk.specs.declared.Code.{Code}
use Rattle.sheet_walk.specs.Stepping.{Coded, behind}
use Rattle.sheet_walk.proofs.PartLaws.{member-part, element-part}
use Rattle.sheet_values.proofs.Remaining.{Remaining, remaining_all, remaining_turn, remaining_done}

-- ---- members
pub members_start : (o d : ℕ) (S : Schema) (m : List ℕ) (start n t : ℕ) (c : Cursor) (out : List ℕ) (p : ℕ) → c ≡ L.begin
    → Remaining out p (A.members_at o d S m start n L.begin (Sc.table_of S t).members) out p (A.members_at o d S m start n c (drop 0 (Sc.table_of S t).members))
members_start o d S m start n t c out p e =
    remaining_all out p (A.members_at o d S m start n L.begin (Sc.table_of S t).members) (A.members_at o d S m start n c (Sc.table_of S t).members)
    (ap (λ (q : Cursor). A.members_at o d S m start n q (Sc.table_of S t).members) e)

pub readable_start : (o : ℕ) (child : D.Child) (S : Schema) (m : List ℕ) (start n t : ℕ) (c : Cursor) → c ≡ L.begin
    → D.MembersReadable o child S m start n L.begin (Sc.table_of S t).members → D.MembersReadable o child S m start n c (drop 0 (Sc.table_of S t).members)
readable_start o child S m start n t c e h = subst (λ (q : Cursor). D.MembersReadable o child S m start n q (Sc.table_of S t).members) (sym e) h

pub members-opened : (S : Schema) (t j count : ℕ) → count ≡ length (Sc.table_of S t).members → j < count
    → drop j (Sc.table_of S t).members ≡ Sc.member_of S t j ∷ drop (j + 1) (Sc.table_of S t).members
unfolding Sc.member_of
members-opened S t j count ec h =
    drop-cons (Sc.table_of S t).members j Sc.plain_bool (omega arith)
    ∙ ap (λ (x : ℕ). get_or (Sc.table_of S t).members j Sc.plain_bool ∷ drop x (Sc.table_of S t).members) (sym (add-one j))

pub members_cons : (o d : ℕ) (S : Schema) (m : List ℕ) (start n : ℕ) (c : Cursor) (r : Member) (rs : List Member)
    → D.StepReadable (D.ObjectReadable o d S m) S m (T.member_step o S m start n c r)
    → A.members_at o d S m start n c (r ∷ rs) ≡ A.step_at o d S m r.kind (T.member_step o S m start n c r) ++ A.members_at o d S m start n (L.after_member o S r c) rs
unfolding A.members_at E.members_bits R.members_read Tree.first Tree.others
members_cons o d S m start n c r rs h =
    ap (λ (l : List ℕ). l ++ E.members_bits (E.encode d S) S rs (R.members_read (R.read d o S m) o S m start n (L.after_member o S r c) rs)) (member-part o d S m start n c r h)

-- the member that comes next
module _ (o d : ℕ) (S : Schema) (m : List ℕ) (start n t j count : ℕ) (c : Cursor) (ec : count ≡ length (Sc.table_of S t).members) (h : j < count)
    (good : D.MembersReadable o (D.ObjectReadable o d S m) S m start n c (drop j (Sc.table_of S t).members)) (r : Member) (er : r ≡ Sc.member_of S t j) where
  opened : drop j (Sc.table_of S t).members ≡ r ∷ drop (j + 1) (Sc.table_of S t).members
  opened = members-opened S t j count ec h ∙ ap (λ (q : Member). q ∷ drop (j + 1) (Sc.table_of S t).members) (sym er)

  split : D.StepReadable (D.ObjectReadable o d S m) S m (T.member_step o S m start n c r)
      × D.MembersReadable o (D.ObjectReadable o d S m) S m start n (L.after_member o S r c) (drop (j + 1) (Sc.table_of S t).members)
  unfolding D.MembersReadable
  split = subst (D.MembersReadable o (D.ObjectReadable o d S m) S m start n c) opened good

  pub member_readable : D.StepReadable (D.ObjectReadable o d S m) S m (T.member_step o S m start n c r)
  member_readable = split.0

  module _ (next : Cursor) (en : next ≡ L.after_member o S r c) where
    pub members-rest : D.MembersReadable o (D.ObjectReadable o d S m) S m start n next (drop (j + 1) (Sc.table_of S t).members)
    members-rest = subst (λ (q : Cursor). D.MembersReadable o (D.ObjectReadable o d S m) S m start n q (drop (j + 1) (Sc.table_of S t).members)) (sym en) split.1

    pub members_turn : (whole out₀ out out₁ : List ℕ) (p₀ p p₁ : ℕ) → Remaining out₀ p₀ whole out p (A.members_at o d S m start n c (drop j (Sc.table_of S t).members))
        → Room out p → Puts out p (A.step_at o d S m r.kind (T.member_step o S m start n c r)) out₁ p₁
        → Remaining out₀ p₀ whole out₁ p₁ (A.members_at o d S m start n next (drop (j + 1) (Sc.table_of S t).members))
    members_turn whole out₀ out out₁ p₀ p p₁ inv g put =
        remaining_turn out₀ out out₁ p₀ p p₁ whole (A.members_at o d S m start n c (drop j (Sc.table_of S t).members)) (A.step_at o d S m r.kind (T.member_step o S m start n c r))
        (A.members_at o d S m start n next (drop (j + 1) (Sc.table_of S t).members)) inv g.short
        (ap (A.members_at o d S m start n c) opened ∙ members_cons o d S m start n c r (drop (j + 1) (Sc.table_of S t).members) split.0
        ∙ ap (λ (q : Cursor). A.step_at o d S m r.kind (T.member_step o S m start n c r) ++ A.members_at o d S m start n q (drop (j + 1) (Sc.table_of S t).members)) (sym en))
        put

pub members_done : (o d : ℕ) (S : Schema) (m : List ℕ) (start n t j count : ℕ) (c : Cursor) (whole out₀ out : List ℕ) (p₀ p : ℕ)
    → Remaining out₀ p₀ whole out p (A.members_at o d S m start n c (drop j (Sc.table_of S t).members)) → Room out p → count ≡ length (Sc.table_of S t).members → count ≤ j
    → Puts out₀ p₀ whole out p
unfolding A.members_at E.members_bits
members_done o d S m start n t j count c whole out₀ out p₀ p inv g ec h =
    let l : length (Sc.table_of S t).members ≤ j = omega arith in
    remaining_done out₀ out p₀ p whole (A.members_at o d S m start n c (drop j (Sc.table_of S t).members)) inv g
    (ap (λ (rs : List Member). A.members_at o d S m start n c rs) (drop_of_length-le (Sc.table_of S t).members l))

-- a member by its code
module _ (r : Member) (q : Code) (is : Coded r q) (c : Cursor) where
  pub coded_next : (o : ℕ) (S : Schema) (next : Cursor) → next ≡ behind q c → next ≡ L.after_member o S r c
  coded_next o S next e = e ∙ sym (is.next_is o S c)

  pub coded_puts : (o d : ℕ) (S : Schema) (m : List ℕ) (start n : ℕ) (out out₁ : List ℕ) (p p₁ : ℕ) → Puts out p (A.coded_at m q start n c) out₁ p₁
      → Puts out p (A.step_at o d S m r.kind (T.member_step o S m start n c r)) out₁ p₁
  coded_puts o d S m start n out out₁ p p₁ put =
      puts-same out out₁ p p₁ (A.coded_at m q start n c) (A.step_at o d S m r.kind (T.member_step o S m start n c r)) (sym (is.bits_are o d S m start n c)) put

-- ---- elements with their marks
pub elements_start : (o d : ℕ) (S : Schema) (m : List ℕ) (k : Kind) (start n : ℕ) (out : List ℕ) (p : ℕ)
    → Remaining out p (A.elements_at o d S m k start n 0) out p (A.elements_at o d S m k start (n - 0) 0)
elements_start o d S m k start n out p =
    let z : n - 0 ≡ n = omega arith in
    remaining_all out p (A.elements_at o d S m k start n 0) (A.elements_at o d S m k start (n - 0) 0) (ap (λ (x : ℕ). A.elements_at o d S m k start x 0) z)

pub elements_readable : (o : ℕ) (child : D.Child) (S : Schema) (m : List ℕ) (k : Kind) (start n : ℕ) → D.ElementsReadable o child S m k start n 0
    → D.ElementsReadable o child S m k start (n - 0) 0
elements_readable o child S m k start n h = let z : n ≡ n - 0 = omega arith in subst (λ (x : ℕ). D.ElementsReadable o child S m k start x 0) z h

pub elements_cons : (o d : ℕ) (S : Schema) (m : List ℕ) (k : Kind) (start n i : ℕ) → E.unmarked k ≡ false
    → D.StepReadable (D.ObjectReadable o d S m) S m (T.element_step o S m k start i)
    → A.elements_at o d S m k start (suc n) i ≡ A.step_at o d S m k (T.element_step o S m k start i) ++ A.elements_at o d S m k start n (i + 1)
unfolding A.elements_at E.elements_bits R.elements_read E.element_bits
elements_cons o d S m k start n i e h =
    ap (λ (l : List ℕ). l ++ E.elements_bits (E.encode d S) S k (R.elements_read (R.read d o S m) o S m start k n (i + 1)))
    (ap (λ (t : Bool). pick t (E.body_bits (E.encode d S) S k (R.step_read (R.struct_read S m) (R.read d o S m) (T.element_step o S m k start i))) (E.part_bits (E.encode d S) S k (R.step_read (R.struct_read S m) (R.read d o S m) (T.element_step o S m k start i)))) e
    ∙ element-part o d S m k start i h)

module _ (o d : ℕ) (S : Schema) (m : List ℕ) (k : Kind) (start n j : ℕ) (h : j < n)
    (good : D.ElementsReadable o (D.ObjectReadable o d S m) S m k start (n - j) j) where
  split-elements : D.StepReadable (D.ObjectReadable o d S m) S m (T.element_step o S m k start j) × D.ElementsReadable o (D.ObjectReadable o d S m) S m k start (n - (j + 1)) (j + 1)
  unfolding D.ElementsReadable
  split-elements =
      let z : n - j ≡ suc (n - (j + 1)) = omega arith in
      subst (λ (x : ℕ). D.ElementsReadable o (D.ObjectReadable o d S m) S m k start x j) z good

  pub elements-rest : D.ElementsReadable o (D.ObjectReadable o d S m) S m k start (n - (j + 1)) (j + 1)
  elements-rest = split-elements.1

  -- by the step of element j
  module _ (s : Step) (es : s ≡ T.element_step o S m k start j) where
    pub element_readable : D.StepReadable (D.ObjectReadable o d S m) S m s
    element_readable = subst (D.StepReadable (D.ObjectReadable o d S m) S m) (sym es) split-elements.0

    pub elements_turn : E.unmarked k ≡ false → (whole out₀ out out₁ : List ℕ) (p₀ p p₁ : ℕ) → Remaining out₀ p₀ whole out p (A.elements_at o d S m k start (n - j) j)
        → Room out p → Puts out p (A.step_at o d S m k s) out₁ p₁ → Remaining out₀ p₀ whole out₁ p₁ (A.elements_at o d S m k start (n - (j + 1)) (j + 1))
    elements_turn f whole out₀ out out₁ p₀ p p₁ inv g put =
        let z : n - j ≡ suc (n - (j + 1)) = omega arith in
        remaining_turn out₀ out out₁ p₀ p p₁ whole (A.elements_at o d S m k start (n - j) j) (A.step_at o d S m k s)
        (A.elements_at o d S m k start (n - (j + 1)) (j + 1)) inv g.short
        (ap (λ (x : ℕ). A.elements_at o d S m k start x j) z ∙ elements_cons o d S m k start (n - (j + 1)) j f split-elements.0
        ∙ ap (λ (v : Step). A.step_at o d S m k v ++ A.elements_at o d S m k start (n - (j + 1)) (j + 1)) (sym es))
        put

pub elements_done : (o d : ℕ) (S : Schema) (m : List ℕ) (k : Kind) (start n j : ℕ) (whole out₀ out : List ℕ) (p₀ p : ℕ)
    → Remaining out₀ p₀ whole out p (A.elements_at o d S m k start (n - j) j) → Room out p → n ≤ j → Puts out₀ p₀ whole out p
unfolding A.elements_at E.elements_bits R.elements_read
elements_done o d S m k start n j whole out₀ out p₀ p inv g h =
    let z : n - j ≡ 0 = omega arith in
    remaining_done out₀ out p₀ p whole (A.elements_at o d S m k start (n - j) j) inv g (ap (λ (x : ℕ). A.elements_at o d S m k start x j) z)

-- ---- a list
pub element_sound : (b dir : List ℕ) → Accepted b dir → (i : ℕ) (k : Kind) → k ≡ Sc.element_of (P.parse b) i → KindSound (P.parse b) k
element_sound b dir a i k e = rw e ((accepted_sound b dir a).lists i).kind

-- a list has not many elements
pub list_few : (o : ℕ) → Width o → (b dir : List ℕ) → Accepted b dir → (i start n c : ℕ) → start + T.elements_size o (P.parse b) (Sc.element_of (P.parse b) i) n ≤ c → c ≤ 16777215
    → n < 2 ^ 48
list_few o w b dir a i start zero c h l = omega arith
list_few o w b dir a i start (suc n) c h l =
    let q = index_small o w.0 b dir a (Sc.element_of (P.parse b) i) ((accepted_sound b dir a).lists i).kind start (suc n) c n h l (omega arith) in omega arith

pub list_start : (start x c : ℕ) → start + x ≤ c → c ≤ 16777215 → start < 2 ^ 58
list_start start x c h l = omega arith

module _ (o d : ℕ) (S : Schema) (m : List ℕ) (i start n x : ℕ) (k : Kind) (e : k ≡ Sc.element_of S i) (ex : x ≡ n) (out out₁ out₂ : List ℕ) (p q r : ℕ) (g : Room out p)
    (h : Puts out p (bits_of 32 x) out₁ q) where
  pub list-elements : Puts out₁ q (A.elements_at o d S m k start n 0) out₂ r → Puts out p (A.list_at o d S m (Sc.element_of S i) start n) out₂ r
  unfolding A.list_at
  list-elements l =
      puts_then out out₁ out₂ p q r (bits_of 32 n) (A.elements_at o d S m (Sc.element_of S i) start n 0) g.short
      (subst (λ (v : ℕ). Puts out p (bits_of 32 v) out₁ q) ex h) (subst (λ (v : Kind). Puts out₁ q (A.elements_at o d S m v start n 0) out₂ r) e l)

module _ (o : ℕ) (S : Schema) (i : ℕ) (k : Kind) (e : k ≡ Sc.element_of S i) where
  pub elements-inside : (start n c : ℕ) → start + T.elements_size o S (Sc.element_of S i) n ≤ c → start + T.elements_size o S k n ≤ c
  elements-inside start n c h = subst (λ (v : Kind). start + T.elements_size o S v n ≤ c) (sym e) h

  pub elements-given : (child : D.Child) (m : List ℕ) (start n : ℕ) → D.ElementsReadable o child S m (Sc.element_of S i) start n 0 → D.ElementsReadable o child S m k start n 0
  elements-given child m start n h = subst (λ (v : Kind). D.ElementsReadable o child S m v start n 0) (sym e) h
