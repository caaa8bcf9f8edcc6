-- What the rules of direct lists (02, K1) say of the typed schema.
use Rattle.std.specs.Prelude.{◌≡◌, ◌&&◌, not, List, ltb}
use Rattle.std.proofs.Math.Path.{refl}
use Rattle.std.proofs.Common.{sym, ◌∙◌, add-one, add-zero, arith}
use Rattle.std.proofs.Math.Bool.{Bool, true, false, and-false}
use Prim.Native.Nat.{ℕ, zero, suc, ◌+◌, ◌<◌, ◌≤◌}
use Rattle.std.proofs.Math.Dec.{eqb}
use borrow.Author.Tests.{ltb-true, ltb-false, eqb-true, eqb-false, eq-eqb, not-true}
use Rattle.coding.specs.Lists.{pick, every, run}
use Rattle.coding.specs.Packed as P
use Rattle.coding.specs.Lawful as L
use Rattle.coding.specs.Schema as Sc
use Rattle.coding.specs.declared.Object.TheVariants as O
use Rattle.coding.specs.declared.Kind.TheVariants.{OfFlat, OfObject, OfUnion}
use Rattle.laws.specs.Sound.{All, inplace_count, DirectSound, NotDirect, KindNotDirect, MemberNotDirect, NoDirects}
use Rattle.laws.specs.Lists.{every-at, both_left, both_right, pick_holds, never, run_all}
use Rattle.laws.specs.Parsed as Pa

-- in range or past it
pub either : {A : Type 0} (i n : ℕ) → (i < n → A) → (n ≤ i → A) → A
either {A} i n f g = by (ltb i n) refl
  where
    by : (t : Bool) → ltb i n ≡ t → A
    by true e = f (ltb-true i n e)
    by false e = g (ltb-false i n e)

-- what holds of each record of a block holds of all
pub records_all : {A : Type 0} (Q : A → Type 0) (f : List ℕ → ℕ → A) (b : List ℕ) (head at : ℕ)
    → ((j : ℕ) → j < P.records b head at → Q (f b (P.record_place head at j))) → All Q (P.records_at f b head at)
unfolding P.records_at
records_all Q f b head at h = run_all (λ j. f b (P.record_place head at j)) Q (P.records b head at) h

-- ---- the members in place, as the packed bytes count them
inplaces_next : (b : List ℕ) (at i : ℕ) → L.inplaces b at (i + 1) ≡ L.inplaces b at i + pick (P.inplace_at b (P.record_place 4 at i)) 1 0
unfolding L.inplaces
inplaces_next b at i = rw add-one

member_inplace : (b : List ℕ) (p : ℕ) → (P.member_at b p).inplace ≡ P.inplace_at b p
unfolding P.member_at
member_inplace b p = refl

inplaces-from : (b : List ℕ) (at n i : ℕ)
    → inplace_count (run (λ j. P.member_at b (P.record_place 4 at j)) i n) + L.inplaces b at i ≡ L.inplaces b at (i + n)
unfolding inplace_count run
inplaces-from b at zero i = let e : i + 0 ≡ i = omega arith in rw e (omega arith)
inplaces-from b at (suc n) i =
    let e : i + suc n ≡ i + 1 + n = omega arith in
    rw (e, member_inplace b (P.record_place 4 at i)) (omega (arith, inplaces-from b at n (i + 1), inplaces_next b at i))

pub inplaces_are : (b : List ℕ) (at : ℕ) → inplace_count (P.records_at P.member_at b 4 at) ≡ L.inplaces b at (P.records b 4 at)
unfolding P.records_at L.inplaces
inplaces_are b at =
    let e : 0 + P.records b 4 at ≡ P.records b 4 at = omega arith in
    let h : inplace_count (run (λ j. P.member_at b (P.record_place 4 at j)) 0 (P.records b 4 at)) + 0 ≡ L.inplaces b at (0 + P.records b 4 at) = inplaces-from b at (P.records b 4 at) 0 in
    sym (add-zero _) ∙ h ∙ rw e

-- ---- the table of a direct list's elements
pub direct_sound : (b : List ℕ) (t : ℕ) → t < P.table_count b → L.direct_table b (P.table_place b t) ≡ true → DirectSound (P.parse b) t
unfolding L.direct_table
direct_sound b t l e =
    let n : ℕ = P.records b 4 (P.table_place b t) in
    let some : 0 < n = ltb-true _ _ (both_left (ltb 0 n) _ e) in
    let none : L.inplaces b (P.table_place b t) n ≡ 0 = eqb-true _ _ (both_right (ltb 0 n) _ e) in
    record {
      table = omega (arith, Pa.tables-length b);
      some = omega (arith, Pa.members-length b t l);
      outside = rw (Pa.members-at b t l) (inplaces_are b (P.table_place b t) ∙ none);
    }

-- ---- no direct list
pub object-not-direct : (k a : ℕ) → (k ≡ 18 → ⊥) → NotDirect (P.object_of k a)
unfolding P.object_of
object-not-direct k a n =
    pick_holds NotDirect (eqb k 13) O.Text _ (λ h. tt) λ h0.
    pick_holds NotDirect (eqb k 14) O.Bytes _ (λ h. tt) λ h1.
    pick_holds NotDirect (eqb k 15) (O.List a) _ (λ h. tt) λ h2.
    pick_holds NotDirect (eqb k 18) (O.DirectList a) (O.Table a) (λ h. n (eqb-true _ _ h)) λ h3. tt

pub kind-not-direct : (k a : ℕ) → (k ≡ 18 → ⊥) → KindNotDirect (P.kind_of k a)
unfolding P.kind_of
kind-not-direct k a n =
    pick_holds KindNotDirect (ltb k 13) (OfFlat (P.flat_of k a)) _ (λ h. tt) λ h0.
    pick_holds KindNotDirect (eqb k 17) (OfUnion a) (OfObject (P.object_of k a)) (λ h. tt) λ h1. object-not-direct k a n

-- the cases of a union that a table holds in place
pub held_cases : (b : List ℕ) (i : ℕ) → i < P.union_count b → L.held_union b (P.union_place b i) ≡ true
    → All NotDirect (Sc.cases_of (P.parse b) i)
unfolding L.held_union P.object_at
held_cases b i l e =
    let p : ℕ = P.union_place b i in
    rw (Pa.cases-at b i l)
    (records_all NotDirect P.object_at b 0 p
    (λ j m. object-not-direct (P.kind_at b (P.record_place 0 p j)) (P.argument_at b (P.record_place 0 p j))
    (eqb-false _ _ (not-true _ (every-at (λ q. not (eqb (P.kind_at b (P.record_place 0 p q)) 18)) (P.records b 0 p) j e m)))))

-- ---- under the older coding
module _ (b : List ℕ) (e : L.older_ok b ≡ true) where
  older-rest : (every (L.older_union b) (P.union_count b) && every (L.older_table b) (P.table_count b)) ≡ true
  unfolding L.older_ok
  older-rest = both_right (every (λ i. L.older_element b (P.list_place b i)) (P.list_count b)) _ e

  -- an element of kind 18 is none that the rule lets through
  older-element : (at : ℕ) → L.older_element b at ≡ true → P.kind_at b at ≡ 18 → ⊥
  unfolding L.older_element
  older-element at h z = never (simp (eq-eqb _ _ z, and-false) at h)

  older_list_lem : (i : ℕ) → i < P.list_count b → KindNotDirect (Sc.element_of (P.parse b) i)
  unfolding L.older_ok P.element_at
  older_list_lem i l =
      let at : ℕ = P.list_place b i in
      let f : ℕ → Bool = λ j. L.older_element b (P.list_place b j) in
      rw (Pa.element-at b i l)
      (kind-not-direct (P.kind_at b at) (P.argument_at b at)
      (older-element at (every-at f (P.list_count b) i (both_left (every f (P.list_count b)) _ e) l)))

  older_list_past : (i : ℕ) → P.list_count b ≤ i → KindNotDirect (Sc.element_of (P.parse b) i)
  unfolding Sc.plain_bool
  older_list_past i l = rw (Pa.element_past b i l) tt

  older-union : (i : ℕ) → i < P.union_count b → All NotDirect (Sc.cases_of (P.parse b) i)
  unfolding L.older_union
  older-union i l =
      held_cases b i l
      (every-at (L.older_union b) (P.union_count b) i (both_left (every (L.older_union b) (P.union_count b)) _ older-rest) l)

  -- a member of kind 18 is none of the kinds that the rule lets through
  older-member : (at : ℕ) → L.older_member b at ≡ true → P.kind_at b at ≡ 18 → ⊥
  unfolding L.older_member
  older-member at h z =
      let n17 : eqb (P.kind_at b at) 17 ≡ false = rw z refl in
      let n16 : eqb (P.kind_at b at) 16 ≡ false = rw z refl in
      let n18 : eqb (P.kind_at b at) 18 ≡ true = eq-eqb _ _ z in
      never (simp (n17, n16, n18) at h)

  older-table : (i : ℕ) → i < P.table_count b → All MemberNotDirect (Sc.table_of (P.parse b) i).members
  unfolding L.older_table P.member_at P.element_at
  older-table i l =
      let p : ℕ = P.table_place b i in
      let h : L.older_table b i ≡ true =
      every-at (L.older_table b) (P.table_count b) i (both_right (every (L.older_union b) (P.union_count b)) _ older-rest) l in
      rw (Pa.members-at b i l)
      (records_all MemberNotDirect P.member_at b 4 p
      (λ j m. kind-not-direct (P.kind_at b (P.record_place 4 p j)) (P.argument_at b (P.record_place 4 p j))
      (older-member (P.record_place 4 p j) (every-at (λ q. L.older_member b (P.record_place 4 p q)) (P.records b 4 p) j h m))))

  pub older_no-directs : NoDirects (P.parse b)
  older_no-directs =
      record {
        lists = λ i. either i (P.list_count b) (older_list_lem i) (older_list_past i);
        unions = λ i. either i (P.union_count b) (older-union i) (λ l. rw (Pa.cases_past b i l) tt);
        tables = λ i. either i (P.table_count b) (older-table i) (λ l. rw (Pa.table_past b i l) tt);
      }
