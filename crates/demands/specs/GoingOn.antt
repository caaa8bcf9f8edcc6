-- A walk that goes on has gone on at every member and element of what it judged; and what is read at each of them.
use Rattle.std.specs.Prelude.{◌≡◌, length, get_or, take, Ok, Err}
use Rattle.std.proofs.Math.Path.{refl, subst, ap}
use Rattle.std.proofs.Common.{sym, ◌∙◌, arith, add_assoc}
use mathlib.Core.List.{List, [], ◌∷◌}
use Prim.Native.Nat.{ℕ, zero, suc, ◌+◌, ◌*◌, ◌<◌}
use Rattle.std.proofs.Math.Nat.{add-zero}
use Rattle.coding.specs.Schema.{Schema, plain_bool}
use Rattle.coding.specs.Structs.{flat_width, total, struct_size}
use Rattle.coding.specs.Layout.{after_member, after_members}
use Rattle.coding.specs.Step.{field_step, member_step, element_step}
use Rattle.coding.specs.Walk.{Child, refuse, refuse_part, and_then, follow, members, elements, directs, Walked}
use Rattle.coding.specs.Value as Tree
use Rattle.coding.specs.Read as Read
use Rattle.laws.specs.DirectPlaces.{element-first, element_next}
use Rattle.demands.specs.FieldEntries.{value_at}
use Rattle.coding.specs.declared.Flat.{Flat}
use Rattle.coding.specs.declared.Flat.TheVariants as F
use Rattle.coding.specs.declared.Object.{Object}
use Rattle.coding.specs.declared.Object.TheVariants as O
use Rattle.coding.specs.declared.Kind.{Kind}
use Rattle.coding.specs.declared.Member.{Member}
use Rattle.coding.specs.declared.Cursor.{Cursor}
use Rattle.coding.specs.declared.Place.{Place}
use Rattle.coding.specs.declared.Place.TheVariants.{InPlace}
use Rattle.coding.specs.declared.Step.{Step}
use Rattle.coding.specs.declared.Spent.{Spent}
use Rattle.coding.specs.declared.Refusal.{Refusal}

-- the walk goes on from a step, at some point
pub record GoesOn (child : Child) (holder part : ℕ) (step : Step) : Type 0 where
  pub from : Spent
  pub to : Spent
  pub goes : follow child holder part step from ≡ Ok to

-- ---- what goes on is not refused
pub refused_going : (r : Refusal) (s t : Spent) → ◌≡◌ {A = Walked} (Err (r, s)) (Ok t) → ⊥
refused_going r s t e = let z : ◌≡◌ {A = ℕ} 0 1 = cc in omega arith

pub refuse_going : (n at : ℕ) (s t : Spent) → refuse n at s ≡ Ok t → ⊥
unfolding refuse
refuse_going n at s t e = refused_going _ _ _ e

pub refuse-part_going : (n holder j : ℕ) (s t : Spent) → refuse_part n holder j s ≡ Ok t → ⊥
unfolding refuse_part
refuse-part_going n holder j s t e = refused_going _ _ _ e

shift : (i j : ℕ) → i + 1 + j ≡ i + suc j
shift i j = omega arith

-- both parts have gone on
pub record Both (w : Walked) (next : Spent → Walked) (t : Spent) : Type 0 where
  pub middle : Spent
  pub first : w ≡ Ok middle
  pub second : next middle ≡ Ok t

pub both : (w : Walked) (next : Spent → Walked) (t : Spent) → and_then w next ≡ Ok t → Both w next t
unfolding and_then
both (Ok u) next t e = record { middle = u; first = refl; second = e }
both (Err (r, u)) next t e = absurd (refused_going _ _ _ e)

-- ---- the members of a table
module _ (child : Child) (o : ℕ) (S : Schema) (m : List ℕ) (holder start n : ℕ) where
  pub members_going : (rs : List Member) (c : Cursor) (i : ℕ) (s t : Spent) → members child o S m holder start n c i rs s ≡ Ok t
      → (j : ℕ) → j < length rs
      → GoesOn child holder (i + j) (member_step o S m start n (after_members o S (take j rs) c) (get_or rs j plain_bool))
  unfolding members after_members
  members_going [] c i s t e j l = absurd (omega arith)
  members_going (r ∷ rs) c i s t e zero l =
      let b = both _ _ _ e in record { from = s; to = b.middle; goes = rw add-zero b.first }
  members_going (r ∷ rs) c i s t e (suc j) l =
      let b = both _ _ _ e in
      subst (λ (x : ℕ). GoesOn child holder x (member_step o S m start n (after_members o S (take j rs) (after_member o S r c)) (get_or rs j plain_bool))) (shift i j)
      (members_going rs (after_member o S r c) (i + 1) b.middle t b.second j (omega arith))

  pub elements_going : (k : Kind) (count i : ℕ) (s t : Spent) → elements child o S m holder start k count i s ≡ Ok t
      → (j : ℕ) → j < count → GoesOn child holder (i + j) (element_step o S m k start (i + j))
  unfolding elements
  elements_going k zero i s t e j l = absurd (omega arith)
  elements_going k (suc count) i s t e zero l =
      let b = both _ _ _ e in record { from = s; to = b.middle; goes = rw add-zero b.first }
  elements_going k (suc count) i s t e (suc j) l =
      let b = both _ _ _ e in
      subst (λ (x : ℕ). GoesOn child holder x (element_step o S m k start x)) (shift i j)
      (elements_going k count (i + 1) b.middle t b.second j (omega arith))

-- ---- the elements of a direct list: the walk has gone on from each
pub record Arrived (child : Child) (ob : Object) (p : Place) : Type 0 where
  pub from : Spent
  pub to : Spent
  pub goes : child ob p from ≡ Ok to

pub directs_going : (child : Child) (t w count at : ℕ) (s u : Spent) → directs child t w count at s ≡ Ok u → (j : ℕ) → j < count
    → Arrived child (O.Table t) (InPlace (at + w * j) w)
unfolding directs
directs_going child t w zero at s u e j l = absurd (omega arith)
directs_going child t w (suc count) at s u e zero l =
    let b = both _ _ _ e in record { from = s; to = b.middle; goes = rw (element-first at w) b.first }
directs_going child t w (suc count) at s u e (suc j) l =
    let b = both _ _ _ e in
    subst (λ (x : ℕ). Arrived child (O.Table t) (InPlace x w)) (sym (element_next at w j))
    (directs_going child t w count (at + w) b.middle u b.second j (omega arith))

-- ---- what is read at each
pub directs-at : (child : Read.Child) (t w count at j : ℕ) → j < count
    → value_at (Read.directs_read child t w count at) j ≡ child (O.Table t) (InPlace (at + w * j) w)
unfolding Read.directs_read value_at
directs-at child t w zero at j l = absurd (omega arith)
directs-at child t w (suc count) at zero l = rw (element-first at w)
directs-at child t w (suc count) at (suc j) l =
    directs-at child t w count (at + w) j (omega arith)
    ∙ ap (λ (x : ℕ). child (O.Table t) (InPlace x w)) (sym (element_next at w j))

pub directs-count : (child : Read.Child) (t w count at : ℕ) → Tree.count (Read.directs_read child t w count at) ≡ count
unfolding Read.directs_read Tree.count
directs-count child t w zero at = refl
directs-count child t w (suc count) at = ap suc (directs-count child t w count (at + w))

module _ (child : Read.Child) (o : ℕ) (S : Schema) (m : List ℕ) (start n : ℕ) where
  pub members-at : (rs : List Member) (c : Cursor) (j : ℕ) → j < length rs
      → value_at (Read.members_read child o S m start n c rs) j
      ≡ Read.step_read (Read.struct_read S m) child (member_step o S m start n (after_members o S (take j rs) c) (get_or rs j plain_bool))
  unfolding Read.members_read after_members value_at
  members-at [] c j l = absurd (omega arith)
  members-at (r ∷ rs) c zero l = refl
  members-at (r ∷ rs) c (suc j) l = members-at rs (after_member o S r c) j (omega arith)

module _ (child : Read.Child) (o : ℕ) (S : Schema) (m : List ℕ) (start : ℕ) (k : Kind) where
  pub elements-at : (count i j : ℕ) → j < count
      → value_at (Read.elements_read child o S m start k count i) j
      ≡ Read.step_read (Read.struct_read S m) child (element_step o S m k start (i + j))
  unfolding Read.elements_read value_at
  elements-at zero i j l = absurd (omega arith)
  elements-at (suc count) i zero l = rw add-zero
  elements-at (suc count) i (suc j) l =
      subst
      (λ (x : ℕ). value_at (Read.elements_read child o S m start k count (i + 1)) j ≡ Read.step_read (Read.struct_read S m) child (element_step o S m k start x))
      (shift i j)
      (elements-at count (i + 1) j (omega arith))

  pub elements-count : (count i : ℕ) → Tree.count (Read.elements_read child o S m start k count i) ≡ count
  unfolding Read.elements_read Tree.count
  elements-count zero i = refl
  elements-count (suc count) i = ap suc (elements-count count (i + 1))

module _ (inner : ℕ → ℕ → Tree.Value) (S : Schema) (m : List ℕ) where
  pub fields_at : (ks : List Flat) (at j : ℕ) → j < length ks
      → value_at (Read.fields_read inner S m ks at) j
      ≡ Read.step_read inner Read.no_object (field_step m (get_or ks j F.Boolean) (at + total (struct_size S) (take j ks)))
  unfolding Read.fields_read value_at total
  fields_at [] at j l = absurd (omega arith)
  fields_at (k ∷ ks) at zero l = rw add-zero
  fields_at (k ∷ ks) at (suc j) l =
      subst
      (λ (x : ℕ). value_at (Read.fields_read inner S m ks (at + flat_width (struct_size S) k)) j ≡ Read.step_read inner Read.no_object (field_step m (get_or ks j F.Boolean) x))
      (add_assoc at (flat_width (struct_size S) k) (total (struct_size S) (take j ks)))
      (fields_at ks (at + flat_width (struct_size S) k) j (omega arith))
