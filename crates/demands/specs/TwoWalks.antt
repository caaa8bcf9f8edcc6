-- Two walks over the same content, beside each other: what holds of the arrivals that content leads to holds of the whole content.
-- The relation speaks of what was spent before, and of what both walks come to.
use Prim.Native.Nat.{ℕ, zero, suc, ◌+◌}
use mathlib.Core.List.{List, [], ◌∷◌}
use Rattle.std.specs.Prelude.{Bool, true, false, eqb, Result, Ok, Err}
use Rattle.coding.specs.Lists.{pick}
use Rattle.coding.specs.Schema.{Schema, element_of, table_of}
use Rattle.coding.specs.Layout.{begin, after_member}
use Rattle.coding.specs.Step.{member_step, element_step}
use Rattle.coding.specs.Walk.{element_size, refuse, and_then, Child, refuse_part, follow_choice, follow, members, elements, directs, content, enter, Walked}
use Rattle.coding.specs.declared.Object.{Object}
use Rattle.coding.specs.declared.Object.TheVariants as Ob
use Rattle.coding.specs.declared.Kind.{Kind}
use Rattle.coding.specs.declared.Member.{Member}
use Rattle.coding.specs.declared.Cursor.{Cursor}
use Rattle.coding.specs.declared.Place.{Place}
use Rattle.coding.specs.declared.Place.TheVariants.{ByOffset, InPlace}
use Rattle.coding.specs.declared.Step.{Step}
use Rattle.coding.specs.declared.Step.TheVariants as St
use Rattle.coding.specs.declared.Content.{Content}
use Rattle.coding.specs.declared.Spent.{Spent}
use Rattle.coding.specs.declared.Refusal.{Refusal}

-- R holds where both walks go on with nothing more spent, and where both are refused alike; and it is handed on from one walk to the
-- next
pub record Beside (R : Spent → Walked → Walked → Type 0) : Type 0 where
  pub goes : (s : Spent) → R s (Ok s) (Ok s)
  pub stops : (r : Refusal) (s : Spent) → R s (Err (r, s)) (Err (r, s))
  pub then_on : (s : Spent) (w w' : Walked) (next next' : Spent → Walked) → R s w w' → ((t : Spent) → R t (next t) (next' t))
      → R s (and_then w next) (and_then w' next')

module _ (R : Spent → Walked → Walked → Type 0) where
  pick_beside : (t : Bool) {s : Spent} {a a' b b' : Walked} → R s a a' → R s b b' → R s (pick t a b) (pick t a' b')
  pick_beside true x y = x
  pick_beside false x y = y

  module _ (B : Beside R) (child child' : Child) (H : (ob : Object) (p : Place) (s : Spent) → R s (child ob p s) (child' ob p s)) (o : ℕ)
      (S : Schema) (m : List ℕ) where
    pub choice_beside : (holder j : ℕ) (ob : Object) (p : Place) (s : Spent)
        → R s (follow_choice child holder j ob p s) (follow_choice child' holder j ob p s)
    unfolding follow_choice refuse_part
    choice_beside holder j ob (ByOffset x) s =
        pick_beside (eqb x 0) (B.stops _ s) (H ob (ByOffset x) s)
    choice_beside holder j ob (InPlace a n) s = H ob (InPlace a n) s

    follow_beside : (holder j : ℕ) (st : Step) (s : Spent) → R s (follow child holder j st s) (follow child' holder j st s)
    unfolding follow refuse_part
    follow_beside holder j (St.Refused n) s = B.stops _ s
    follow_beside holder j St.Absent s = B.goes s
    follow_beside holder j (St.Value x) s = B.goes s
    follow_beside holder j (St.Unknown x) s = B.goes s
    follow_beside holder j (St.Struct i at) s = B.goes s
    follow_beside holder j (St.Object ob p) s = H ob p s
    follow_beside holder j (St.Choice c ob p) s = choice_beside holder j ob p s

    pub members_beside : (holder start n : ℕ) (c : Cursor) (j : ℕ) (rs : List Member) (s : Spent)
        → R s (members child o S m holder start n c j rs s) (members child' o S m holder start n c j rs s)
    unfolding members
    members_beside holder start n c j [] s = B.goes s
    members_beside holder start n c j (r ∷ rs) s =
        B.then_on s _ _ _ _ (follow_beside holder j (member_step o S m start n c r) s)
        (members_beside holder start n (after_member o S r c) (j + 1) rs)

    elements_beside : (holder start : ℕ) (k : Kind) (n i : ℕ) (s : Spent)
        → R s (elements child o S m holder start k n i s) (elements child' o S m holder start k n i s)
    unfolding elements
    elements_beside holder start k zero i s = B.goes s
    elements_beside holder start k (suc n) i s =
        B.then_on s _ _ _ _ (follow_beside holder i (element_step o S m k start i) s) (elements_beside holder start k n (i + 1))

    directs_beside : (t w n at : ℕ) (s : Spent) → R s (directs child t w n at s) (directs child' t w n at s)
    unfolding directs
    directs_beside t w zero at s = B.goes s
    directs_beside t w (suc n) at s = B.then_on s _ _ _ _ (H (Ob.Table t) (InPlace at w) s) (directs_beside t w n (at + w))

    content_beside : (ob : Object) (holder start n : ℕ) (s : Spent)
        → R s (content child o S m ob holder start n s) (content child' o S m ob holder start n s)
    unfolding content
    content_beside Ob.Text holder start n s = B.goes s
    content_beside Ob.Bytes holder start n s = B.goes s
    content_beside (Ob.List i) holder start n s = elements_beside holder start (element_of S i) n 0 s
    content_beside (Ob.Table i) holder start n s = members_beside holder start n begin 0 (table_of S i).members s
    content_beside (Ob.DirectList t) holder start n s = directs_beside t (element_size o m holder) n start s

    pub enter_beside : (ob : Object) (holder : ℕ) (x : Result Content ℕ) (s : Spent)
        → R s (enter child o S m ob holder x s) (enter child' o S m ob holder x s)
    unfolding enter refuse
    enter_beside ob holder (Err n) s = B.stops _ s
    enter_beside ob holder (Ok c) s = content_beside ob holder c.start c.length s
