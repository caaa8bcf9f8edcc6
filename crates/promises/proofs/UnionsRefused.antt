-- The writer's refusal of unions in place (02, K12), of what it answers.
use mathlib.Core.Path.{◌≡◌, refl, sym, ap, ◌∙◌, subst}
use mathlib.Core.Bool.{Bool, true, false, ◌&&◌, and-true}
use mathlib.Core.List.{List}
use mathlib.Core.Logic.{◌↔◌, ◌⊎◌, inl, inr}
use Prim.Native.Nat.{ℕ}
use native.Mathlib.Omega.{arith}
use lib.ListN.{length}
use lib.Dec.{leb}
use Rattle.coding.specs.Lists.{pick}
use Rattle.coding.specs.Bytes.{u48, deepest, largest}
use Rattle.coding.specs.Packed.{parse}
use Rattle.coding.specs.Lawful.{lawful}
use Rattle.coding.specs.Value.{Value}
use Rattle.coding.specs.Message.{Written, refused, message, keeps_unions, writable, message_of, written_tree, written, write_room, write_answer}
use Rattle.coding.specs.declared.Object.{Object}
use Rattle.coding.specs.declared.Object.TheVariants as O
use Rattle.coding.specs.declared.WriteAnswer.{WriteAnswer}
use Rattle.demands.specs.UnionsInPlace.{writable_splits, writable_stays, present_refused}
use Rattle.promises.specs.Words.{LawfulSheet, was_writable, UnionInPlace, NoUnionInPlace}

-- 12 comes exactly where a lawful sheet is not writable
twelve_by : (m : List ℕ) (t u : Bool) (room : ℕ)
    → ((write_room (pick t (pick u (message m) (refused 13)) (refused 12)) room).number ≡ 12) ↔ (t ≡ false)
unfolding write_room
twelve_by m false u room = (λ h. refl, λ h. refl)
twelve_by m true false room = (λ h. absurd (omega arith), λ h. absurd (let z : ◌≡◌ {A = ℕ} 0 1 = cc in omega arith))
twelve_by m true true room = (by (leb (length m) room), λ h. absurd (let z : ◌≡◌ {A = ℕ} 0 1 = cc in omega arith))
  where
    by : (s : Bool) → (pick {A = WriteAnswer} s (record { number = 0; length = length m }) (record { number = 14; length = 0 })).number ≡ 12
        → true ≡ false
    by true h = absurd (omega arith)
    by false h = absurd (omega arith)

module _ (o : ℕ) (b s out : List ℕ) (a : WriteAnswer) (ea : a ≡ write_answer o b s out) (v : Value) (h : LawfulSheet o b s v) where
  pub union_refused : o ≡ 6 → UnionInPlace b v → a ≡ record { number = 12; length = 0 }
  unfolding write_answer write_room u48
  union_refused e f =
      ea ∙ rw e (ap (λ (w : Written). write_room w (length out)) (present_refused b s v (by e) h.1 f))
    where
      by : o ≡ 6 → lawful u48 b ≡ true
      by e = ap (λ (k : ℕ). lawful k b) (sym e) ∙ h.0

  abbrev root : Object
  root = O.Table (parse b).root

  -- by whether the tree can be written
  abbrev by_test : Bool → Written
  by_test t =
      pick t (pick (leb (length (message_of o (parse b) v)) largest) (message (message_of o (parse b) v)) (refused 13)) (refused 12)

  written_by : written o b s ≡ by_test (writable deepest o (parse b) root v)
  unfolding written written_tree
  written_by = rw (h.0, h.1)

  as_before : (o ≡ 4) ⊎ NoUnionInPlace b v → writable deepest o (parse b) root v ≡ was_writable o b v
  as_before (inl e) = writable_stays deepest o (parse b) root v (rw e (unfold keeps_unions u48 in refl))
  as_before (inr f) = by (keeps_unions o) refl
    where
      by : (t : Bool) → keeps_unions o ≡ t → writable deepest o (parse b) root v ≡ was_writable o b v
      by true e = writable_stays deepest o (parse b) root v e
      by false e = writable_splits deepest o (parse b) root v e ∙ rw f (and-true (was_writable o b v))

  pub others_as-before : (o ≡ 4) ⊎ NoUnionInPlace b v → (a.number ≡ 12) ↔ (was_writable o b v ≡ false)
  unfolding write_answer
  others_as-before g =
      let e : a ≡ write_room (by_test (was_writable o b v)) (length out) =
      ea ∙ ap (λ (w : Written). write_room w (length out)) (written_by ∙ ap by_test (as_before g)) in
      subst (λ (x : WriteAnswer). (x.number ≡ 12) ↔ (was_writable o b v ≡ false)) (sym e)
      (twelve_by (message_of o (parse b) v) (was_writable o b v) (leb (length (message_of o (parse b) v)) largest) (length out))
