-- What the answer of writing says: number 0 is a message that was made and handed out.
use mathlib.Core.Path.{◌≡◌, refl, sym, ap, ◌∙◌}
use mathlib.Core.Bool.{Bool, true, false}
use mathlib.Core.List.{List, ◌++◌}
use mathlib.Core.Option.{Option}
use mathlib.Core.Option as Op
use Prim.Native.Nat.{ℕ, ◌<◌, ◌≤◌}
use native.Mathlib.Omega.{arith}
use lib.ListN.{length, take, drop, length-append}
use lib.Seq.{take-append_seam, length-take-le}
use lib.Dec.{leb}
use Rattle.coding.specs.Lists.{pick}
use Rattle.coding.specs.Bytes.{deepest, largest}
use Rattle.coding.specs.Schema.{Schema}
use Rattle.coding.specs.Packed.{parse}
use Rattle.coding.specs.Lawful.{lawful}
use Rattle.coding.specs.Value.{Value}
use Rattle.coding.specs.Sheet.{sheet_tree}
use Rattle.coding.specs.Message.{Written, refused, message, writable, message_of, written_tree, written, write_room, write_over, write_answer, write_out}
use Rattle.coding.specs.declared.Object.TheVariants as O
use Rattle.coding.specs.declared.WriteAnswer.{WriteAnswer}
use Rattle.promises.specs.Words.{KeepsOnRefusal}

-- ---- the writer refuses by 1, 11, 12 or 13, and never by 0
abbrev pub Refuses : Written → Type 0
Refuses (refused n) = 0 < n
Refuses (message m) = Unit {0}

tree_refuses : (o : ℕ) (S : Schema) (t : Option Value) → Refuses (written_tree o S t)
unfolding written_tree
tree_refuses o S Op.none = omega arith
tree_refuses o S (Op.some v) = by (writable deepest o S (O.Table S.root) v) (leb (length (message_of o S v)) largest)
  where
    by : (s t : Bool) → Refuses (pick s (pick t (message (message_of o S v)) (refused 13)) (refused 12))
    by true true = tt
    by true false = omega arith
    by false t = omega arith

writes-or_refuses : (o : ℕ) (b s : List ℕ) → Refuses (written o b s)
unfolding written
writes-or_refuses o b s = by (lawful o b)
  where
    by : (t : Bool) → Refuses (pick t (written_tree o (parse b) (sheet_tree (parse b) s)) (refused 1))
    by true = tree_refuses o (parse b) (sheet_tree (parse b) s)
    by false = omega arith

-- ---- number 0
pub room-length : (w : Written) (out : List ℕ) → (write_room w (length out)).length ≤ length (write_over w out)
unfolding write_room write_over
room-length (refused k) out = omega arith
room-length (message m) out = by (leb (length m) (length out))
  where
    by : (t : Bool)
        → (pick {A = WriteAnswer} t (record { number = 0; length = length m }) (record { number = 14; length = 0 })).length
        ≤ length (pick t (m ++ drop (length m) out) out)
    by true = omega (arith, length-append m (drop (length m) out))
    by false = omega arith

pub room-made : (w : Written) → Refuses w → (out : List ℕ) → (write_room w (length out)).number ≡ 0
    → w ≡ message (take (write_room w (length out)).length (write_over w out))
unfolding write_room write_over
room-made (refused k) f out h = absurd (omega arith)
room-made (message m) f out h = by (leb (length m) (length out)) h
  where
    by : (t : Bool) → (pick {A = WriteAnswer} t (record { number = 0; length = length m }) (record { number = 14; length = 0 })).number ≡ 0
        → message m
        ≡ message
        (take (pick {A = WriteAnswer} t (record { number = 0; length = length m }) (record { number = 14; length = 0 })).length
        (pick t (m ++ drop (length m) out) out))
    by true h = ap message (sym (take-append_seam m (drop (length m) out)))
    by false h = absurd (omega arith)

-- ---- any other number
room_kept : (w : Written) (out : List ℕ) → ((write_room w (length out)).number ≡ 0 → ⊥)
    → ((write_room w (length out)).length ≡ 0) × (write_over w out ≡ out)
unfolding write_room write_over
room_kept (refused k) out h = (refl, refl)
room_kept (message m) out h = by (leb (length m) (length out)) h
  where
    by : (t : Bool) → ((pick {A = WriteAnswer} t (record { number = 0; length = length m }) (record { number = 14; length = 0 })).number ≡ 0 → ⊥)
        → ((pick {A = WriteAnswer} t (record { number = 0; length = length m }) (record { number = 14; length = 0 })).length ≡ 0)
        × (pick t (m ++ drop (length m) out) out ≡ out)
    by true h = absurd (h refl)
    by false h = (refl, refl)

module _ (o : ℕ) (b s out : List ℕ) (a : WriteAnswer) (ea : a ≡ write_answer o b s out) where
  pub within_room : (out' : List ℕ) → out' ≡ write_out o b s out → a.length ≤ length out'
  unfolding write_answer write_out
  within_room out' eo = rw (ea, eo) (room-length (written o b s) out)

  pub part_length : (out' : List ℕ) → out' ≡ write_out o b s out → a.length ≡ length (take a.length out')
  part_length out' eo = sym (length-take-le a.length out' (within_room out' eo))

  pub made : (out' : List ℕ) → out' ≡ write_out o b s out → a.number ≡ 0 → written o b s ≡ message (take a.length out')
  unfolding write_answer write_out
  made out' eo h =
      rw (ea, eo) (room-made (written o b s) (writes-or_refuses o b s) out (ap (λ (x : WriteAnswer). x.number) (sym ea) ∙ h))

  -- "on refusal the length is 0 and the output is unchanged"
  pub kept : (out' : List ℕ) → out' ≡ write_out o b s out → KeepsOnRefusal a.number a.length out out'
  unfolding write_answer write_out
  kept out' eo h = rw (ea, eo) (room_kept (written o b s) out (λ z. h (ap (λ (x : WriteAnswer). x.number) ea ∙ z)))
