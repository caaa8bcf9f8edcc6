-- One member of a table, as the code goes over the members. `o` is the width of an offset in bytes.
use Rattle.std.specs.Prelude.{◌≡◌, ℕ, ◌≤◌, List}
use Rattle.coding.specs.Lists.{pick}
use Rattle.coding.specs.Schema.{Schema}
use Rattle.coding.specs.Layout.{after_member, after_bit, after_bytes, has_flag}
use Rattle.coding.specs.Step.{member_step}
use Rattle.coding.specs.declared.Member.{Member}
use Rattle.coding.specs.declared.Cursor.{Cursor}
use Rattle.coding.specs.declared.Placement.{Placement}
use Rattle.message_step.specs.Lead.{reach_of}
use Rattle.message_step.specs.declared.Reach.TheVariants.{Here}
use Rattle.sheet_walk.specs.MessageBits.{step_at, coded_at}
use Rattle.sheet_walk.specs.declared.Code.{Code}
use Rattle.sheet_walk.specs.declared.Code.TheVariants.{Number, Boolean, Float, Enumerated}

-- a member that is written by its record alone: how the cursor moves by its code
unfoldable pub behind : Code → Cursor → Cursor
behind (Number flagged w) c = after_bytes w (pick flagged (after_bit c) c)
behind Boolean c = after_bit c
behind (Float w) c = after_bytes w c
behind (Enumerated k) c = after_bytes 1 c

-- the code of a member: the cursor behind it, and its bits
pub record Coded (r : Member) (q : Code) : Type 0 where
  pub next_is : (o : ℕ) (S : Schema) (c : Cursor) → after_member o S r c ≡ behind q c
  pub bits_are : (o d : ℕ) (S : Schema) (m : List ℕ) (start n : ℕ) (c : Cursor)
      → step_at o d S m r.kind (member_step o S m start n c r) ≡ coded_at m q start n c

-- a number has at most 8 bytes
abbrev pub Small : Code → Type 0
Small (Number flagged w) = w ≤ 8
Small Boolean = Unit {0}
Small (Float w) = w ≤ 8
Small (Enumerated k) = Unit {0}

-- the value of a member is there, by its placement in a fixed part that has n bytes from `start`
abbrev pub IsHere : List ℕ → ℕ → ℕ → Placement → Member → Type 0
IsHere m start n p r = reach_of m start n p (has_flag r) ≡ Here
