-- Elements of a direct list that only count: none of their members can be refused or lead on. What each is charged, and which they are.
-- `o` is the width of an offset in bytes, w the bytes of an element.
use Rattle.std.specs.Prelude.{ℕ, zero, suc, ◌+◌, ◌-◌, ◌*◌, ◌<◌, ◌≤◌, ◌≡◌, Bool, true, false, List, ltb, leb, drop, Ok, Option, Some, None}
use Rattle.coding.specs.Lists.{pick}
use Rattle.coding.specs.Packed.{parse}
use Rattle.coding.specs.Schema.{Schema, table_of, member_of}
use Rattle.coding.specs.Layout as L
use Rattle.coding.specs.Step.{member_step, value_step, struct_tested}
use Rattle.coding.specs.Walk as W
use Rattle.coding.specs.Walk.{Walked}
use Rattle.coding.specs.declared.Kind.{Kind}
use Rattle.coding.specs.declared.Member.{Member}
use Rattle.coding.specs.declared.Cursor.{Cursor}
use Rattle.coding.specs.declared.Slot.{Slot}
use Rattle.coding.specs.declared.Step.TheVariants as St
use Rattle.coding.specs.declared.Spent.{Spent}
use Rattle.message_layout.specs.Bounds.{Laid}
use Rattle.message_step.specs.Lead.{lead_of}

-- ---- what they are charged
-- an arrival at such an element at a place, within the depth: a visit, if one is left, and w bytes of content, if as many are left
unfoldable pub pass : ℕ → ℕ → Spent → Walked
pass w at s =
    pick (ltb 0 s.visits)
    (pick (leb w s.content) (Ok (W.spending (s.visits - 1) (s.content - w))) (W.refuse 17 at (W.spending (s.visits - 1) s.content)))
    (W.refuse 4 at s)

-- n of them, one behind the other
unfoldable pub passes : ℕ → ℕ → ℕ → Spent → Walked
passes w zero at s = Ok s
passes w (suc n) at s = W.and_then (pass w at s) (passes w n (at + w))

-- so many of n elements the content has room for
pub record Afforded (w n content k : ℕ) : Type 0 where
  pub few : k ≤ n
  pub room : w * k ≤ content
  pub full : k < n → content < w * k + w

-- ---- which they are
-- a value of the kind leads nowhere and is not refused, whatever stands there
pub record Harmless (S : Schema) (k : Kind) : Type 0 where
  pub nowhere : (o : ℕ) (m : List ℕ) (none inplace : Bool) (tail at bit : ℕ) → lead_of (struct_tested S m (value_step o S m k none inplace tail at bit)) ≡ St.Absent

-- a slot that ends within w bytes, or starts past them
unfoldable pub uncut : ℕ → Slot → Bool
uncut w slot = pick (leb w slot.at) true (leb (slot.at + slot.size) w)

-- such a value without a flag, in a slot that is not cut
pub record Quiet (S : Schema) (r : Member) (w : ℕ) (slot : Slot) : Type 0 where
  pub plain : L.has_flag r ≡ false
  pub value : Harmless S r.kind
  pub whole : uncut w slot ≡ true

-- member j of table t, before which the cursor c stands, leads nowhere in a fixed part of w bytes, whatever stands there; and `next` is the
-- cursor behind it
pub record Passed (o : ℕ) (b : List ℕ) (t j w : ℕ) (c next : Cursor) : Type 0 where
  pub nowhere : (m : List ℕ) (start : ℕ) → lead_of (member_step o (parse b) m start w c (member_of (parse b) t j)) ≡ St.Absent
  pub next_is : next ≡ L.after_member o (parse b) (member_of (parse b) t j) c
  pub laid : Laid (4097 * (j + 1)) next

-- the cursor behind such a member; where there is none, nothing is said
abbrev pub Led : ℕ → List ℕ → ℕ → ℕ → ℕ → Cursor → Option Cursor → Type 0
Led o b t j w c None = Unit {0}
Led o b t j w c (Some next) = Passed o b t j w c next

-- the members of table t go on to member j, where the cursor stands, in any fixed part of w bytes
pub record Onto (o : ℕ) (b : List ℕ) (t w : ℕ) (c : Cursor) (j : ℕ) : Type 0 where
  pub same : (child : W.Child) (m : List ℕ) (holder start : ℕ) (s : Spent)
      → W.members child o (parse b) m holder start w L.begin 0 (table_of (parse b) t).members s
      ≡ W.members child o (parse b) m holder start w c j (drop j (table_of (parse b) t).members) s

-- the members of table t go on, in any fixed part of w bytes
pub record Silent (o : ℕ) (b : List ℕ) (t w : ℕ) : Type 0 where
  pub goes : (child : W.Child) (m : List ℕ) (holder start : ℕ) (s : Spent)
      → W.members child o (parse b) m holder start w L.begin 0 (table_of (parse b) t).members s ≡ Ok s
