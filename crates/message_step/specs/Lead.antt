-- A step as judging needs it: where it leads, or why it is refused. A value, an unknown number and a struct lead nowhere.
use Rattle.std.specs.Prelude.{◌≡◌, ℕ, ◌+◌, ◌^◌, ◌<◌, ◌≤◌, Bool, true, false, List, leb, eqb, length}
use Rattle.coding.specs.Lists.{pick}
use Rattle.coding.specs.Bytes.{bit_at}
use Rattle.coding.specs.Schema.{Schema}
use Rattle.coding.specs.Packed.{struct_count, parse}
use Rattle.coding.specs.Structs.{struct_size}
use Rattle.coding.specs.declared.Flat.{Flat}
use Rattle.coding.specs.declared.Flat.TheVariants as F
use Rattle.coding.specs.declared.Cursor.{Cursor}
use Rattle.coding.specs.declared.Placement.{Placement}
use Rattle.coding.specs.declared.Slot.{Slot}
use Rattle.coding.specs.declared.Place.{Place}
use Rattle.coding.specs.declared.Place.TheVariants.{ByOffset, InPlace}
use Rattle.coding.specs.declared.Step.{Step}
use Rattle.coding.specs.declared.Step.TheVariants as St
use Rattle.laws.specs.Sound.{ObjectSound}
use Rattle.message_layout.specs.Bounds.{Laid}
use Rattle.message_step.specs.declared.Reach.{Reach}
use Rattle.message_step.specs.declared.Reach.TheVariants.{Cut, Past, Here}

unfoldable pub lead_of : Step → Step
lead_of (St.Refused n) = St.Refused n
lead_of St.Absent = St.Absent
lead_of (St.Value x) = St.Absent
lead_of (St.Unknown x) = St.Absent
lead_of (St.Struct i at) = St.Absent
lead_of (St.Object ob p) = St.Object ob p
lead_of (St.Choice c ob p) = St.Choice c ob p

-- a step before its struct is tested, without the value that it has read
unfoldable pub without_value : Step → Step
without_value (St.Refused n) = St.Refused n
without_value St.Absent = St.Absent
without_value (St.Value x) = St.Absent
without_value (St.Unknown x) = St.Absent
without_value (St.Struct i at) = St.Struct i at
without_value (St.Object ob p) = St.Object ob p
without_value (St.Choice c ob p) = St.Choice c ob p

-- a step before its struct is tested: as a whole, or without the value
abbrev pub seen : Bool → Step → Step
seen true s = s
seen false s = without_value s

-- a step: as a whole, or where it leads
abbrev pub told : Bool → Step → Step
told true s = s
told false s = lead_of s

unfoldable pub flat_lead : Flat → ℕ → Step
flat_lead F.Boolean at = St.Absent
flat_lead (F.Integer s w) at = St.Absent
flat_lead (F.Float w) at = St.Absent
flat_lead (F.Enumerated n) at = St.Absent
flat_lead (F.Struct i) at = St.Struct i at

-- ---- whether a value is there: cut by the fixed part's end, past it or without its flag, or here
unfoldable pub reach_in : ℕ → Slot → Reach → Reach → Reach
reach_in n slot past here = pick (leb n slot.at) past (pick (leb (slot.at + slot.size) n) here Cut)

-- behind a flag
unfoldable pub reach_flagged : List ℕ → ℕ → ℕ → Slot → Slot → Reach
reach_flagged m start n flag slot =
    pick (leb n flag.at) Past
    (pick (eqb (bit_at m (start + flag.at) flag.bit) 1) (reach_in n slot Cut Here) (reach_in n slot Past Past))

unfoldable pub reach_of : List ℕ → ℕ → ℕ → Placement → Bool → Reach
reach_of m start n p flagged = pick flagged (reach_flagged m start n p.flag p.value) (reach_in n p.value Past Here)

-- the step of a member, by what its value is
unfoldable pub reached : Reach → Step → Step
reached Cut here = St.Refused 8
reached Past here = St.Absent
reached Here here = here

-- ---- places are numbers of six bytes
abbrev pub PlaceSmall : Place → Type 0
PlaceSmall (ByOffset x) = x < 2 ^ 48
PlaceSmall (InPlace a n) = (a < 2 ^ 48) × (n < 2 ^ 48)

-- what a step leads to has an index in range, and a small place
abbrev pub StepSmall : Schema → Step → Type 0
StepSmall S (St.Refused n) = Unit {0}
StepSmall S St.Absent = Unit {0}
StepSmall S (St.Value x) = Unit {0}
StepSmall S (St.Unknown x) = Unit {0}
StepSmall S (St.Struct i at) = Unit {0}
StepSmall S (St.Object ob p) = ObjectSound S ob × PlaceSmall p
StepSmall S (St.Choice c ob p) = ObjectSound S ob × PlaceSmall p

-- a struct that a step has found lies within the message
abbrev pub StructInside : List ℕ → List ℕ → Step → Type 0
StructInside b m (St.Refused n) = Unit {0}
StructInside b m St.Absent = Unit {0}
StructInside b m (St.Value x) = Unit {0}
StructInside b m (St.Unknown x) = Unit {0}
StructInside b m (St.Struct i at) = (i < struct_count b) × (at + struct_size (parse b) i ≤ length m)
StructInside b m (St.Object ob p) = Unit {0}
StructInside b m (St.Choice c ob p) = Unit {0}

-- a member's value of w bytes may stand so
pub record Sits (w : ℕ) (p : Placement) : Type 0 where
  pub at : p.value.at < 2 ^ 60
  pub size : p.value.size ≡ w
  pub small : w ≤ 4096
  pub bit : p.value.bit < 8
  pub flag : p.flag.bit < 8

-- a member's step and the cursor behind it are those of the definition, and the cursor keeps to its bounds
pub record Stepped (step : Step) (next : Cursor) (e : ℕ) (s : Step) (c : Cursor) : Type 0 where
  pub step_is : s ≡ step
  pub next_is : c ≡ next
  pub laid : Laid (e + 4097) c
