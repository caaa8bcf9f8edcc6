-- What a step and a path come to: indices are in range, and what is found lies within the message.
use Rattle.std.specs.Prelude.{ℕ, ◌+◌, ◌^◌, ◌<◌, ◌≤◌, List, length, get_or}
use mathlib.Core.Logic.{⊎_elim}
use native.Mathlib.Omega.{arith}
use Rattle.coding.specs.Schema.{Schema}
use Rattle.coding.specs.Structs.{struct_size}
use Rattle.coding.specs.Walk.{content_size}
use Rattle.coding.specs.declared.Flat.{Flat}
use Rattle.coding.specs.declared.Flat.TheVariants as F
use Rattle.coding.specs.declared.Kind.{Kind}
use Rattle.coding.specs.declared.Kind.TheVariants.{OfFlat, OfObject, OfUnion}
use Rattle.coding.specs.declared.Step.{Step}
use Rattle.coding.specs.declared.Step.TheVariants as St
use Rattle.coding.specs.declared.Found.{Found}
use Rattle.coding.specs.declared.Found.TheVariants as Fd
use Rattle.laws.specs.Sound.{FlatSound, ObjectSound, KindSound}
use Rattle.message_step.specs.Lead.{PlaceSmall}
use Rattle.schema.specs.declared.held.Reading.{Reading}
use Rattle.schema.specs.Parsed.{parsed}

-- bytes, and no more than a message may have
pub record Readable (m : List ℕ) : Type 0 where
  pub bytes : (i : ℕ) → get_or m i 0 < 256
  pub size : length m ≤ 16777215

-- a struct that a step has found lies within the message, and an object's place is a small number
abbrev pub StepWithin : Schema → List ℕ → Step → Type 0
StepWithin S m (St.Refused n) = Unit {0}
StepWithin S m St.Absent = Unit {0}
StepWithin S m (St.Value x) = Unit {0}
StepWithin S m (St.Unknown x) = Unit {0}
StepWithin S m (St.Struct i at) = (i < length S.structs) × (at + struct_size S i ≤ length m)
StepWithin S m (St.Object ob p) = ObjectSound S ob × PlaceSmall p
StepWithin S m (St.Choice c ob p) = ObjectSound S ob × PlaceSmall p

-- what a path has come to lies within the message; where that is an object, the message is within its size, and the object's place
-- is a small number
abbrev pub FoundWithin : ℕ → Schema → List ℕ → Found → Type 0
FoundWithin o S m (Fd.Refused r) = Unit {0}
FoundWithin o S m Fd.Absent = Unit {0}
FoundWithin o S m (Fd.Unknown x) = Unit {0}
FoundWithin o S m (Fd.Value k x holder) = KindSound S k
FoundWithin o S m (Fd.Struct i at holder) = (i < length S.structs) × (at + struct_size S i ≤ length m)
FoundWithin o S m (Fd.Object ob at start n d) =
    ObjectSound S ob × (start + content_size o S m ob at n ≤ length m) × (length m ≤ 16777215) × (at < 2 ^ 60)

-- the same in a message that is read
abbrev pub StepIn : Reading → Step → Type 0
StepIn r step = StepWithin (parsed r.schema) r.message.now step

abbrev pub FoundIn : Reading → Found → Type 0
FoundIn r f = FoundWithin r.schema.width (parsed r.schema) r.message.now f

-- a value that was found takes eight bytes at most
abbrev pub FlatShort : Flat → Type 0
FlatShort F.Boolean = Unit {0}
FlatShort (F.Integer s w) = w ≤ 8
FlatShort (F.Float w) = w ≤ 8
FlatShort (F.Enumerated n) = Unit {0}
FlatShort (F.Struct i) = Unit {0}

abbrev pub KindShort : Kind → Type 0
KindShort (OfFlat k) = FlatShort k
KindShort (OfObject ob) = Unit {0}
KindShort (OfUnion u) = Unit {0}

abbrev pub FoundShort : Found → Type 0
FoundShort (Fd.Refused r) = Unit {0}
FoundShort Fd.Absent = Unit {0}
FoundShort (Fd.Unknown x) = Unit {0}
FoundShort (Fd.Value k x holder) = KindShort k
FoundShort (Fd.Struct i at holder) = Unit {0}
FoundShort (Fd.Object ob at start n d) = Unit {0}

flat_short : (n : ℕ) (k : Flat) → FlatSound n k → FlatShort k
flat_short n F.Boolean s = tt
flat_short n (F.Integer g w) s = s.1
flat_short n (F.Float w) s = ⊎_elim (λ e. omega arith) (λ e. omega arith) s
flat_short n (F.Enumerated c) s = tt
flat_short n (F.Struct i) s = tt

kind_short : (S : Schema) (k : Kind) → KindSound S k → KindShort k
kind_short S (OfFlat k) s = flat_short (length S.structs) k s
kind_short S (OfObject ob) s = tt
kind_short S (OfUnion u) s = tt

pub within_short : (o : ℕ) (S : Schema) (m : List ℕ) (f : Found) → FoundWithin o S m f → FoundShort f
within_short o S m (Fd.Refused r) h = tt
within_short o S m Fd.Absent h = tt
within_short o S m (Fd.Unknown x) h = tt
within_short o S m (Fd.Value k x holder) h = kind_short S k h
within_short o S m (Fd.Struct i at holder) h = tt
within_short o S m (Fd.Object ob at start n d) h = tt
