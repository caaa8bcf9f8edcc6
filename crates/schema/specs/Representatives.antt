-- Representatives: the struct by which the booleans of a struct are judged. A struct whose one member is a struct has the
-- representative of that member, any other is its own; 65535 stands for a struct without a bool.
use Rattle.std.specs.Prelude.{ℕ, ◌+◌, ◌<◌, ◌≤◌, ◌≡◌, List, Bool, true, get_or}
use Rattle.coding.specs.Schema.{Schema}
use Rattle.coding.specs.Structs.{struct_size, flat_ok, struct_ok}
use Rattle.coding.specs.Packed.{parse}
use Rattle.coding.specs.declared.Flat.{Flat}

-- r stands for the struct i
pub record Represents (S : Schema) (i r : ℕ) : Type 0 where
  pub none : r ≡ 65535 → (m : List ℕ) (at : ℕ) → struct_ok S m i at ≡ true
  pub lower : (r ≡ 65535 → ⊥) → r ≤ i
  pub size : (r ≡ 65535 → ⊥) → struct_size S r ≡ struct_size S i
  pub booleans : (r ≡ 65535 → ⊥) → (m : List ℕ) (at : ℕ) → struct_ok S m r at ≡ struct_ok S m i at

-- the representatives of the first n structs stand from 320 on
abbrev pub Representatives : List ℕ → List ℕ → ℕ → Type 0
Representatives b dir n = (i : ℕ) → i < n → Represents (parse b) i (get_or dir (320 + i) 0)

-- a yes says that a member has no bool: it is right wherever it stands
pub record FieldFree (S : Schema) (k : Flat) (r : Bool) : Type 0 where
  pub yes : r ≡ true → (m : List ℕ) (at : ℕ) → flat_ok (struct_ok S m) m k at ≡ true

-- and the same of a struct
pub record StructFree (S : Schema) (i : ℕ) (r : Bool) : Type 0 where
  pub yes : r ≡ true → (m : List ℕ) (at : ℕ) → struct_ok S m i at ≡ true
