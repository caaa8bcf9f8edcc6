-- What stands before a struct's member.
use Rattle.std.specs.Prelude.{ℕ, List, take}
use Rattle.coding.specs.Schema.{struct_of}
use Rattle.coding.specs.Packed.{parse}
use Rattle.coding.specs.Structs.{total, struct_size}

-- where member j of struct i stands in it, by the schema in bytes b
abbrev pub field_place : List ℕ → ℕ → ℕ → ℕ
field_place b i j = total (struct_size (parse b)) (take j (struct_of (parse b) i))
