-- The directory: where each struct, list, union and table stands in the schema's bytes, and how large each struct is.
use Rattle.std.specs.Prelude.{ℕ, ◌+◌, ◌*◌, ◌<◌, ◌≤◌, ◌≡◌, List, Bool, true, get_or, length, Option, Some, None, IsSome}
use Rattle.coding.specs.Lists.{pick, every}
use Rattle.coding.specs.Packed.{struct_count, list_count, union_count, table_count, struct_place, union_place, table_place, blocks, records, parse}
use Rattle.coding.specs.Lawful.{blocks_ok, struct_lawful, well_formed, lawful}
use Rattle.coding.specs.Structs.{struct_size}
use Rattle.laws.specs.Sound.{Sound}
use Rattle.laws.specs.LawfulSound.{formed_sound}
use Rattle.wire.specs.Sizes.{Width}
use Rattle.schema.specs.Representatives.{Representatives}

-- n blocks were gone over, and their places stored from `base` on: where they end, if each record count is in its range
pub record Stored (b : List ℕ) (head low high start n base : ℕ) (before now : List ℕ) (r : Option ℕ) : Type 0 where
  pub is : r ≡ pick (blocks_ok b head low high start n) (Some (blocks b head start n)) None
  pub entries : IsSome r → (i : ℕ) → i < n → get_or now (base + i) 0 ≡ blocks b head start i
  pub kept : (k : ℕ) → k < base → get_or now k 0 ≡ get_or before k 0

-- structs from 0, the first list's place at 64, unions from 128, tables from 192
pub record Directory (b dir : List ℕ) : Type 0 where
  pub long : length dir ≡ 384
  pub ends : table_place b (table_count b) ≡ length b
  pub few_structs : struct_count b ≤ 64
  pub few_lists : list_count b ≤ 64
  pub few_unions : union_count b ≤ 64
  pub few_tables : table_count b ≤ 64
  pub structs : (i : ℕ) → i < struct_count b → get_or dir (0 + i) 0 ≡ struct_place b i
  pub lists : get_or dir 64 0 ≡ struct_place b (struct_count b)
  pub unions : (i : ℕ) → i < union_count b → get_or dir (128 + i) 0 ≡ union_place b i
  pub tables : (i : ℕ) → i < table_count b → get_or dir (192 + i) 0 ≡ table_place b i

-- an answer to a test of the places, with the directory that goes with a yes
pub record Placed (b dir : List ℕ) (test r : Bool) : Type 0 where
  pub is : r ≡ test
  pub right : r ≡ true → Directory b dir

-- at is the place of a block, all of whose records lie within the bytes
pub record Block (b : List ℕ) (head place at : ℕ) : Type 0 where
  pub is : at ≡ place
  pub inside : at + head + 1 + 2 * records b head at ≤ length b
  pub small : at < 65536

-- the sizes of the first n structs stand from 256 on
abbrev pub Sizes : List ℕ → List ℕ → ℕ → Type 0
Sizes b dir n = (i : ℕ) → i < n → get_or dir (256 + i) 0 ≡ struct_size (parse b) i

-- the structs below s are small
abbrev pub SmallBelow : List ℕ → ℕ → Type 0
SmallBelow b s = (i : ℕ) → i < s → struct_size (parse b) i ≤ 4096

-- an answer to whether the structs are lawful, with all the sizes where they are
pub record StructsJudged (b dir : List ℕ) (r : Bool) : Type 0 where
  pub is : r ≡ every (struct_lawful b) (struct_count b)
  pub directory : Directory b dir
  pub sizes : r ≡ true → Sizes b dir (struct_count b)

-- the directory is whole: the representatives of all structs are stored too
pub record Represented (b dir : List ℕ) : Type 0 where
  pub directory : Directory b dir
  pub sizes : Sizes b dir (struct_count b)
  pub representatives : Representatives b dir (struct_count b)

-- what a well-formed schema with its directory gives to those who read a message by it
pub record Accepted (b dir : List ℕ) : Type 0 where
  pub directory : Directory b dir
  pub sizes : Sizes b dir (struct_count b)
  pub representatives : Representatives b dir (struct_count b)
  pub bytes : (i : ℕ) → get_or b i 0 < 256
  pub formed : well_formed b ≡ true

pub accepted_sound : (b dir : List ℕ) → Accepted b dir → Sound (parse b)
accepted_sound b dir a = formed_sound b a.bytes a.formed

pub accepted_formed : (b dir : List ℕ) → Accepted b dir → well_formed b ≡ true
accepted_formed b dir a = a.formed

-- an answer to whether the schema is well formed
pub record FormJudged (b dir : List ℕ) (r : Bool) : Type 0 where
  pub is : r ≡ well_formed b
  pub right : r ≡ true → Accepted b dir

-- the schema is lawful under the coding whose offsets have o bytes
pub record AcceptedUnder (o : ℕ) (b dir : List ℕ) : Type 0 where
  pub accepted : Accepted b dir
  pub width : Width o
  pub lawful : lawful o b ≡ true

-- the whole answer
pub record Judged (o : ℕ) (b dir : List ℕ) (r : Bool) : Type 0 where
  pub is : r ≡ Rattle.coding.specs.Lawful.lawful o b
  pub right : r ≡ true → AcceptedUnder o b dir
