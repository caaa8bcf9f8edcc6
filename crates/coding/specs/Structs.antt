-- Structs, by recursion on the struct index: "a struct inside a struct is laid out the same way, inner before outer in
-- size".
use Rattle.std.specs.Prelude.{ℕ, zero, suc, ◌+◌, List, [], ◌∷◌, Bool, true, ◌&&◌, get_or, leb, eqb}
use Rattle.coding.specs.Lists.{pick}
use Rattle.coding.specs.Schema.{Schema, struct_of}
use Rattle.coding.specs.declared.Flat.{Flat}
use Rattle.coding.specs.declared.Flat.TheVariants.{Boolean, Integer, Float, Enumerated, Struct}

-- ---- the recursion that everything on structs goes by: f at an index, given f at the lower ones
-- f at the index j, if j is below n, and z otherwise. "an inner struct having a lower index": no lawful schema asks for z.
unfoldable pub lower : {A : Type 0} → A → ((ℕ → A) → ℕ → A) → ℕ → ℕ → A
lower z f zero j = z
lower z f (suc n) j = pick (eqb j n) (f (lower z f n) n) (lower z f n j)

-- f at the index i, given f at the indices below i: "inner before outer"
unfoldable pub by_index : {A : Type 0} → A → ((ℕ → A) → ℕ → A) → ℕ → A
by_index z f i = f (lower z f i) i

-- ---- sizes
-- the bytes of one member, given the sizes of the inner structs: "a bool as a byte 0 or 1"; an enum is a byte too. In
-- tables and lists all but a bool takes the same bytes.
unfoldable pub flat_width : (ℕ → ℕ) → Flat → ℕ
flat_width inner Boolean = 1
flat_width inner (Integer s w) = w
flat_width inner (Float w) = w
flat_width inner (Enumerated n) = 1
flat_width inner (Struct i) = inner i

-- "members joined without padding": the bytes of these members together
unfoldable pub total : (ℕ → ℕ) → List Flat → ℕ
total inner [] = 0
total inner (k ∷ ks) = flat_width inner k + total inner ks

-- the size of struct i, given the sizes of the inner structs: "inner before outer in size"
unfoldable pub size_by : Schema → (ℕ → ℕ) → ℕ → ℕ
size_by S inner i = total inner (struct_of S i)

-- the size of struct i: "Struct: members joined without padding, a bool as a byte 0 or 1; a struct inside a struct is laid
-- out the same way, inner before outer in size, bytes in turn."
unfoldable pub struct_size : Schema → ℕ → ℕ
struct_size S i = by_index 0 (size_by S) i

-- ---- booleans
-- one member at a place, for refusal 10, "struct boolean not 0 or 1": a bool's byte is 0 or 1, and nothing else is judged
unfoldable pub flat_ok : (ℕ → ℕ → Bool) → List ℕ → Flat → ℕ → Bool
flat_ok inner m Boolean at = leb (get_or m at 0) 1
flat_ok inner m (Integer s w) at = true
flat_ok inner m (Float w) at = true
flat_ok inner m (Enumerated n) at = true
flat_ok inner m (Struct i) at = inner i at

-- these members, one behind the other from a place on: "members joined without padding"
unfoldable pub flats_ok : (ℕ → ℕ → Bool) → Schema → List ℕ → List Flat → ℕ → Bool
flats_ok inner S m [] at = true
flats_ok inner S m (k ∷ ks) at = flat_ok inner m k at && flats_ok inner S m ks (at + flat_width (struct_size S) k)

-- struct i at a place, given the answer for the inner structs: "a struct inside a struct is laid out the same way"
unfoldable pub ok_by : Schema → List ℕ → (ℕ → ℕ → Bool) → ℕ → ℕ → Bool
ok_by S m inner i at = flats_ok inner S m (struct_of S i) at

-- what by_index gives for an index that is not lower, which "an inner struct having a lower index" excludes
abbrev pub always : ℕ → Bool
always at = true

-- whether refusal 10, "struct boolean not 0 or 1", does not arise in struct i at a place, nor in a struct inside it
unfoldable pub struct_ok : Schema → List ℕ → ℕ → ℕ → Bool
struct_ok S m i = by_index always (ok_by S m) i
