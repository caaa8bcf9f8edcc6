-- What a kind is.
use Rattle.std.specs.Prelude.{ℕ, Bool, true, false}
use Rattle.coding.specs.declared.Flat.{Flat}
use Rattle.coding.specs.declared.Flat.TheVariants as F
use Rattle.coding.specs.declared.Object.{Object}
use Rattle.coding.specs.declared.Object.TheVariants as O
use Rattle.coding.specs.declared.Kind.{Kind}
use Rattle.coding.specs.declared.Kind.TheVariants.{OfFlat, OfObject, OfUnion}

-- a text or bytes
unfoldable pub is_blob : Object → Bool
is_blob O.Text = true
is_blob O.Bytes = true
is_blob (O.List i) = false
is_blob (O.Table i) = false
is_blob (O.DirectList t) = false

-- the bytes of an integer; 0 for what is none
unfoldable pub flat_integer : Flat → ℕ
flat_integer F.Boolean = 0
flat_integer (F.Integer s w) = w
flat_integer (F.Float w) = 0
flat_integer (F.Enumerated n) = 0
flat_integer (F.Struct i) = 0

unfoldable pub integer_width : Kind → ℕ
integer_width (OfFlat k) = flat_integer k
integer_width (OfObject ob) = 0
integer_width (OfUnion i) = 0
