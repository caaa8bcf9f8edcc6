-- The test for a text.
use Rattle.std.specs.Prelude.{Bool, true, false}
use Rattle.coding.specs.declared.Object.{Object}
use Rattle.coding.specs.declared.Object.TheVariants as O

unfoldable pub is_text : Object → Bool
is_text O.Text = true
is_text O.Bytes = false
is_text (O.List i) = false
is_text (O.Table i) = false
is_text (O.DirectList t) = false
