-- Simple elements: flat values, texts and bytes. Nothing in them has parts, so that no walk to other objects is needed.
use Rattle.std.specs.Prelude.{Bool, true, false}
use Rattle.coding.specs.declared.Kind.{Kind}
use Rattle.coding.specs.declared.Kind.TheVariants.{OfFlat, OfObject, OfUnion}
use Rattle.schema.specs.Kinds.{is_blob}

unfoldable pub is_simple : Kind → Bool
is_simple (OfFlat k) = true
is_simple (OfObject ob) = is_blob ob
is_simple (OfUnion i) = false
