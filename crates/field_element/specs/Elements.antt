-- The elements that a list reader goes over.
use Rattle.std.specs.Prelude.{Option, Some, None}
use Rattle.coding.specs.Lists.{pick}
use Rattle.coding.specs.Schema.{Schema, element_of}
use Rattle.coding.specs.Field.{leads}
use Rattle.coding.specs.declared.Object.{Object}
use Rattle.coding.specs.declared.Object.TheVariants as O
use Rattle.field_element.specs.declared.list.Elements.{Elements}
use Rattle.field_element.specs.declared.list.Elements.TheVariants as E

-- the object that has them
abbrev pub object_of : Elements → Object
object_of (E.List i) = O.List i
object_of (E.Direct t) = O.DirectList t

-- the elements of an object, if it is a list whose elements lead to objects
abbrev pub elements_of : Schema → Object → Option Elements
elements_of S O.Text = None
elements_of S O.Bytes = None
elements_of S (O.List i) = pick (leads (element_of S i)) (Some (E.List i)) None
elements_of S (O.Table i) = None
elements_of S (O.DirectList t) = Some (E.Direct t)
