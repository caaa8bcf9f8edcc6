-- What arrivals and parts come to in a message that is read.
use Rattle.std.specs.Prelude.{ℕ, List}
use Rattle.coding.specs.Field.{arrived, chosen, stepped, object_part, part_of, along}
use Rattle.coding.specs.declared.Object.{Object}
use Rattle.coding.specs.declared.Place.{Place}
use Rattle.coding.specs.declared.Step.{Step}
use Rattle.coding.specs.declared.Found.{Found}
use Rattle.schema.specs.declared.held.Reading.{Reading}
use Rattle.schema.specs.Parsed.{parsed}
use Rattle.field_arrival.specs.declared.Arrival.{Arrival}
use Rattle.field_arrival.specs.declared.Part.{Part}

-- an arrival with d objects of depth left
abbrev pub arrived_by : Reading → ℕ → Object → Place → Found
arrived_by r d ob p = arrived d r.schema.width (parsed r.schema) r.message.now ob p

-- the object of a union's known choice
abbrev pub chosen_by : Reading → Part → Object → Place → Found
chosen_by r part ob p = chosen part.left r.schema.width (parsed r.schema) r.message.now part.holder part.number ob p

-- the step of a part
abbrev pub stepped_by : Reading → Part → Step → Found
stepped_by r part step = stepped part.left r.schema.width (parsed r.schema) r.message.now part.holder part.number part.kind step

-- part j of an object that was come to
abbrev pub object_part_by : Reading → Object → Arrival → ℕ → Found
object_part_by r ob a j = object_part r.schema.width (parsed r.schema) r.message.now ob a.place a.start a.length a.left j

-- one number more of a path, and all of them
abbrev pub part_by : Reading → Found → ℕ → Found
part_by r f j = part_of r.schema.width (parsed r.schema) r.message.now f j

abbrev pub along_by : Reading → Found → List ℕ → Found
along_by r f path = along r.schema.width (parsed r.schema) r.message.now f path
