-- What a list reader starts from, what its steps answer, and how many elements it has.
use Rattle.std.specs.Prelude.{◌≡◌, Bool, true, false, ℕ, List, Result, Ok, Err, eqb}
use Rattle.std.proofs.Math.Path.{refl}
use Rattle.std.proofs.Common.{ap, ◌∙◌, subst}
use native.Mathlib.Omega.{arith}
use Rattle.coding.specs.Lawful.{lawful}
use Rattle.coding.specs.Packed.{parse}
use Rattle.coding.specs.Lists.{pick}
use Rattle.coding.specs.Schema.{Schema}
use Rattle.coding.specs.Field as Field
use Rattle.coding.specs.declared.Object.{Object}
use Rattle.coding.specs.declared.Place.TheVariants.{ByOffset}
use Rattle.coding.specs.declared.Found.{Found}
use Rattle.coding.specs.declared.Found.TheVariants as Fd
use Rattle.coding.specs.declared.Refusal.{Refusal}
use Rattle.coding.specs.declared.Answer.{Answer}
use Rattle.coding.specs.declared.Answer.TheVariants as A
use Rattle.schema.specs.Parsed.{bytes_of}
use Rattle.field_arrival.specs.declared.Arrival.{Arrival}
use Rattle.field_arrival.specs.Parts.{object_part_by}
use Rattle.field_element.specs.declared.list.ListAt.{ListAt}
use Rattle.field_element.specs.Elements.{object_of}

-- an object that was come to
abbrev pub object_found : Object → Arrival → Found
object_found ob a = Fd.Object ob a.place a.start a.length a.left

-- what the definitions say of the list that a reader goes over, or of the refusal of its start
abbrev pub found_of : Result ListAt Refusal → Found
found_of (Err r) = Fd.Refused r
found_of (Ok l) = object_found (object_of l.elements) l.arrival

-- the list is of the message m, read by the schema in bytes b under the coding of width o
abbrev pub OfMessage : ℕ → List ℕ → List ℕ → Result ListAt Refusal → Type 0
OfMessage o b m (Err r) = Unit {0}
OfMessage o b m (Ok l) = (l.reading.schema.width ≡ o) × (bytes_of l.reading.schema ≡ b) × (l.reading.message.now ≡ m)

-- what a reader starts from, by its path
pub record Starts (o : ℕ) (b m path : List ℕ) (h : Result ListAt Refusal) : Type 0 where
  pub found : found_of h ≡ Field.reader_start o b m path
  pub of_message : OfMessage o b m h

-- what is found by a schema that is not lawful is the refusal 1, and no list
module _ (S : Schema) (f : Found) (ob : Object) (at start n d : ℕ) where
  found_lawful : (t : Bool) → Fd.Object ob at start n d ≡ Field.reader_of S (pick t f (Field.before 1)) → t ≡ true
  unfolding Field.reader_of Field.before
  found_lawful true e = refl
  found_lawful false e = absurd (let z : ◌≡◌ {A = ℕ} 0 1 = cc in omega arith)

-- so the schema of the list that a reader goes over is lawful under its coding
pub started_lawful : (o : ℕ) (b m path : List ℕ) (h : Result ListAt Refusal) → Starts o b m path h
    → (l : ListAt) → h ≡ Ok l → lawful l.reading.schema.width (bytes_of l.reading.schema) ≡ true
unfolding Field.reader_start Field.field_found
started_lawful o b m path h s l is =
    let k : Starts o b m path (Ok l) = subst (Starts o b m path) is s in
    let w = k.of_message in
    ap (λ (x : ℕ). lawful x (bytes_of l.reading.schema)) w.0 ∙ ap (lawful o) w.1 ∙ found_lawful (parse b) _ _ _ _ _ _ (lawful o b) k.found

-- the answer of the step at element j, and how many elements there are
abbrev pub gives : Result ListAt Refusal → ℕ → Answer
gives (Err r) j = A.Refused r
gives (Ok l) j = Field.answer_of (object_part_by l.reading (object_of l.elements) l.arrival j)

abbrev pub count : Result ListAt Refusal → ℕ
count (Err r) = 0
count (Ok l) = l.arrival.length

-- the answer of an element that is an offset, with d objects of depth left below its list
unfoldable pub offset_gives : ℕ → ℕ → Schema → List ℕ → Object → ℕ → Answer
offset_gives d o S m ob x = pick (eqb x 0) A.Absent (Field.answer_of (Field.arrived d o S m ob (ByOffset x)))
