-- What the list reader's demands speak of.
use Rattle.std.specs.Prelude.{ℕ, ◌+◌, ◌<◌, ◌≤◌, ◌≡◌, [], ◌∷◌, ◌++◌}
use Rattle.coding.specs.Walk.{refusal}
use Rattle.coding.specs.Field.{field}
use Rattle.coding.specs.declared.Object.{Object}
use Rattle.coding.specs.declared.Answer.{Answer}
use Rattle.coding.specs.declared.Answer.TheVariants as A
use Rattle.coding.specs.declared.Refusal.{Refusal}
use Rattle.field_reader.specs.Reading.{schema_of, gives, after}
use Rattle.field_reader.specs.declared.ListReader.{ListReader}
use Rattle.promises.specs.Words.{LeadsToList}

-- the reader's path leads to "a list whose elements are of kinds 13 to 17" or to a direct list, of n elements, at a place
abbrev pub list_at : ListReader → Object → ℕ → ℕ → ℕ → ℕ → Type 0
list_at r ob at start n left = LeadsToList r.width (schema_of r) r.message.now r.path.now ob at start n left

-- the answer at the reader's path, and at its element's path
abbrev pub path_field : ListReader → Answer
path_field r = field r.width (schema_of r) r.message.now r.path.now

abbrev pub element_field : ListReader → Answer
element_field r = field r.width (schema_of r) r.message.now (r.path.now ++ r.element ∷ [])

-- the reader at another element
abbrev pub at_element : ListReader → ℕ → ListReader
at_element r j = record { schema = r.schema; positions = r.positions; message = r.message; path = r.path; element = j; width = r.width }

-- what the papers demand of a step that answers q and leaves the reader r'
pub record Stepped (r : ListReader) (q : Answer) (r' : ListReader) : Type 0 where
  -- the answer and the reader after it are the definition's
  pub answers : q ≡ gives r
  pub goes : r' ≡ after r
  -- "Each step answers as that element's path would and moves on, refused or not"
  pub moves : (ob : Object) (at start n left : ℕ) → list_at r ob at start n left → (q ≡ element_field r) × (r.element < n → r' ≡ at_element r (r.element + 1))
  -- "after the last it answers 15 at the list and stays"
  pub stays : (ob : Object) (at start n left : ℕ) → list_at r ob at start n left → n ≤ r.element → (q ≡ A.Refused (refusal 15 at)) × (r' ≡ r)
  -- "a refused path gives its own refusal"
  pub own : (x : Refusal) → path_field r ≡ A.Refused x → (q ≡ A.Refused x) × (r' ≡ r)
  -- "any other answer is 15 at 0"
  pub other : ((x : Refusal) → path_field r ≡ A.Refused x → ⊥) → ((ob : Object) (at start n left : ℕ) → list_at r ob at start n left → ⊥) → (q ≡ A.Refused (refusal 15 0)) × (r' ≡ r)
