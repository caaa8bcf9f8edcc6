-- The answer of a reader's step, and the reader after it.
use Rattle.std.specs.Prelude.{ℕ, List}
use Rattle.coding.specs.Positions.{with_table}
use Rattle.coding.specs.Field.{reader_gives, reader_count, reader_next}
use Rattle.coding.specs.declared.Answer.{Answer}
use Rattle.field_reader.specs.declared.ListReader.{ListReader}

-- the schema that the reader goes by, with its table of positions
abbrev pub schema_of : ListReader → List ℕ
schema_of r = with_table r.width r.schema.now r.positions.now

-- "Each step answers as that element's path would"
abbrev pub gives : ListReader → Answer
gives r = reader_gives r.width (schema_of r) r.message.now r.path.now r.element

-- how many elements the reader's list has; none where there is no list
abbrev pub count : ListReader → ℕ
count r = reader_count r.width (schema_of r) r.message.now r.path.now

-- "and moves on, refused or not; after the last it answers 15 at the list and stays": all else of the reader is as it was
abbrev pub after : ListReader → ListReader
after r =
    record {
      schema = r.schema;
      positions = r.positions;
      message = r.message;
      path = r.path;
      element = reader_next (count r) r.element;
      width = r.width;
    }
