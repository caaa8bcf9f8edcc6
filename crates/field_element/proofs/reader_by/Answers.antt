use mathlib.Core.Path.{ap, ◌∙◌}
use Rattle.coding.specs.Field as Field
use Rattle.schema.specs.Parsed.{parsed}
use Rattle.field_element.proofs.reader_by.Goals as goal

pub returns : goal.returns
unfolding Field.reader_start
returns c =
    record { found = c.reader_of.ensures.0 ∙ ap (Field.reader_of (parsed c.args.indexed.now.schema)) c.found_by-found.ensures.0; of_message = c.reader_of.ensures.1 }
