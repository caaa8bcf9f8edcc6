use Rattle.coding.specs.Field as Field
use Rattle.field.proofs.TextCases.{span-inside}
use Rattle.field.proofs.text_span.Goals as goal

pub returns : goal.returns
unfolding Field.field_span
returns c = (cc, span-inside _ _ _ _ c.field_found-f.ensures.1 _ c.span_of.ensures)
