use Rattle.field_part.proofs.PartCases.{field_sound_here, field_low, field-at_is, field-at-within}
use Rattle.field_part.proofs.field_at.Goals as goal

pub field_step-requires : goal.field_step-requires
field_step-requires c = (search field_sound_here, search field_low)

pub returns : goal.returns
returns c = (search field-at_is, search field-at-within)
