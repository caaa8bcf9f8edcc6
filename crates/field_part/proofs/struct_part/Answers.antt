use native.Mathlib.Omega.{arith}
use Rattle.field_part.proofs.struct_part.Goals as goal

pub field_at-step-requires : goal.field_at-step-requires
field_at-step-requires c = record { in_bounds = (c.requires.0, c.requires.1); j_in_bounds = (omega (arith, c.field_count.ensures.0, c.if-field_count-j.false), omega (arith, c.field_count.ensures.1, c.if-field_count-j.false), c.field-k.ensures) }
