use native.Mathlib.Omega.{arith}
use Rattle.field_part.proofs.PartCases.{table_there}
use Rattle.field_part.proofs.RowCases.{row_there, row_sits, row_step}
use Rattle.message_object.proofs.OpenCases.{member_sound-of}
use borrow.Author.Rules.{rules}
use Rattle.field_part.proofs.table_part.Goals as goal

pub placement_at-p-requires : goal.placement_at-p-requires
placement_at-p-requires c = (search rules, search rules, search row_there, omega (arith, c.member_count.ensures.1, c.if-member_count-j.false))

pub member_at-step-requires : goal.member_at-step-requires
member_at-step-requires c = record { in_bounds = search rules; member_sound = (search (member_sound-of, row_there), search row_sits) }

pub returns : goal.returns
returns c = search (table_there, row_step)
