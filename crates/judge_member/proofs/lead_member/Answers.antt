use Rattle.judge_member.proofs.PlainCases.{number_led, led_is}
use Rattle.schema.specs.Records.{record-inside}
use Rattle.message_object.proofs.OpenCases.{member_sound-of}
use native.Mathlib.Omega.{arith}
use borrow.Author.Rules.{rules}
use Rattle.judge_member.proofs.lead_member.Goals as goal

pub byte_in-requires : goal.byte_in-requires
byte_in-requires c = search record-inside

pub lead_number-requires : goal.lead_number-requires
lead_number-requires c = record { h_value = (search rules, c.is_plain.ensures c.if-is_plain.true); byte_le_end = search rules }

pub returns-then-is_plain : goal.returns-then-is_plain
returns-then-is_plain c = search number_led

pub member_step-requires : goal.member_step-requires
member_step-requires c = record { sound = (member_sound-of _ _ c.args.reading.now.schema.accepted _ _ _ c.member-r.ensures c.requires.in_bounds.1, c.requires.length_in_bounds.0); byte_le_end = (c.requires.length_in_bounds.1.byte, c.requires.length_in_bounds.1.bit, omega (arith, c.requires.length_in_bounds.1.end, c.requires.in_bounds.2)) }

pub returns : goal.returns
returns c = search (led_is, c.member-r.ensures, c.requires.length_in_bounds.1, c.member_step.ensures.0, c.member_step.ensures.1)
