use Rattle.judge_direct.proofs.QuietCases.{quiet_led, laid_end}
use Rattle.message_object.proofs.OpenCases.{member_sound-of}
use borrow.Author.Rules.{rules}
use Rattle.judge_direct.proofs.behind_quiet.Goals as goal

pub place_member-p-requires : goal.place_member-p-requires
place_member-p-requires c = search (member_sound-of, laid_end, rules)

pub is_quiet-requires : goal.is_quiet-requires
is_quiet-requires c = search (member_sound-of, rules)

pub returns-then-is_quiet : goal.returns-then-is_quiet
returns-then-is_quiet c = search quiet_led
