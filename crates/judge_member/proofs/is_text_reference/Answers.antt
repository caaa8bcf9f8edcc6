use mathlib.Core.Path.{refl}
use Rattle.judge_member.specs.Records as Rs
use Rattle.judge_member.proofs.is_text_reference.Goals as goal

pub returns : goal.returns
unfolding Rs.is_text_reference
returns c = refl
