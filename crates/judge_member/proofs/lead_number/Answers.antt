use Rattle.judge_member.proofs.PlainCases.{number_past, number_here, number_cut}
use Rattle.judge_member.proofs.lead_number.Goals.{then-x-c-via-then-x-c, then-x-c-via-else-x-c+then-next-x}
use Rattle.judge_member.proofs.lead_number.Goals as goal

pub returns-then-x-c : goal.returns-then-x-c
returns-then-x-c c =
    λ o. elim c.then-x-c.branch [ then-x-c-via-then-x-c w ↦ search number_past | then-x-c-via-else-x-c+then-next-x w ↦ search number_here ]

pub returns : goal.returns
returns c = λ o. search number_cut
