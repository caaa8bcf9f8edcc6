use Rattle.write_measure.specs.Survey.{may_lack, survey_part, survey_unknown}
use Rattle.write_measure.proofs.MarkCases.{mark_fails, surveyed_absent, surveyed_present, unknown_fails}
use Rattle.write_measure.proofs.ElementCases.{blob_present}
use Rattle.write_measure.proofs.blob_element.Goals as goal

pub returns-in_err-m : goal.returns-in_err-m
unfolding survey_part
returns-in_err-m c = rw c.from_residual.ensures (search (mark_fails, c.in_err-m.ensures))

pub returns-in-Absent : goal.returns-in-Absent
unfolding survey_part may_lack
returns-in-Absent c = search (surveyed_absent, c.in_ok-m.ensures)

pub returns-in-Present : goal.returns-in-Present
unfolding survey_part
returns-in-Present c = search (surveyed_present, blob_present, c.in_ok-m.ensures)

pub returns-in-Unknown : goal.returns-in-Unknown
unfolding survey_part survey_unknown
returns-in-Unknown c = search (unknown_fails, c.in_ok-m.ensures)
