use Rattle.write_measure.proofs.PartCases.{passed_all, passed_short}
use Rattle.write_measure.proofs.pass.Goals as goal

pub returns-then-s-pos : goal.returns-then-s-pos
returns-then-s-pos c = search passed_short

pub returns : goal.returns
returns c = search passed_all
