use Rattle.judge.proofs.VerdictCases.{walk_is, walk_visits, walk-content}
use Rattle.judge.proofs.walk_from_root.Goals as goal

pub returns : goal.returns
returns c = search (walk_is, walk_visits, walk-content)
