use Rattle.write_measure.proofs.ExtentCases.{referred_in, referred_out}
use Rattle.write_measure.proofs.referred.Goals as goal

pub returns-then-inplace : goal.returns-then-inplace
returns-then-inplace c = search referred_in

pub returns : goal.returns
returns c = search referred_out
