-- `promises::reader_step` meets its contract, by that of `field_reader::step`.
use Rattle.promises.proofs.Stepping.{reader_steps}
use Rattle.promises.proofs.reader_step.Goals as goal

pub returns : goal.returns
returns c = reader_steps c.args.r.now c.step.result c.step.ensures.0 c.step.new.r c.step.ensures.1
