use Rattle.write_measure.proofs.SimpleCases.{width-found, width_small}
use Rattle.write_measure.proofs.number_width.Goals as goal

pub returns : goal.returns
returns c = (search width-found, search width_small)
