use Rattle.message_step.proofs.Inside.{struct-counted}
use Rattle.sheet_walk.proofs.put_flat.Goals as goal

pub put_whole-requires-clause-in_bounds : goal.put_whole-requires-clause-in_bounds
put_whole-requires-clause-in_bounds c = search struct-counted
