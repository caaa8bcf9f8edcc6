use Rattle.bitio.specs.PutsLaws.{room_next}
use Rattle.sheet_lists.proofs.Elements.{floats_start, floats_next, floats_turn}
use Rattle.sheet_lists.proofs.store_floats.Goals as goal

pub loop-i-init : goal.loop-i-init
loop-i-init g c = search floats_start

pub store_float-p-requires-clause-room : goal.store_float-p-requires-clause-room
store_float-p-requires-clause-room g c = (search room_next, search floats_next)

pub loop-i-preserved : goal.loop-i-preserved
loop-i-preserved g c = search floats_turn
