use Rattle.write_store.proofs.StoreCases.{cleared}
use Rattle.write_store.proofs.clear.Goals as goal

pub returns : goal.returns
returns c = cleared _ _ _ c.loop-byte.auto.dst c.loop-byte-test.false c.loop-byte.invariant
