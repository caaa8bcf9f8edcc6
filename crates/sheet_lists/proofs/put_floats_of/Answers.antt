use Rattle.sheet_values.proofs.Cases.{counted_puts}
use Rattle.sheet_lists.proofs.put_floats_of.Goals as goal

pub returns-then-out-pos : goal.returns-then-out-pos
returns-then-out-pos g c = search (counted_puts, c.floats_size-size.ensures.0)
