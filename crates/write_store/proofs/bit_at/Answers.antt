use Rattle.write_store.proofs.BitCases.{bit_shifted, bit_most}
use Rattle.write_store.proofs.bit_at.Goals as goal

pub returns : goal.returns
returns c = (bit_shifted c.args.x c.args.k c.requires.0 c.requires.1, bit_most c.args.x c.args.k c.requires.0 c.requires.1)
