-- The eight bytes as one number.
use Rattle.std.proofs.Common.{rules}
use Rattle.bitio.proofs.Words.{word_run}
use Rattle.bitio.proofs.word.Goals as goal

pub returns : goal.returns
returns c = word_run c.args.s.now c.unwrap.result c.args.i _ c.requires c.type_inv.s (search rules) c.from_be_bytes.ensures c.from_be_bytes.type_inv
