use mathlib.Core.Path.{sym}
use lib.Seq.{set_out}
use Rattle.write_store.proofs.store_byte.Goals as goal

pub returns-else-i-out : goal.returns-else-i-out
returns-else-i-out c = sym (set_out c.args.out.now c.args.i c.args.x c.if-i-out.false)
