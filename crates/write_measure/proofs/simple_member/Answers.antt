use borrow.Author.Rules.{rules}
use Rattle.write_measure.proofs.SimpleCases.{flat_sound, simple_flat, simple_flat_fails, simple_blob, simple_blob_fails}
use Rattle.write_measure.proofs.simple_member.Goals as goal

pub flat_part-requires : goal.flat_part-requires
flat_part-requires c = search (flat_sound, rules)

pub returns-in_err-t : goal.returns-in_err-t
returns-in_err-t c = rw c.from_residual.ensures (search (simple_flat_fails, c.in_err-t.ensures))

pub returns-then-kind_at-lt-KIND_TEXT : goal.returns-then-kind_at-lt-KIND_TEXT
returns-then-kind_at-lt-KIND_TEXT c = search (simple_flat, c.in_ok-t.ensures)

pub returns-in_err-x : goal.returns-in_err-x
returns-in_err-x c = rw c.from_residual-in_err-x.ensures (search (simple_blob_fails, c.in_err-x.ensures))

pub returns : goal.returns
returns c = search (simple_blob, c.in_ok-x.ensures)
