use borrow.Author.Rules.{rules}
use Rattle.write_pass.proofs.EmitRoom.{room-below}
use Rattle.write_pass.proofs.EmitCases.{copied_fits, bytes_cut, bytes_there}
use Rattle.write_pass.proofs.emit_bytes.Goals as goal

pub copy_blob-requires : goal.copy_blob-requires
copy_blob-requires c = search (room-below, rules)

pub returns-in_err-x : goal.returns-in_err-x
returns-in_err-x c = search (bytes_cut, c.in_err-x.ensures)

pub forward-requires : goal.forward-requires
forward-requires c = search (copied_fits, c.in_ok-x.ensures)

pub returns : goal.returns
returns c = search (bytes_there, c.in_ok-x.ensures)
