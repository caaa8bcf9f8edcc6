use borrow.Author.Rules.{rules}
use Rattle.write_pass.proofs.EmitRoom.{room-below}
use Rattle.write_pass.proofs.EmitCases.{copied_fits, text-not, text_at, text_done}
use Rattle.write_pass.proofs.emit_text.Goals as goal

pub copy_blob-requires : goal.copy_blob-requires
copy_blob-requires c = search (room-below, rules)

pub returns-in_err-x : goal.returns-in_err-x
returns-in_err-x c = search (text-not, c.in_err-x.ensures)

pub forward-p-requires : goal.forward-p-requires
forward-p-requires c = search (copied_fits, c.in_ok-x.ensures)

pub put_byte-q-requires : goal.put_byte-q-requires
put_byte-q-requires c = search (text_at, c.in_ok-x.ensures)

pub returns : goal.returns
returns c = search (text_done, c.in_ok-x.ensures)
