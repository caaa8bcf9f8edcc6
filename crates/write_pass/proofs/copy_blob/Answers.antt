use borrow.Author.Rules.{rules}
use Rattle.write_pass.proofs.EmitCases.{bytes_behind, copied-cut, copied_short, copied_there}
use Rattle.write_pass.proofs.copy_blob.Goals as goal

pub returns-in_err-x : goal.returns-in_err-x
returns-in_err-x c = search (copied-cut, c.in_err-x.ensures)

pub returns-in_err-next : goal.returns-in_err-next
returns-in_err-next c = search (copied_short, c.in_ok-x.ensures, c.in_err-next.ensures)

pub store_copy-requires : goal.store_copy-requires
store_copy-requires c = (search rules, search (bytes_behind, c.in_ok-x.ensures, c.in_ok-next.ensures), search rules)

pub returns : goal.returns
returns c = search (copied_there, c.in_ok-x.ensures, c.in_ok-next.ensures)
