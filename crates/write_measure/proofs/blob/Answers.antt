use borrow.Author.Rules.{rules}
use Rattle.write_measure.specs.Survey.{survey_blob}
use Rattle.write_measure.proofs.MarkCases.{bind_fails}
use Rattle.write_measure.proofs.PartCases.{blob_short, blob_there, bytes_inside}
use Rattle.write_measure.proofs.blob.Goals as goal

pub returns-in_err-x : goal.returns-in_err-x
unfolding survey_blob
returns-in_err-x c = rw c.from_residual.ensures (search (bind_fails, c.in_err-x.ensures))

pub returns-in_err-next : goal.returns-in_err-next
returns-in_err-next c = rw c.from_residual-in_err-next.ensures (search (blob_short, c.in_ok-x.ensures, c.in_err-next.ensures))

pub blob_extent-requires : goal.blob_extent-requires
blob_extent-requires c = ((search (bytes_inside, c.in_ok-x.ensures, c.in_ok-next.ensures), search rules), c.in_ok-x.ensures.small, search rules)

pub returns : goal.returns
returns c = search (blob_there, c.in_ok-x.ensures, c.in_ok-next.ensures)
