use Rattle.write.proofs.WriteCases.{sheet_short, sheet_measured, not_answer, not_out, over_answer, over_out, full_answer, full_out, done_answer, done_out, taken}
use borrow.Author.Rules.{rules}
use Rattle.write.proofs.write_lawful.Goals as goal

pub returns-then-not-e : goal.returns-then-not-e
returns-then-not-e c = record { value = search (not_answer, c.requires.allowed, c.args.schema.now.accepted); out_after = search (not_out, c.requires.allowed, c.args.schema.now.accepted) }

pub returns-then-n-gt-LARGEST : goal.returns-then-n-gt-LARGEST
returns-then-n-gt-LARGEST c = record { value = search (over_answer, c.requires.allowed, c.args.schema.now.accepted); out_after = search (over_out, c.requires.allowed, c.args.schema.now.accepted) }

pub returns-then-out-n : goal.returns-then-out-n
returns-then-out-n c = record { value = search (full_answer, c.requires.allowed, c.args.schema.now.accepted); out_after = search (full_out, c.requires.allowed, c.args.schema.now.accepted) }

pub slice_bounds-emit_message-end-2 : goal.slice_bounds-emit_message-end-2
slice_bounds-emit_message-end-2 c = search taken

pub emit_message-requires : goal.emit_message-requires
emit_message-requires c = (search sheet_short, search sheet_measured)

pub returns : goal.returns
returns c = record { value = search (done_answer, c.requires.allowed, c.args.schema.now.accepted); out_after = search (done_out, c.requires.allowed, c.args.schema.now.accepted) }
