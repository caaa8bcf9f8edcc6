use Rattle.write.proofs.WriteCases.{long_answer, long_out, cut_answer, cut_out, open_answer, open_out, sheet-lawful}
use borrow.Author.Rules.{rules}
use Rattle.write.proofs.write_judged.Goals as goal

pub returns-then-s-gt-LARGEST : goal.returns-then-s-gt-LARGEST
returns-then-s-gt-LARGEST c = record { value = search (long_answer, c.requires.allowed, c.args.schema.now.accepted); out_after = search (long_out, c.requires.allowed, c.args.schema.now.accepted) }

pub returns-in-None : goal.returns-in-None
returns-in-None c = record { value = search (cut_answer, c.requires.allowed, c.args.schema.now.accepted); out_after = search (cut_out, c.requires.allowed, c.args.schema.now.accepted) }

pub returns-then-not-closed : goal.returns-then-not-closed
returns-then-not-closed c = record { value = search (open_answer, c.requires.allowed, c.args.schema.now.accepted); out_after = search (open_out, c.requires.allowed, c.args.schema.now.accepted) }

pub write_lawful-requires : goal.write_lawful-requires
write_lawful-requires c = record { allowed = c.requires.allowed; sheet_lawful = search (sheet-lawful, c.requires.allowed, c.args.schema.now.accepted) }
