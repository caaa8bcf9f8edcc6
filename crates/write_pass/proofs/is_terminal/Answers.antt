use borrow.Author.Rules.{rules}
use Rattle.write_pass.proofs.EmitPartCases.{terminal_offset}
use Rattle.write_pass.specs.Emitting.{is_terminal}
use Rattle.write_pass.proofs.is_terminal.Goals as goal

pub returns-in-OfFlat : goal.returns-in-OfFlat
unfolding is_terminal
returns-in-OfFlat c = search rules

pub returns-in-OfObject : goal.returns-in-OfObject
returns-in-OfObject c = search terminal_offset

pub returns-in-OfUnion : goal.returns-in-OfUnion
unfolding is_terminal
returns-in-OfUnion c = search rules
