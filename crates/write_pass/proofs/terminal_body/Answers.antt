use borrow.Author.Rules.{rules}
use Rattle.write_measure.proofs.PartCases.{kind-flat}
use Rattle.write_pass.proofs.EmitPartCases.{terminal-blob, body-flat, body_terminal, body_no_terminal}
use Rattle.write_pass.proofs.terminal_body.Goals as goal

pub emit_flat-requires-clause-sound : goal.emit_flat-requires-clause-sound
emit_flat-requires-clause-sound c = search (kind-flat, rules)

pub refer_terminal-requires-clause-given : goal.refer_terminal-requires-clause-given
refer_terminal-requires-clause-given c = search (terminal-blob, rules)

pub returns-in-OfFlat : goal.returns-in-OfFlat
returns-in-OfFlat c = search body-flat

pub returns-in-OfObject : goal.returns-in-OfObject
returns-in-OfObject c = search body_terminal

pub returns-in-OfUnion : goal.returns-in-OfUnion
returns-in-OfUnion c = search body_no_terminal
