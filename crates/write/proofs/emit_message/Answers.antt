-- `write::emit_message` meets its contract.
use borrow.Author.Rules.{rules}
use Rattle.write_pass.proofs.EmitMessageCases.{message_measured, message_room, message_done}
use Rattle.write.proofs.emit_message.Goals as goal

pub emit_measured-requires : goal.emit_measured-requires
emit_measured-requires c = search (message_room, message_measured, rules)

pub returns : goal.returns
returns c = search message_done
