use Rattle.message_header.proofs.ContentCases.{element_sound}
use borrow.Author.Rules.{rules}
use Rattle.message_header.proofs.list_size.Goals as goal

pub elements_size-requires : goal.elements_size-requires
elements_size-requires c = search (element_sound, rules)
