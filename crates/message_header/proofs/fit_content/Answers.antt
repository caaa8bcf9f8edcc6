use Rattle.message_header.proofs.ContentCases.{list_there}
use borrow.Author.Rules.{rules}
use Rattle.message_header.proofs.fit_content.Goals as goal

pub list_size-requires : goal.list_size-requires
list_size-requires c = search (list_there, rules)
