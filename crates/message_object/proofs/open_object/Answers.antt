-- The end byte of a text that fits is there.
use Rattle.message_object.proofs.OpenCases.{open_inside}
use borrow.Author.Rules.{rules}
use Rattle.message_object.proofs.open_object.Goals as goal

pub test_bytes-requires : goal.test_bytes-requires
test_bytes-requires c = search (open_inside, rules)
