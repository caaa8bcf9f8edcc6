-- `message_layout::place_member` meets its contract.
use Rattle.message_layout.proofs.Places.{member-stands, placement_is}
use borrow.Author.Rules.{rules}
use Rattle.message_layout.proofs.place_member.Goals as goal

pub returns : goal.returns
returns c = (search placement_is, search member-stands, search rules, search rules)
