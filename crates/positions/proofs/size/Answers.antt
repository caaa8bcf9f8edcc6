use Rattle.positions.proofs.PlaceCases.{some-table, last-table, size_is}
use borrow.Author.Rules.{rules}
use Rattle.positions.proofs.size.Goals as goal

pub overflow_sub-last : goal.overflow_sub-last
overflow_sub-last c = search some-table

pub first_row-requires : goal.first_row-requires
first_row-requires c = search last-table

pub member_count-requires : goal.member_count-requires
member_count-requires c = search last-table

pub returns : goal.returns
returns c = (search size_is, search rules)
