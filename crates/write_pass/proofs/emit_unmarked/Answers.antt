use borrow.Author.Rules.{rules}
use Rattle.write_pass.proofs.RunCases.{unmarked-bools, unmarked_integers, unmarked-named}
use Rattle.write_pass.proofs.emit_unmarked.Goals as goal

pub returns-in-0 : goal.returns-in-0
returns-in-0 c = search unmarked-bools

pub returns-in-8 : goal.returns-in-8
returns-in-8 c = search (unmarked-named, rules)

pub returns-in-4 : goal.returns-in-4
returns-in-4 c = search (unmarked-named, rules)

pub returns-in-2 : goal.returns-in-2
returns-in-2 c = search (unmarked-named, rules)

pub returns-in_default : goal.returns-in_default
returns-in_default c = search unmarked_integers
