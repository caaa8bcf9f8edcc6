use borrow.Author.Rules.{rules}
use mathlib.Core.Path.{refl}
use Rattle.write_measure.proofs.ObjectCases.{member-counted}
use Rattle.write_measure.proofs.SimpleCases.{simple-member-counted, left_here, left_ended, left_fails, left_turn}
use Rattle.write_measure.proofs.simple_members.Goals as goal

pub record_of-r-requires : goal.record_of-r-requires
record_of-r-requires c = (search rules, search member-counted, search rules)

pub returns-then-kind_at-ge-KIND_LIST : goal.returns-then-kind_at-ge-KIND_LIST
returns-then-kind_at-ge-KIND_LIST c = search left_here

pub simple_member-requires : goal.simple_member-requires
simple_member-requires c = (search rules, search rules, search simple-member-counted, (search rules, search rules), search rules)

pub returns-in_err-x : goal.returns-in_err-x
returns-in_err-x c = rw c.from_residual.ensures (search (left_fails, c.in_err-x.ensures))

pub loop-j-preserved : goal.loop-j-preserved
loop-j-preserved c = (search rules, search rules, search (left_turn, c.in_ok-x.ensures))

pub returns : goal.returns
returns c = search (left_ended, c.loop-j.auto.j-end)
