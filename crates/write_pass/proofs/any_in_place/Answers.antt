use Rattle.write_measure.proofs.ObjectCases.{member-counted}
use borrow.Author.Rules.{rules}
use Rattle.write_pass.proofs.MeasureCases.{place_start, place_found, place_turn, place_none}
use Rattle.write_pass.proofs.any_in_place.Goals as goal

pub loop-j-init : goal.loop-j-init
loop-j-init c = (search rules, search rules, search place_start)

pub member-r-requires : goal.member-r-requires
member-r-requires c = (search rules, search member-counted, search rules)

pub returns-then-r : goal.returns-then-r
returns-then-r c = search place_found

pub loop-j-preserved : goal.loop-j-preserved
loop-j-preserved c = (search rules, search rules, search place_turn)

pub returns : goal.returns
returns c = search place_none
