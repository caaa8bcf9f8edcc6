use Rattle.sheet_lists.proofs.Bools.{bools_counted, bools_whole, bools_rest}
use Rattle.sheet_lists.proofs.put_bools.Goals as goal

pub returns-then-out-pos : goal.returns-then-out-pos
returns-then-out-pos c = search bools_counted

pub returns-then-rest-eq0 : goal.returns-then-rest-eq0
returns-then-rest-eq0 c = search bools_whole

pub returns : goal.returns
returns c = search bools_rest
