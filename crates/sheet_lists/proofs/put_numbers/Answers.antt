use Rattle.sheet_lists.proofs.Numbers.{numbers_counted}
use Rattle.sheet_lists.proofs.put_numbers.Goals as goal

pub returns-then-out-pos : goal.returns-then-out-pos
returns-then-out-pos c = search numbers_counted
