use Rattle.judge_direct.proofs.QuietCases.{same_silent, table_there}
use borrow.Author.Rules.{rules}
use Rattle.judge_direct.proofs.only_count.Goals as goal

pub is_silent-requires : goal.is_silent-requires
is_silent-requires c = search (table_there, rules)
