use Rattle.schema_rules.proofs.DirectRules.{table_below, union_below}
use Rattle.schema_rules.proofs.direct_ok.Goals as goal

pub table_place-requires : goal.table_place-requires
table_place-requires c = search table_below

pub union_place-requires : goal.union_place-requires
union_place-requires c = search union_below
