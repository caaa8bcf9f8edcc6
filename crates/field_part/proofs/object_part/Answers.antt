use Rattle.field_part.proofs.DirectCases.{direct-content}
use Rattle.message_object.proofs.OpenCases.{list-counted-of, table-counted-of, list_fits, table_fits}
use borrow.Author.Rules.{rules}
use Rattle.field_part.proofs.object_part.Goals as goal

pub list_part-requires : goal.list_part-requires
list_part-requires c = search (list-counted-of, list_fits, rules)

pub table_part-requires : goal.table_part-requires
table_part-requires c = search (table-counted-of, table_fits, rules)

pub direct_part-requires-clause-place_in_bounds : goal.direct_part-requires-clause-place_in_bounds
direct_part-requires-clause-place_in_bounds c = search (direct-content, rules)
