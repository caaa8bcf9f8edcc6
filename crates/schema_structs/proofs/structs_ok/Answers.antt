use borrow.Author.Rules.{rules}
use Rattle.schema_structs.proofs.StructRules.{sizing_none, sizing_more, small-below, fields_bad, too_large}
use Rattle.schema_structs.proofs.structs_ok.Goals as goal

pub loop-i-init : goal.loop-i-init
loop-i-init c = search sizing_none

pub returns-then-not-fields_ok : goal.returns-then-not-fields_ok
returns-then-not-fields_ok c = search fields_bad

pub struct_size-size-requires : goal.struct_size-size-requires
struct_size-size-requires c = search (small-below, rules)

pub returns-then-size-gt-LARGEST_STRUCT : goal.returns-then-size-gt-LARGEST_STRUCT
returns-then-size-gt-LARGEST_STRUCT c = search too_large

pub loop-i-preserved : goal.loop-i-preserved
loop-i-preserved c = search sizing_more
