-- `first_byte` meets its contract.
use Rattle.schema_cleared.proofs.ClearCases.{no-union, not_in-place, flag_there, in_place}
use Rattle.schema_cleared.proofs.first_byte.Goals as goal

pub returns-then-not-is_union_kind : goal.returns-then-not-is_union_kind
returns-then-not-is_union_kind c = search no-union

pub returns-then-not-inplace_at : goal.returns-then-not-inplace_at
returns-then-not-inplace_at c = search not_in-place

pub overflow_sub-result : goal.overflow_sub-result
overflow_sub-result c = search flag_there

pub returns : goal.returns
returns c = search in_place
