use Rattle.positions.proofs.RecordCases.{width-number, width-enum, struct_there, width-struct, width-union, width-object}
use borrow.Author.Rules.{rules}
use Rattle.positions.proofs.width_at.Goals as goal

pub returns-then-k-lt-KIND_ENUM : goal.returns-then-k-lt-KIND_ENUM
returns-then-k-lt-KIND_ENUM c = (search width-number, search rules)

pub returns-then-k-eq-KIND_ENUM : goal.returns-then-k-eq-KIND_ENUM
returns-then-k-eq-KIND_ENUM c = (search width-enum, search rules)

pub stored_size-requires : goal.stored_size-requires
stored_size-requires c = search struct_there

pub returns-then-k-eq-KIND_STRUCT : goal.returns-then-k-eq-KIND_STRUCT
returns-then-k-eq-KIND_STRUCT c = (search width-struct, search rules)

pub returns-then-is_union_kind : goal.returns-then-is_union_kind
returns-then-is_union_kind c = (search width-union, search rules)

pub returns : goal.returns
returns c = (search width-object, search rules)
