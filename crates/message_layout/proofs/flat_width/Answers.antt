use native.Mathlib.Omega.{arith}
use borrow.Author.Rules.{rules}
use Rattle.coding.specs.Structs as S
use Rattle.message_layout.proofs.Widths.{some-struct, struct_index}
use Rattle.message_layout.proofs.flat_width.Goals as goal

pub stored_size-requires : goal.stored_size-requires
stored_size-requires c = search (struct_index, rules)

pub returns-in-Struct : goal.returns-in-Struct
unfolding S.flat_width
returns-in-Struct c = (search rules, search some-struct, omega arith)
