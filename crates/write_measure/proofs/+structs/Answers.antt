use Prim.Native.Nat.{◌<◌, ◌*◌, ◌+◌}
use mathlib.Core.Path.{◌≡◌}
use native.Mathlib.Omega.{arith}
use borrow.Author.Rules.{rules}
use Rattle.write_measure.proofs.FlatCases.{integer_short, float_short, rank, rank_struct, rank_lower, inner_sound, field_enum, field_other, fields_all, field_sound, fields_fail, fields_turn, fields_done}
use Rattle.write_measure.proofs.PartCases.{struct-counted, flat_boolean, flat_integer_lem, flat_float, flat-enum, flat-struct}
use Rattle.write_measure.proofs.+structs.Goals as goal

pub field_test-returns-in-Enumerated : goal.field_test-returns-in-Enumerated
field_test-returns-in-Enumerated t c = search field_enum

pub field_test-returns-in_default : goal.field_test-returns-in_default
field_test-returns-in_default t c = search (field_other, c.in_default.not-Enumerated)

pub flat_test-struct_test-requires : goal.flat_test-struct_test-requires
flat_test-struct_test-requires t c =
    let e : rank c.args.k ≡ 3 * c.from-in-Struct.result + 4 = search rank_struct in
    (omega (arith, c.decreases), (search struct-counted, search rules))

pub flat_test-returns-in-Boolean : goal.flat_test-returns-in-Boolean
flat_test-returns-in-Boolean t c = search flat_boolean

pub flat_test-returns-in-Integer : goal.flat_test-returns-in-Integer
flat_test-returns-in-Integer t c = search flat_integer_lem

pub flat_test-returns-in-Float : goal.flat_test-returns-in-Float
flat_test-returns-in-Float t c = search flat_float

pub flat_test-returns-in-Enumerated : goal.flat_test-returns-in-Enumerated
flat_test-returns-in-Enumerated t c = search flat-enum

pub flat_test-returns-in-Struct : goal.flat_test-returns-in-Struct
flat_test-returns-in-Struct t c = search flat-struct

pub struct_test-loop-j-init : goal.struct_test-loop-j-init
struct_test-loop-j-init t c = (search rules, search fields_all)

pub struct_test-field_test-requires : goal.struct_test-field_test-requires
struct_test-field_test-requires t c =
    let f = field_sound _ _ c.args.schema.now.accepted _ _ _ c.field_count-j-end.ensures.0 _ c.field.ensures c.loop-j-test.true in
    let l = rank_lower _ _ f in
    (omega (arith, c.decreases), (inner_sound _ _ _ c.requires.0 f, (search rules, search rules)))

pub struct_test-returns-in_err-t : goal.struct_test-returns-in_err-t
struct_test-returns-in_err-t t c = rw c.from_residual.ensures (search (fields_fail, c.in_err-t.ensures))

pub struct_test-loop-j-preserved : goal.struct_test-loop-j-preserved
struct_test-loop-j-preserved t c = (c.in_ok-t.ensures.inside, search (fields_turn, c.in_ok-t.ensures))

pub struct_test-returns : goal.struct_test-returns
struct_test-returns t c = search fields_done
