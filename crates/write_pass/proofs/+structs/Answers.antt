use Prim.Native.Nat.{◌<◌}
use mathlib.Core.Path.{refl}
use native.Mathlib.Omega.{arith}
use borrow.Author.Rules.{rules}
use Rattle.write_measure.proofs.FlatCases.{struct-lower, field_sound}
use Rattle.write_pass.proofs.EmitRoom.{going_room}
use Rattle.write_pass.proofs.EmitCases.{integer_eight, float_eight}
use Rattle.write_pass.proofs.StructCases.{field-counted, field_boolean, field_integer, field_float, field-enum, field-struct, fields_all, fields-cut, fields_turn, fields_done}
use Rattle.write_pass.proofs.+structs.Goals as goal

pub emit_field-emit_number-requires-clause-w_bound : goal.emit_field-emit_number-requires-clause-w_bound
emit_field-emit_number-requires-clause-w_bound t c = search (integer_eight, rules)

pub emit_field-emit_number-requires-in-Float-clause-w_bound : goal.emit_field-emit_number-requires-in-Float-clause-w_bound
emit_field-emit_number-requires-in-Float-clause-w_bound t c = search (float_eight, rules)

pub emit_field-emit_struct-requires : goal.emit_field-emit_struct-requires
emit_field-emit_struct-requires t c = let l : c.from-in-Struct.result < c.args.i = search struct-lower in (omega arith, (omega arith, search rules))

pub emit_field-returns-in-Boolean : goal.emit_field-returns-in-Boolean
emit_field-returns-in-Boolean t c = search field_boolean

pub emit_field-returns-in-Integer : goal.emit_field-returns-in-Integer
emit_field-returns-in-Integer t c = search field_integer

pub emit_field-returns-in-Float : goal.emit_field-returns-in-Float
emit_field-returns-in-Float t c = search field_float

pub emit_field-returns-in-Enumerated : goal.emit_field-returns-in-Enumerated
emit_field-returns-in-Enumerated t c = search field-enum

pub emit_field-returns-in-Struct : goal.emit_field-returns-in-Struct
emit_field-returns-in-Struct t c = search field-struct

pub emit_struct-loop-j-init : goal.emit_struct-loop-j-init
emit_struct-loop-j-init t c = (search rules, search rules, search rules, search fields_all)

pub emit_struct-field-k-requires : goal.emit_struct-field-k-requires
emit_struct-field-k-requires t c = (search rules, search field-counted, omega (arith, c.loop-j.invariant.1, c.loop-j-test.true))

pub emit_struct-emit_field-requires : goal.emit_struct-emit_field-requires
emit_struct-emit_field-requires t c = search (field_sound, going_room, rules)

pub emit_struct-returns-in_err-emit_field : goal.emit_struct-returns-in_err-emit_field
emit_struct-returns-in_err-emit_field t c = search (fields-cut, c.in_err-emit_field.ensures)

pub emit_struct-loop-j-preserved : goal.emit_struct-loop-j-preserved
emit_struct-loop-j-preserved t c = (search rules, search rules, search rules, search (fields_turn, c.in_ok-emit_field.ensures))

pub emit_struct-returns : goal.emit_struct-returns
emit_struct-returns t c = search fields_done
