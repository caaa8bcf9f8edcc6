use mathlib.Core.Path.{ap}
use mathlib.Core.Bool.{not}
use Prim.Native.Nat.{◌<◌}
use mathlib.Core.Path.{ap}
use mathlib.Core.Bool.{not}
use native.Mathlib.Omega.{arith}
use borrow.Author.Rules.{rules}
use Rattle.message_layout.proofs.Booleans.{boolean-inside, struct-inside, struct-lower, flat_weaker, booleans_none, lower_index, lower-count, all_left, all-inside, field_sound, field-inside, next-inside, booleans_bad, booleans_turn, booleans_done}
use Rattle.message_layout.proofs.+booleans.Goals as goal

pub field_ok-byte_in-requires : goal.field_ok-byte_in-requires
field_ok-byte_in-requires t c = search (boolean-inside, rules)

pub field_ok-struct_ok-requires : goal.field_ok-struct_ok-requires
field_ok-struct_ok-requires t c = let l : c.from.result < c.args.i = search struct-lower in
    (omega arith, (omega arith, search struct-inside))

pub struct_ok-returns-then-s-eq-NO_BOOL : goal.struct_ok-returns-then-s-eq-NO_BOOL
struct_ok-returns-then-s-eq-NO_BOOL t c = search booleans_none

pub struct_ok-field_count-n-requires : goal.struct_ok-field_count-n-requires
struct_ok-field_count-n-requires t c = search (lower-count, rules)

pub struct_ok-loop-j-init : goal.struct_ok-loop-j-init
struct_ok-loop-j-init t c = (search all_left, search all-inside, search lower-count, search lower_index)

pub struct_ok-field_ok-requires : goal.struct_ok-field_ok-requires
struct_ok-field_ok-requires t c = search (field_sound, field-inside, rules)

pub struct_ok-returns-then-not-field_ok : goal.struct_ok-returns-then-not-field_ok
struct_ok-returns-then-not-field_ok t c = search booleans_bad

pub struct_ok-flat_width-pos-requires : goal.struct_ok-flat_width-pos-requires
struct_ok-flat_width-pos-requires t c = search (flat_weaker, field_sound, rules) fits 8000

pub struct_ok-loop-j-preserved : goal.struct_ok-loop-j-preserved
struct_ok-loop-j-preserved t c = let n = c.field_count-n.ensures.0 in
    let v = c.loop-j.invariant in
    (booleans_turn _ _ _ _ _ n c.loop-j-test.true _ c.field-k.ensures _ _ _ v.0 _ c.field_ok.ensures (ap not c.if-not-field_ok.false) _ c.flat_width-pos.ensures.0, next-inside _ _ _ _ _ n c.loop-j-test.true _ c.field-k.ensures _ v.1 _ c.flat_width-pos.ensures.0, v.2, v.3)

pub struct_ok-returns : goal.struct_ok-returns
struct_ok-returns t c = search booleans_done
