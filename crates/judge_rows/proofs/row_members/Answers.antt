use Rattle.judge_rows.proofs.RowCases.{row_here, row_start, row_ended, row_done, row_stopped, row_turn, row_read}
use native.Mathlib.Omega.{arith}
use Prim.Native.Nat.{◌-◌}
use Rattle.judge_rows.proofs.row_members.Goals as goal

pub loop-j-init : goal.loop-j-init
loop-j-init c = (omega arith, omega arith, search row_start)

pub returns-then-x-end : goal.returns-then-x-end
returns-then-x-end c = search row_ended

pub record_place-at-requires : goal.record_place-at-requires
record_place-at-requires c = (omega arith, c.requires.0.small, omega (arith, c.requires.0.few))

pub row_member-g-requires : goal.row_member-g-requires
row_member-g-requires c = record { width = (omega (arith, c.requires.0.inside, c.record_place-at.ensures.1), row_here _ _ c.requires.0 _ c.loop-j-test.true _ c.record_place-at.ensures.1); in_bounds = (c.requires.1, omega (arith, c.if-x-end.false)) }

pub returns-then-g-ne0 : goal.returns-then-g-ne0
returns-then-g-ne0 c = row_stopped _ _ _ _ _ _ _ c.requires.0 _ _ _ c.loop-j.invariant.2 c.loop-j-test.true _ c.record_place-at.ensures.0 _ c.row_member-g.ensures c.if-g-ne0.true

pub byte_in-requires : goal.byte_in-requires
byte_in-requires c = omega (arith, c.requires.0.inside, c.record_place-at.ensures.1)

pub row_width-end-requires : goal.row_width-end-requires
row_width-end-requires c = (row_read _ _ c.requires.0 _ c.loop-j-test.true _ c.record_place-at.ensures.1 _ c.byte_in.ensures _ c.index.ensures.0, c.args.reading.now.schema.coded)

pub overflow_add-end : goal.overflow_add-end
overflow_add-end c = omega (arith, c.row_width-end.ensures.1, c.requires.0.few, c.loop-j.invariant.1)

pub loop-j-preserved : goal.loop-j-preserved
loop-j-preserved c = (omega arith, omega (arith, c.row_width-end.ensures.1, c.loop-j.invariant.1), row_turn _ _ _ _ _ _ _ c.requires.0 _ _ _ c.loop-j.invariant.2 c.loop-j-test.true _ c.record_place-at.ensures.0 _ c.row_member-g.ensures c.if-g-ne0.false c.record_place-at.ensures.1 _ c.byte_in.ensures _ c.index.ensures.0 _ c.row_width-end.ensures.0 c.row_width-end.ensures.1)

pub returns : goal.returns
returns c = search row_done
