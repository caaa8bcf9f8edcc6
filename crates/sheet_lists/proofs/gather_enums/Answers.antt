use Rattle.std.proofs.Common.{◌+◌, ◌*◌, ◌≤◌, arith}
use Rattle.sheet_lists.proofs.Enums.{enums_start, enums_small, enums_join}
use Rattle.sheet_lists.proofs.gather_enums.Goals as goal

pub loop-i-init : goal.loop-i-init
loop-i-init c = (omega arith, omega arith, enums_start _ _ _)

pub loop-i-preserved : goal.loop-i-preserved
loop-i-preserved c = let l = c.loop-i in
    let e = c.enum_value.ensures in
    let few : l.width + (2 + 8 * c.enum_value.result) ≤ 50 = omega (arith, l.invariant.0, c.loop-i-test.true, c.requires.0, e.1) in
    let y = c.enum_number.ensures in (
      omega arith,
      enums_small l.i _ _ _ _ _ few l.invariant.1 e.0 y.1,
      enums_join l.i _ _ _ _ _ few l.invariant.1 e.0 y.1 _ _ _ l.invariant.2 c.byte-x.ensures y.0,
    )
