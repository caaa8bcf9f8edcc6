use Rattle.std.proofs.Common.{◌≡◌, ◌*◌, ◌^◌, ◌<◌, ◌≤◌}
use Rattle.coding.specs.Bits.{bits_of}
use Rattle.sheet_lists.specs.Elements as A
use Rattle.sheet_lists.proofs.gather_enums.Given as goal

abbrev pub invariant-loop-i : goal.invariant-loop-i
invariant-loop-i l = (l.width ≤ 10 * l.i) × (l.value < 2 ^ l.width) × (bits_of l.width l.value ≡ A.enums_at l.m l.k l.i l.at)
