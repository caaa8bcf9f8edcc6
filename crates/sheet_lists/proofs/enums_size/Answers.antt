use Rattle.std.proofs.Common.{arith}
use Rattle.sheet_lists.proofs.Enums.{enums-size}
use Rattle.sheet_lists.proofs.enums_size.Goals as goal

pub returns : goal.returns
returns c = (λ k. enums-size _ k _ _ _ _ _ c.min-end.ensures c.min.ensures c.absent.ensures, omega arith)
