-- `message_header::length_in` meets its contract, by the width.
use Rattle.message_header.proofs.HeaderCases.{length_upper}
use Rattle.message_header.proofs.length_in.Goals as goal

pub returns-then-o-eq-U48 : goal.returns-then-o-eq-U48
returns-then-o-eq-U48 c = length_upper _ (λ i. (c.type_inv.m i).fits) _ _ _ c.if-o-eq-U48.true c.u64_in.ensures
