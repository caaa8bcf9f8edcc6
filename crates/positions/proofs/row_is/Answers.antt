use Rattle.positions.proofs.TableCases.{other-value, other_flag, same_size}
use Rattle.positions.proofs.row_is.Goals as goal

pub returns-then-u32_in-x : goal.returns-then-u32_in-x
returns-then-u32_in-x c = other-value _ (λ i. (c.shared_slice_known-1.given i).fits) _ _ c.requires.2 _ c.u32_in.ensures c.if-u32_in-x.true

pub returns-then-u32_in-x-2 : goal.returns-then-u32_in-x-2
returns-then-u32_in-x-2 c = other_flag _ (λ i. (c.shared_slice_known-1.given i).fits) _ _ c.requires.2 _ c.u32_in.ensures c.if-u32_in-x.false _ c.u32_in-2.ensures c.if-u32_in-x-2.true

pub returns : goal.returns
returns c = same_size _ (λ i. (c.shared_slice_known-1.given i).fits) _ _ c.requires.2 _ c.u32_in.ensures c.if-u32_in-x.false _ c.u32_in-2.ensures c.if-u32_in-x-2.false _ c.u32_in-3.ensures
