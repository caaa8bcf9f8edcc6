-- `utf8::past_eights` meets its contract: ASCII leaves the boundary as it is.
use Rattle.std.proofs.Common.{◌+◌, ◌*◌, arith}
use Rattle.utf8.proofs.StepLaws.{skips_none, skips_then, skips_to, onward_skips, onward_stays}
use Rattle.utf8.proofs.past_eights.Goals as goal

pub returns-then-not-may_end : goal.returns-then-not-may_end
returns-then-not-may_end c = (c.requires.1, search onward_stays)

pub loop-j-init : goal.loop-j-init
loop-j-init c = skips_to c.args.s.now c.args.i c.args.i _ (omega arith) (skips_none _ _ c.requires.1)

pub returns-then-not-is_ascii : goal.returns-then-not-is_ascii
returns-then-not-is_ascii c = (omega arith, onward_skips _ _ _ _ _ c.if-not-may_end.false c.may_end.ensures c.requires.0 c.loop-j.invariant)

pub loop-j-preserved : goal.loop-j-preserved
loop-j-preserved c = skips_to _ _ _ _ (omega arith) (skips_then _ _ _ _ c.loop-j.invariant (c.is_ascii.ensures c.if-not-is_ascii.false))

pub returns : goal.returns
returns c = let a = c.args in
    (omega arith, onward_skips _ _ _ _ _ c.if-not-may_end.false c.may_end.ensures c.requires.0 (skips_to a.s.now a.i (a.i + 8 * c.loop-j.j) _ (omega arith) c.loop-j.invariant))
