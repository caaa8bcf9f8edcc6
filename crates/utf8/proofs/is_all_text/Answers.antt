use Rattle.std.proofs.Common.{◌*◌, ◌/◌, length, arith}
use Rattle.utf8.proofs.OctetLaws.{word_ends}
use Rattle.utf8.proofs.StepLaws.{onward-begin, onward_then, onward_to, no_text, text-end}
use Rattle.utf8.proofs.is_all_text.Goals as goal

pub loop-j-init : goal.loop-j-init
loop-j-init c = onward-begin _

pub returns-then-w-eq-NO_TEXT : goal.returns-then-w-eq-NO_TEXT
returns-then-w-eq-NO_TEXT c = no_text _ _ _ _ _ c.loop-j.invariant c.after_block-w.ensures c.if-w-eq-NO_TEXT.true

pub loop-j-preserved : goal.loop-j-preserved
loop-j-preserved c = onward_to _ _ _ _ _ _ (omega arith) (onward_then _ _ _ _ _ _ _ c.loop-j.invariant c.after_block-w.ensures)

pub returns : goal.returns
returns c = let s = c.args.s.now in
    let l = c.loop-j in
    let here = onward_to s 0 (64 * l.j) (64 * (length s / 64)) 0 l.w (omega arith) l.invariant in
    text-end _ _ _ _ _ c.past_eights-i.ensures.0 (onward_then _ _ _ _ _ _ _ here c.past_eights-i.ensures.1) c.after_bytes.ensures (word_ends _ c.after_bytes.ensures.holds)
