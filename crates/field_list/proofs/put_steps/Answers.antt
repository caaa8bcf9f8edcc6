use Prim.Native.Nat.{ℕ}
use mathlib.Core.Path.{sym, ap, ◌∙◌}
use native.Mathlib.Omega.{arith}
use Rattle.coding.specs.Field.{answer_case, steps_over}
use Rattle.field_element.specs.Listed.{gives}
use Rattle.field_list.proofs.ListCases.{left_start, left_turn, left_done}
use Rattle.field_list.proofs.put_steps.Goals as goal

pub loop-i-init : goal.loop-i-init
loop-i-init c = search left_start

pub loop-i-preserved : goal.loop-i-preserved
loop-i-preserved c = let at-loop = c.loop-i in
    let answered = c.case_of.ensures ∙ ap answer_case c.step_answer-answer.ensures in
    left_turn _ _ at-loop.j at-loop.i _ at-loop.out (omega arith) (omega arith) _ answered _ c.put_case.ensures _ c.reader_next-j.ensures ∙ at-loop.invariant

pub returns : goal.returns
returns c = let at-loop = c.loop-i in
    sym (left_done _ _ at-loop.j at-loop.i _ at-loop.out (omega arith) (omega arith)) ∙ at-loop.invariant
    ∙ ap (λ (n : ℕ). steps_over (gives c.args.list.now) n c.args.from c.args.out.now) c.list_count-n.ensures
