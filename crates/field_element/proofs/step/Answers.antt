use mathlib.Core.Path.{ap, ◌∙◌}
use Prim.Native.Nat.{ℕ}
use Rattle.coding.specs.Field as Field
use Rattle.field_element.proofs.StartCases.{starts-gives, starts-count}
use Rattle.field_element.proofs.step.Goals as goal

pub returns : goal.returns
returns c = let s = c.reader_start-list.ensures in (
  c.step_answer.ensures ∙ starts-gives _ _ _ _ _ s c.args.j,
  c.reader_next.ensures ∙ ap (λ (n : ℕ). Field.reader_next n c.args.j) (c.list_count.ensures ∙ starts-count _ _ _ _ _ s),
)
