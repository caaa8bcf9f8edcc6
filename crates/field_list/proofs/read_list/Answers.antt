use mathlib.Core.Path.{◌∙◌}
use Rattle.field_element.proofs.StartCases.{starts-count}
use Rattle.field_list.proofs.ListCases.{over-starts}
use Rattle.field_list.proofs.read_list.Goals as goal

pub returns : goal.returns
returns c = let s = c.reader_start-list.ensures in
    record { value = c.list_count.ensures ∙ starts-count _ _ _ _ _ s; out_after = over-starts _ _ _ _ _ s _ _ _ c.put_steps.ensures }
