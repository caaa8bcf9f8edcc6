use mathlib.Core.Path.{◌∙◌}
use borrow.Author.Tests.{le-leb}
use Rattle.judge_direct.proofs.QuietCases.{uncut_past, uncut-inside}
use Rattle.judge_direct.proofs.is_uncut.Goals as goal

pub returns-then-w-slot : goal.returns-then-w-slot
returns-then-w-slot c = le-leb _ _ c.if-w-slot.true ∙ uncut_past _ _ c.if-w-slot.true

pub returns-else-w-slot : goal.returns-else-w-slot
returns-else-w-slot c = search uncut-inside
