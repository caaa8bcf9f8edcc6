use mathlib.Core.Path.{◌≡◌}
use lib.ListN.{length}
use Rattle.coding.specs.Field.{steps_over}
use Rattle.field_element.specs.Listed.{gives, count}
use Rattle.field_list.specs.Stepping.{steps_left}
use Rattle.field_list.proofs.put_steps.Given as goal

abbrev pub invariant-loop-i : goal.invariant-loop-i
invariant-loop-i l = steps_left (gives l.list) l.n l.j l.i l.i-end l.out ≡ steps_over (gives l.list) l.n l.initial.j l.initial.out
