use mathlib.Core.Path.{◌≡◌}
use lib.ListN.{drop}
use Rattle.field_arrival.specs.Parts.{along_by}
use Rattle.field_arrival.specs.Within.{FoundIn}
use Rattle.field_path.proofs.along.Given as goal

abbrev pub invariant-loop-number : goal.invariant-loop-number
invariant-loop-number l = (along_by l.indexed.reading l.fn.from l.path ≡ along_by l.indexed.reading l.found (drop l.number-index l.path)) × FoundIn l.indexed.reading l.found
