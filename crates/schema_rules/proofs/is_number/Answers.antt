use Rattle.std.proofs.Common.{◌<◌, sym, ◌∙◌, slice_index, arith}
use borrow.Author.Tests.{eqb-true, ltb-true}
use Rattle.schema_rules.proofs.NumberRules.{number_ok}
use Rattle.schema_rules.proofs.is_number.Goals as goal
use Rattle.schema_rules.proofs.is_number.Goals.{then-b-at-lt-FIRST_ENUM, else-b-at-lt-FIRST_ENUM}

pub returns-then-b-at-eq0 : goal.returns-then-b-at-eq0
returns-then-b-at-eq0 c =
    elim c.if-b-at-lt-FIRST_ENUM.branch [
      | then-b-at-lt-FIRST_ENUM w ↦ number_ok _ _ w.if-b-at-lt-FIRST_ENUM.true (eqb-true _ _ (sym w.value-is ∙ c.if-b-at-eq0.true))
      | else-b-at-lt-FIRST_ENUM w ↦ λ e. absurd (let l : slice_index c.args.b.now c.args.at < 88 = ltb-true _ _ (sym w.value-is ∙ c.if-b-at-eq0.true) in omega arith)
    ]
