use Rattle.sheet_values.proofs.Cases.{float_none, float_value, float_plain}
use Rattle.sheet_values.proofs.put_float.Goals as goal
use Rattle.sheet_values.proofs.put_float.Goals.{else-none-via-then-none+else-is_nan, else-none-via-else-none}

pub returns-then-is_nan : goal.returns-then-is_nan
returns-then-is_nan c = search float_none

pub returns : goal.returns
returns c =
    elim c.else-none.branch [
      | else-none-via-then-none+else-is_nan w ↦ search float_value
      | else-none-via-else-none w ↦ search float_plain
    ]
