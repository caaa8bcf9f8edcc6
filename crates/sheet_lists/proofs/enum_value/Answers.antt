use Rattle.sheet_lists.proofs.Elements.{flag_most}
use Rattle.sheet_lists.proofs.Enums.{enum_value_is}
use Rattle.sheet_lists.proofs.enum_value.Goals as goal

pub returns : goal.returns
returns c = (enum_value_is _ _ c.from.ensures, flag_most _ _ c.from.ensures)
