use Rattle.sheet_values.proofs.Cases.{enum_none, enum_known, enum-unknown}
use Rattle.sheet_values.proofs.put_enum.Goals as goal

pub returns-then-x-eq255 : goal.returns-then-x-eq255
returns-then-x-eq255 c = search enum_none

pub returns-then-x-n : goal.returns-then-x-n
returns-then-x-n c = search enum_known

pub returns : goal.returns
returns c = search enum-unknown
