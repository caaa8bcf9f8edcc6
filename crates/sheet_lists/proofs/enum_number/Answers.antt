use Rattle.sheet_lists.proofs.Enums.{number_none, number_some, number-known, known_small, number-unknown, unknown_small}
use Rattle.sheet_lists.proofs.enum_number.Goals as goal

pub returns-then-x-eq255 : goal.returns-then-x-eq255
returns-then-x-eq255 c = (search number_none, search number_some)

pub returns-then-x-k : goal.returns-then-x-k
returns-then-x-k c = (search number-known, search known_small)

pub returns : goal.returns
returns c = (search number-unknown, search unknown_small)
