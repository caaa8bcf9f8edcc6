use Rattle.field_path.proofs.PathCases.{found-unlawful, found-lent, within-lent, refused-within}
use Rattle.field_path.proofs.field_found.Goals as goal

pub returns-in-Some : goal.returns-in-Some
returns-in-Some c = (search found-lent, search within-lent)

pub returns-in-None : goal.returns-in-None
returns-in-None c = (search found-unlawful, search refused-within)
