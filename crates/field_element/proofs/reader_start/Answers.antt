use Rattle.field_element.proofs.StartCases.{starts-unlawful}
use Rattle.field_element.proofs.reader_start.Goals as goal

pub returns-in-None : goal.returns-in-None
returns-in-None c = search starts-unlawful
