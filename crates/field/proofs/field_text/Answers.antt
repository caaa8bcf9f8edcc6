use Rattle.field.proofs.TextCases.{text-part, text_none}
use Rattle.field.proofs.field_text.Goals as goal

pub returns-in-Some : goal.returns-in-Some
returns-in-Some c = text-part _ _ _ _ _ c.in-Some.ensures.0

pub returns-in-None : goal.returns-in-None
returns-in-None c = text_none _ _ _ _ c.in-None.ensures.0
