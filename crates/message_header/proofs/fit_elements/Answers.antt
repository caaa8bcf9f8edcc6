use Rattle.message_header.proofs.ContentCases.{elements-empty, elements_fit}
use Rattle.message_header.proofs.fit_elements.Goals as goal
use Rattle.message_header.proofs.fit_elements.Goals.{then-w-eq0-via-then-w-eq0, then-w-eq0-via-else-w-eq0+then-c-m}

pub returns-then-w-eq0 : goal.returns-then-w-eq0
returns-then-w-eq0 c =
    elim c.then-w-eq0.branch
    [ then-w-eq0-via-then-w-eq0 w ↦ search elements-empty | then-w-eq0-via-else-w-eq0+then-c-m w ↦ search elements_fit ]
