use Rattle.write_pass.proofs.EmitObjectCases.{content_deep, content-text, content_bytes, content_no_other}
use Rattle.write_pass.proofs.terminal_content.Goals as goal

pub returns-then-d-eq0 : goal.returns-then-d-eq0
returns-then-d-eq0 c = search content_deep

pub returns-in-Text : goal.returns-in-Text
returns-in-Text c = search content-text

pub returns-in-Bytes : goal.returns-in-Bytes
returns-in-Bytes c = search content_bytes

pub returns-in_default : goal.returns-in_default
returns-in_default c = search (content_no_other, c.in_default.not-Text, c.in_default.not-Bytes)
