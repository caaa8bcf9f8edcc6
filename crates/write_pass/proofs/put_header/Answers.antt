use borrow.Author.Rules.{rules}
use Rattle.write_pass.proofs.OpenCases.{entered_low, entered-header, header_put}
use Rattle.write_pass.proofs.put_header.Goals as goal

pub put_number-h-requires : goal.put_number-h-requires
put_number-h-requires c = search (entered_low, rules)

pub put_offset-requires : goal.put_offset-requires
put_offset-requires c = search (entered-header, rules)

pub returns : goal.returns
returns c = search header_put
