use borrow.Author.Rules.{rules}
use Rattle.write_pass.proofs.EmitPartCases.{absent_put, flag_low}
use Rattle.write_pass.proofs.absent.Goals as goal

pub lack-requires : goal.lack-requires
lack-requires c = (search rules, search rules, search flag_low)

pub returns : goal.returns
returns c = search absent_put
