-- `schema::held::Packed::member` meets its contract.
use Rattle.schema.proofs.Access.{member-inside}
use Rattle.schema.proofs.Access.{member_is}
use Rattle.schema.proofs.held.Packed.member.Goals as goal

pub member_at-requires : goal.member_at-requires
member_at-requires c = search member-inside

pub returns : goal.returns
returns c = search member_is
