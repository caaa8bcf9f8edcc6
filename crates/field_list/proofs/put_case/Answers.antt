use Rattle.field_list.proofs.ListCases.{put_four}
use Rattle.field_list.proofs.put_case.Goals as goal

pub returns : goal.returns
returns c = put_four _ _ _ c.args.x _ c.from.ensures c.copy_from_slice.ensures.after
