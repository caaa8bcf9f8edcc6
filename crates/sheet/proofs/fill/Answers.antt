use Rattle.sheet.proofs.Whole.{fill_room, fill_done}
use borrow.Author.Rules.{rules}
use Rattle.sheet.proofs.fill.Goals as goal

pub put_root-requires : goal.put_root-requires
put_root-requires c = record { room = search fill_room; readable = search rules }

pub returns : goal.returns
returns c = fill_done _ c.args.out.now _ _ _ c.requires.out_len c.requires.out_len_bound c.clear_last.ensures c.put_root.ensures (λ i. (c.slice_known-3-1.given i).fits)
