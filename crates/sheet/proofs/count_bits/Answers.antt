use Rattle.sheet.proofs.Whole.{count_is, none_front}
use Rattle.sheet.proofs.count_bits.Goals as goal

pub returns : goal.returns
returns c = record { value = search count_is; out_unchanged = none_front c.put_root.new.out _ c.put_root.ensures.len }
