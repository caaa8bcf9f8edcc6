use Rattle.sheet.proofs.Whole.{taken, part-size, part_few, long_answer, long_over, short_answer, short_over, whole_answer, whole_over}
use borrow.Author.Rules.{rules}
use Rattle.sheet.proofs.read_accepted.Goals as goal

pub returns-then-n-gt-MOST : goal.returns-then-n-gt-MOST
returns-then-n-gt-MOST c = record { value = search long_answer; out_after = search long_over }

pub returns-then-out-k : goal.returns-then-out-k
returns-then-out-k c = record { value = search short_answer; out_after = search short_over }

pub slice_bounds-fill-end-2 : goal.slice_bounds-fill-end-2
slice_bounds-fill-end-2 c = search taken

pub fill-requires : goal.fill-requires
fill-requires c = record { readable = search rules; out_len = search part-size; out_len_bound = search part_few }

pub returns : goal.returns
returns c = record { value = search whole_answer; out_after = search whole_over }
