use Rattle.positions.proofs.AnswerCases.{table-inside, table_short, no_room_answer, no_room_out, made_answer, made_out}
use borrow.Author.Rules.{rules}
use Rattle.positions.proofs.positions_judged.Goals as goal

pub returns-then-out-n : goal.returns-then-out-n
returns-then-out-n c = record { value = search no_room_answer; out_after = search no_room_out }

pub put_tables-requires : goal.put_tables-requires
put_tables-requires c = (search table-inside, search table_short)

pub returns : goal.returns
returns c = record { value = search made_answer; out_after = search made_out }
