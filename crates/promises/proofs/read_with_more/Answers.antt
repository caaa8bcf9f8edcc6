use Rattle.promises.proofs.Promised.{more_answer, more_out}
use Rattle.promises.proofs.read_with_more.Goals as goal

pub returns : goal.returns
returns c = let ea = c.read-by_less.ensures.value in
    let eo = c.read-by_less.ensures.out_after in
    let eb = c.read-by_more.ensures.value in
    let ep = c.read-by_more.ensures.out_after in
    record { by_less = ea; less_out = eo; by_more = eb; more_out = ep; same = more_answer _ _ _ _ _ _ _ _ _ ea eb; output = λ raises. more_out _ _ _ _ _ _ _ _ _ ea eb raises _ _ eo ep }
