use Rattle.promises.proofs.Tables.{old-verdict, other-verdict}
use Rattle.promises.proofs.Promised.{judges-exactly, judges-arrivals, judges-content}
use Rattle.promises.proofs.judged.Goals as goal

pub returns : goal.returns
returns c = record { whole = c.judge.ensures; exactly = judges-exactly _ _ _ _ _ c.judge.ensures; arrivals = judges-arrivals _ _ _ _ _ c.judge.ensures; content = judges-content _ _ _ _ _ c.judge.ensures; right_table = λ table. old-verdict _ _ _ table _ _ _ c.judge.ensures; other_table = λ other. other-verdict _ _ _ other _ _ _ c.judge.ensures }
