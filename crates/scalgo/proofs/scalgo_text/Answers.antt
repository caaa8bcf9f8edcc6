-- `scalgo::scalgo_text` meets its contract.
use Rattle.scalgo.proofs.Codings.{some_there, some-start, some-length, none_there, none-start, none-length}
use borrow.Author.Rules.{rules}
use Rattle.scalgo.proofs.scalgo_text.Goals as goal

pub returns-in-Some : goal.returns-in-Some
returns-in-Some c = record { value = search some_there; start_after = search some-start; length_after = search some-length; length_bound = search rules }

pub returns-in-None : goal.returns-in-None
returns-in-None c = record { value = search none_there; start_after = search none-start; length_after = search none-length; length_bound = search rules }
