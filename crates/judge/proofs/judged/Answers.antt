use Rattle.judge.proofs.VerdictCases.{size_start, size-magic, size-largest, verdict-walk, verdict-other, verdict-size, code_small}
use borrow.Author.Rules.{rules}
use Rattle.judge.proofs.judged.Goals as goal

pub invariant_of-reading-clause-within : goal.invariant_of-reading-clause-within
invariant_of-reading-clause-within c = search size-largest

pub invariant_of-reading-clause-bytes : goal.invariant_of-reading-clause-bytes
invariant_of-reading-clause-bytes c = λ i. (c.shared_slice_known-1.given i).fits

pub start_ok-requires : goal.start_ok-requires
start_ok-requires c = search size-magic

pub walk_from_root-w-requires : goal.walk_from_root-w-requires
walk_from_root-w-requires c = search (size_start, size-largest, rules)

pub verdict_of-requires : goal.verdict_of-requires
verdict_of-requires c = search (code_small, rules)

pub returns-then-start_ok : goal.returns-then-start_ok
returns-then-start_ok c = search verdict-walk

pub returns-then-size_ok : goal.returns-then-size_ok
returns-then-size_ok c = search verdict-other

pub returns : goal.returns
returns c = search verdict-size
