use Rattle.judge_direct.proofs.PassCases.{few_bytes, few-place, size-within, size_room, visits_room, settle_visits, settle-both, settle-content, settle_all}
use native.Mathlib.Omega.{arith}
use borrow.Author.Rules.{rules}
use Rattle.judge_direct.proofs.settle.Goals as goal

pub overflow_mul-size : goal.overflow_mul-size
overflow_mul-size c = record { fits = search few_bytes }

pub overflow_add-at : goal.overflow_add-at
overflow_add-at c = record { fits = search few-place }

pub rest-requires : goal.rest-requires
rest-requires c = search visits_room

pub returns-then-v-k : goal.returns-then-v-k
returns-then-v-k c = search settle_visits

pub exceed-requires : goal.exceed-requires
exceed-requires c = search (size-within, size_room, rules)

pub returns-then-v-n : goal.returns-then-v-n
returns-then-v-n c = search settle-both

pub exceed-requires-then-k-n : goal.exceed-requires-then-k-n
exceed-requires-then-k-n c = (search size-within, search size_room, omega arith)

pub returns-then-k-n : goal.returns-then-k-n
returns-then-k-n c = search settle-content

pub rest-requires-2 : goal.rest-requires-2
rest-requires-2 c = search (visits_room)

pub returns : goal.returns
returns c = search settle_all
