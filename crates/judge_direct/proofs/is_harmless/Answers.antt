use Rattle.judge_direct.proofs.QuietCases.{struct-counted, harmless_bool, harmless_integer, harmless_float, harmless-enum, harmless-struct}
use borrow.Author.Rules.{rules}
use Rattle.judge_direct.proofs.is_harmless.Goals as goal

pub representative-requires : goal.representative-requires
representative-requires c = search (struct-counted, rules)

pub returns-in-Boolean : goal.returns-in-Boolean
returns-in-Boolean c = λ e. search harmless_bool

pub returns-in-Integer : goal.returns-in-Integer
returns-in-Integer c = λ e. search harmless_integer

pub returns-in-Float : goal.returns-in-Float
returns-in-Float c = λ e. search harmless_float

pub returns-in-Enumerated : goal.returns-in-Enumerated
returns-in-Enumerated c = λ e. search harmless-enum

pub returns-in-Struct : goal.returns-in-Struct
returns-in-Struct c = λ e. search harmless-struct
