use Rattle.sheet_values.proofs.Cases.{plain_none, plain-counted, plain_word, plain_there}
use Rattle.sheet_values.proofs.put_plain.Goals as goal

pub returns-then-n-end : goal.returns-then-n-end
returns-then-n-end c = search plain_none

pub returns-then-out-pos : goal.returns-then-out-pos
returns-then-out-pos c = search plain-counted

pub returns-then-at-m : goal.returns-then-at-m
returns-then-at-m c = search plain_word

pub returns : goal.returns
returns c = search plain_there
