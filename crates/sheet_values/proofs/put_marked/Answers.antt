-- A mark and its number by one number where they fit, else by two.
use Rattle.sheet_values.proofs.Cases.{marked-counted, marked-one, marked-two}
use Rattle.sheet_values.proofs.put_marked.Goals as goal

pub returns-then-out-pos : goal.returns-then-out-pos
returns-then-out-pos c = search marked-counted

pub returns-then-w-le62 : goal.returns-then-w-le62
returns-then-w-le62 c = search marked-one

pub returns : goal.returns
returns c = search marked-two
