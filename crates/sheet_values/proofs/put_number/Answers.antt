use Rattle.sheet_values.proofs.Cases.{number_puts}
use Rattle.sheet_values.proofs.put_number.Goals as goal

pub returns-then-w-lt8 : goal.returns-then-w-lt8
returns-then-w-lt8 c = search number_puts

pub returns : goal.returns
returns c = search number_puts
