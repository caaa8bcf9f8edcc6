use Rattle.write_store.proofs.BitCases.{bit_new, bit_old, held_byte, held_fits}
use Rattle.write_store.proofs.put_bit.Goals as goal

pub returns-then-c-eq0 : goal.returns-then-c-eq0
returns-then-c-eq0 c = search bit_new

pub overflow_add-held : goal.overflow_add-held
overflow_add-held c = record { fits = search held_fits }

pub overflow_cast-held : goal.overflow_cast-held
overflow_cast-held c = record { fits = search held_byte }

pub returns : goal.returns
returns c = search bit_old
