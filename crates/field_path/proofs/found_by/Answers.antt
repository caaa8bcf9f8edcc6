use Rattle.field_path.proofs.PathCases.{size_start, size-magic, size_most}
use Rattle.field_path.proofs.found_by.Goals as goal

pub start_ok-requires : goal.start_ok-requires
start_ok-requires c = search size-magic

pub invariant_of-reading : goal.invariant_of-reading
invariant_of-reading c = record { within = search size_most; bytes = λ i. (c.type_inv.m i).fits }

pub from_root-requires : goal.from_root-requires
from_root-requires c = search size_start
