-- `clear_unions` meets its contract.
use Rattle.schema.specs.Parsed.{held_lawful}
use Rattle.schema_cleared.proofs.ClearCases.{held_wide, held_answer, held_out, refused_answer, refused_out}
use Rattle.schema_cleared.proofs.clear_unions.Goals as goal

pub clear_lawful-requires : goal.clear_lawful-requires
clear_lawful-requires c = record { allowed = search held_lawful; six = search held_wide }

pub returns-in-Some : goal.returns-in-Some
returns-in-Some c = record { value = search held_answer; out_after = search held_out }

pub returns-in-None : goal.returns-in-None
returns-in-None c = record { value = search refused_answer; out_after = search refused_out }
