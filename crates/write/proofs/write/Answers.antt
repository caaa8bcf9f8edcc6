use Rattle.schema.specs.Parsed.{held_lawful}
use Rattle.write.proofs.WriteCases.{schema_written, schema_written-out, schema_answer, schema_out}
use Rattle.write.proofs.write.Goals as goal

pub write_judged-requires : goal.write_judged-requires
write_judged-requires c = search held_lawful

pub returns-in-Some : goal.returns-in-Some
returns-in-Some c = record { value = search schema_written; out_after = search schema_written-out }

pub returns-in-None : goal.returns-in-None
returns-in-None c = record { value = search schema_answer; out_after = search schema_out }
