use Rattle.schema.specs.Parsed.{held_lawful}
use Rattle.positions.proofs.AnswerCases.{schema_answer, schema_out}
use Rattle.positions.proofs.positions.Goals as goal

pub positions_judged-requires : goal.positions_judged-requires
positions_judged-requires c = search held_lawful

pub returns-in-None : goal.returns-in-None
returns-in-None c = record { value = search schema_answer; out_after = search schema_out }
