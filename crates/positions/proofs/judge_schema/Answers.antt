use Rattle.schema.specs.Parsed.{held_lawful}
use Rattle.positions.proofs.AnswerCases.{schema_off, table_off, table_is, table_held}
use Rattle.positions.proofs.judge_schema.Goals as goal

pub returns-in-None : goal.returns-in-None
returns-in-None c = search schema_off

pub returns-then-not-matches : goal.returns-then-not-matches
returns-then-not-matches c = table_off _ _ _ _ c.judge_schema.ensures _ c.in-Some.is _ c.matches.ensures c.if-not-matches.true

pub invariant_of-result : goal.invariant_of-result
invariant_of-result c =
    record {
      allowed = held_lawful _ _ _ c.judge_schema.ensures _ c.in-Some.is;
      right = table_is _ _ _ _ c.judge_schema.ensures _ c.in-Some.is _ c.matches.ensures c.if-not-matches.false;
    }

pub returns-else-not-matches : goal.returns-else-not-matches
returns-else-not-matches c = table_held _ _ _ _ c.judge_schema.ensures _ c.in-Some.is _ c.matches.ensures c.if-not-matches.false
