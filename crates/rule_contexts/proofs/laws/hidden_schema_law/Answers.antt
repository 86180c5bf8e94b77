use Rattle.rule_contexts.proofs.laws.hidden_schema_law.Goals as goal

pub returns : goal.returns
returns c = c.reading_law.ensures.schema
