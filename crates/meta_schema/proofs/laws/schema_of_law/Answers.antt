use Rattle.meta_schema.proofs.SchemaLawLemmas.{schema_of-whole}
use Rattle.meta_schema.proofs.laws.schema_of_law.Goals as goal

pub returns : goal.returns
returns c = schema_of-whole
