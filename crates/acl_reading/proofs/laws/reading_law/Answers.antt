use Rattle.acl_reading.proofs.HiddenLemmas.{bare_hidden, column_hidden}
use Rattle.acl_reading.proofs.LawLemmas.{answer_alone, own_alone, schema_hidden, without_rules}
use Rattle.acl_reading.proofs.laws.reading_law.Goals as goal

pub returns : goal.returns
returns c = record {
  schema = schema_hidden;
  no_rules = without_rules;
  hidden = column_hidden;
  bare = bare_hidden;
  own = own_alone;
  own_answer = answer_alone;
}
