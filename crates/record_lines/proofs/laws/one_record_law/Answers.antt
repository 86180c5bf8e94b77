use Rattle.record_lines.proofs.RecordLemmas.{record_once}
use Rattle.record_lines.proofs.laws.one_record_law.Goals as goal

pub returns : goal.returns
returns c = record_once
