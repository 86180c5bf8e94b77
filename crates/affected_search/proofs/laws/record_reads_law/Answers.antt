use Rattle.affected_search.proofs.RecordReads.{record_reads_law}
use Rattle.affected_search.proofs.laws.record_reads_law.Goals as goal

pub returns : goal.returns
returns c = record_reads_law
