use Rattle.record_lines.proofs.PrintedLemmas.{record_is}
use Rattle.record_lines.proofs.laws.printed_record_law.Goals as goal

pub returns : goal.returns
returns c = record_is
