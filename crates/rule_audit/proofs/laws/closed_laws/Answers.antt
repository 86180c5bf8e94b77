use Rattle.rule_audit.proofs.ClosedLemmas.{removal_same, writing_same}
use Rattle.rule_audit.proofs.SeenLemmas.{seen_cells, seen_rows}
use Rattle.rule_audit.proofs.laws.closed_laws.Goals as goal

pub returns : goal.returns
returns c = record { seen = seen_cells; rows = seen_rows; removal = removal_same; writing = writing_same }
