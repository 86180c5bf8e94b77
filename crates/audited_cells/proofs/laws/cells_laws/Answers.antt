use Rattle.audited_cells.proofs.AddedLemmas.{added_cells}
use Rattle.audited_cells.proofs.ChangedLemmas.{changed_cells}
use Rattle.audited_cells.proofs.ColumnLemmas.{safe_column}
use Rattle.audited_cells.proofs.laws.cells_laws.Goals as goal

pub returns : goal.returns
returns c = record { types = safe_column; changed = changed_cells; added = added_cells }
