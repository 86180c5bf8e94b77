use Rattle.cell_types.proofs.ColumnRangeLemmas.{fit_in_range}
use Rattle.cell_types.proofs.laws.range_law.Goals as goal

pub returns : goal.returns
returns c = fit_in_range
