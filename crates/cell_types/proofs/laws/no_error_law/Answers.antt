use Rattle.cell_types.proofs.NoErrorLemmas.{fit_no_error}
use Rattle.cell_types.proofs.laws.no_error_law.Goals as goal

pub returns : goal.returns
returns c = fit_no_error
