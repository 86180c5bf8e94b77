use Rattle.cell_types.proofs.TwiceLemmas.{default_fits}
use Rattle.cell_types.proofs.laws.default_fits_law.Goals as goal

pub returns : goal.returns
returns c = default_fits
