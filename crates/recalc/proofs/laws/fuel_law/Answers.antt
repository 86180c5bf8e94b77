use Rattle.recalc.proofs.Fuel.{fuel_law}
use Rattle.recalc.proofs.laws.fuel_law.Goals as goal

pub returns : goal.returns
returns c = fuel_law
