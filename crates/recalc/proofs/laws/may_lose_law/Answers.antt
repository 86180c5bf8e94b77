use Rattle.recalc.proofs.MayLoseCells.{among_these}
use Rattle.recalc.proofs.laws.may_lose_law.Goals as goal

pub returns : goal.returns
returns c = among_these
