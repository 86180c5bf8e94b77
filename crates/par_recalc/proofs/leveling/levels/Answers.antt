use Rattle.std.proofs.Common.{subst, map, ℕ, Vec}
use Rattle.std.specs.Global.{Global}
use Rattle.par_recalc.specs.Levels.{AreLevels}
use Rattle.par_recalc.proofs.leveling.levels.Goals as goal

pub returns-clause-levels : goal.returns-clause-levels
returns-clause-levels c =
    subst (λ fs. AreLevels fs (map (λ (l : Vec ℕ Global). l.items) c.in_ok-levels.levels.items)) c.as_slice-formulas.ensures c.in_ok-levels.ensures
