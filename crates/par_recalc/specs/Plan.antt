-- What is seen of a plan.
use Rattle.std.specs.Prelude.{ℕ, List}
use Rattle.par_recalc.specs.declared.plan.ColumnFormula.{ColumnFormula}

pub record Plan : Type 0 where
  pub formulas : List ColumnFormula
  pub levels : List (List ℕ)
