use Rattle.formula_parse.proofs.FormulaOfLemmas.{formula_spelled, spelled_formula}
use Rattle.formula_parse.proofs.laws.formula_law.Goals as goal

pub returns : goal.returns
returns c text t = (formula_spelled text t, spelled_formula text t)
