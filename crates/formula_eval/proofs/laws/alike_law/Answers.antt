use Rattle.formula_eval.specs.Laws.{any_stop}
use Rattle.formula_eval.proofs.TextLaws.{text_alike}
use Rattle.formula_eval.proofs.laws.alike_law.Goals as goal

pub returns : goal.returns
returns c x y at text = text_alike any_stop ⊥ x y at text
