use Rattle.formula_eval.specs.Laws.{any_stop}
use Rattle.formula_eval.proofs.TextLaws.{text_covers, any_joined}
use Rattle.formula_eval.proofs.laws.reads_law.Goals as goal

pub returns : goal.returns
returns c x y at text = text_covers any_stop ⊥ x y at any_joined text
