use Rattle.formula_eval.proofs.TextLaws.{text_obeys}
use Rattle.formula_eval.proofs.laws.obeys_law.Goals as goal

pub returns : goal.returns
returns c x at text = text_obeys x at text
