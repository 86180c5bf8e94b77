use Rattle.formula_eval.proofs.TextLaws.{of_text}
use Rattle.formula_eval.proofs.laws.text_law.Goals as goal

pub returns : goal.returns
returns c x at text = of_text x at text
