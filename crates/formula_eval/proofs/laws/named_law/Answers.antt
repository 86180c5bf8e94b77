use Rattle.formula_eval.proofs.TextLaws.{text_named}
use Rattle.formula_eval.proofs.laws.named_law.Goals as goal

pub returns : goal.returns
returns c x at text = text_named x at text
