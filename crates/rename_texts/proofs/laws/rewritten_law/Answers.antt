use Rattle.rename_texts.proofs.RewrittenLemmas.{rewritten_formula, rewritten_spells}
use Rattle.rename_texts.proofs.laws.rewritten_law.Goals as goal

pub returns : goal.returns
returns c = record { spells = rewritten_spells; formula = rewritten_formula }
