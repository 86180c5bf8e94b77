use Rattle.rename_texts.proofs.TextLemmas.{text_renamed}
use Rattle.rename_texts.proofs.laws.text_law.Goals as goal

pub returns : goal.returns
returns c = text_renamed
