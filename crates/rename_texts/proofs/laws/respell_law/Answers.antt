use Rattle.rename_texts.proofs.RespellLemmas.{respelled_so}
use Rattle.rename_texts.proofs.laws.respell_law.Goals as goal

pub returns : goal.returns
returns c = respelled_so
