use Rattle.rename_texts.proofs.StandLemmas.{stands_still, still_allowed}
use Rattle.rename_texts.proofs.TreeLemmas.{height_same, lexemes_renamed, written_so}
use Rattle.rename_texts.proofs.laws.rename_laws.Goals as goal

pub returns : goal.returns
returns c = record {
  written = written_so;
  lexemes = lexemes_renamed;
  height = height_same;
  stands = stands_still;
  allowed = still_allowed;
}
