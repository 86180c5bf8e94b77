use Rattle.renaming_bundles.proofs.BundleTables.{expanded_texts}
use Rattle.renaming_bundles.proofs.laws.expanded_texts_law.Goals as goal

pub returns : goal.returns
returns c = expanded_texts
