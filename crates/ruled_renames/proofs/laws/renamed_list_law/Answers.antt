use Rattle.ruled_renames.proofs.ListTexts.{renamed_list}
use Rattle.ruled_renames.proofs.laws.renamed_list_law.Goals as goal

pub returns : goal.returns
returns c = renamed_list c.length_law.ensures
