use Rattle.ruled_renames.proofs.AttributeReadLemmas.{attribute_read}
use Rattle.ruled_renames.proofs.laws.attribute_read_law.Goals as goal

pub returns : goal.returns
returns c = attribute_read
