use Rattle.plain_view.proofs.PartLemmasChanges.{changes_same}
use Rattle.plain_view.proofs.laws.changes_same_law.Goals as goal

pub returns : goal.returns
returns c = λ affected test v w iv iw agree. changes_same affected test v w iv iw agree
