use Rattle.doc_model.specs.Changes.{changes}
use Rattle.doc_model.proofs.FitsLaws.{unfit_none, changes-fit}
use Rattle.doc_model.proofs.laws.changes_fit_law.Goals as goal

pub returns : goal.returns
returns c = λ v w iv iw. unfit_none (changes v w) v (changes-fit v w iv iw)
