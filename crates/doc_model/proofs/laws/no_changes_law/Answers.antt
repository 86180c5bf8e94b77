use Rattle.std.proofs.Common.{ap, ◌∙◌, sym}
use Rattle.doc_model.specs.Changes.{changes}
use Rattle.doc_model.proofs.ChangesLaws.{changes_none, changes_empty}
use Rattle.doc_model.proofs.laws.no_changes_law.Goals as goal

pub returns : goal.returns
returns c = λ v w iv iw. (changes_empty v w iv iw, λ e. ap (changes v) (sym e) ∙ changes_none v iv)
