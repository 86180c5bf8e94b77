use Rattle.std.proofs.Common.{◌≡◌, subst, sym}
use Rattle.doc_model.specs.Document.{Document}
use Rattle.doc_model.specs.DocumentLaws.{IsWhole}
use Rattle.bundle_core.proofs.history_core.Core.document.Goals as goal

pub returns-clause-whole : goal.returns-clause-whole
returns-clause-whole g c = let P : Document → Type 0 = λ d. IsWhole d in subst P (sym c.evaluated.ensures) c.self.invariant.0.whole
