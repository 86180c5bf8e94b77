use Rattle.std.proofs.Common.{◌≡◌, Option, ap, subst, sym}
use Rattle.std.specs.Option.{option_copied}
use Rattle.doc_model.specs.Document.{Document}
use Rattle.bundle_core.specs.Core.{document_of}
use Rattle.bundle_core.specs.KeptCore.{KeptCore, state_now}
use Rattle.bundle_core.specs.LastChange.{IsLast}
use Rattle.bundle_core.specs.State.{State}
use Rattle.bundle_core.specs.declared.last_change.LastChange.{LastChange}
use Rattle.bundle_core.proofs.history_core.Core.last_change.Goals as goal

pub returns : goal.returns
returns g c =
    let kept = c.self.inside in
    let P : KeptCore → Type 0 = λ k. IsLast k.state.users k.state.start k.state.history (state_now k.state).document (option_copied c.as_ref.result) in
    let D : Document → Type 0 = λ d. IsLast kept.users (document_of kept.opening) kept.entries.items d (option_copied c.as_ref.result) in
    let L : Option LastChange → Type 0 = λ o. IsLast kept.users (document_of kept.opening) kept.entries.items kept.doc o in
    subst P c.self.view_is (subst D (sym (ap (λ (st : State). st.document) c.self.invariant.0.state)) (subst L (sym c.as_ref.ensures.value) c.self.invariant.3))
