use Rattle.std.proofs.Common.{◌≡◌, List, map, ap, subst, sym, ◌∙◌}
use Rattle.bundle_core.specs.Core.{document_of}
use Rattle.bundle_core.specs.KeptCore.{KeptCore, state_now}
use Rattle.bundle_core.specs.SessionState.{SessionState, open_of}
use Rattle.bundle_core.specs.State.{State}
use Rattle.bundle_core.proofs.history_core.Core.open_sessions.Goals as goal

pub returns : goal.returns
returns g c =
    let kept = c.self.inside in
    let P : KeptCore → Type 0 = λ k. (state_now k.state).open_sessions ≡ map (open_of (state_now k.state).document) c.as_slice.result.now in
    let S : State → Type 0 = λ st. st.open_sessions ≡ map (open_of st.document) c.as_slice.result.now in
    subst P c.self.view_is (subst S (sym c.self.invariant.0.state) (ap (map (open_of kept.doc)) (sym c.as_slice.ensures.value)))
