use Rattle.std.proofs.Common.{◌≡◌, List, Some, None, subst, sym}
use Rattle.bundle_core.specs.Core.{document_of}
use Rattle.bundle_core.specs.Dispatch.{Finds, Misses}
use Rattle.bundle_core.specs.KeptCore.{KeptCore, state_now}
use Rattle.bundle_core.specs.SessionState.{SessionState, open_of}
use Rattle.bundle_core.specs.State.{session_of}
use Rattle.bundle_core.proofs.CoreLaws.{session_found, session_missed}
use Rattle.bundle_core.proofs.history_core.Core.session_named.Goals as goal

pub returns-in-Ok : goal.returns-in-Ok
returns-in-Ok g c =
    let kept = c.self.inside in
    let name = c.args.session.now in
    let it = c.index.result.now in
    let F : List SessionState → Type 0 = λ xs. Finds name xs c.in-Ok.index in
    let P : KeptCore → Type 0 = λ k. Some (open_of (state_now k.state).document it) ≡ session_of name (state_now k.state) in
    subst P c.self.view_is (sym (session_found kept.users (document_of kept.opening) kept.entries.items kept.doc kept.tally kept.sessions.items kept.bytes_left name c.self.invariant.0
    c.in-Ok.index it (subst F c.deref.ensures.value c.in-Ok.ensures) c.index.ensures))

pub returns-in-Err : goal.returns-in-Err
returns-in-Err g c =
    let kept = c.self.inside in
    let name = c.args.session.now in
    let M : List SessionState → Type 0 = λ xs. Misses name xs c.in-Err.field-0 in
    let P : KeptCore → Type 0 = λ k. None ≡ session_of name (state_now k.state) in
    subst P c.self.view_is (sym (session_missed kept.users (document_of kept.opening) kept.entries.items kept.doc kept.tally kept.sessions.items kept.bytes_left name c.self.invariant.0
    c.in-Err.field-0 (subst M c.deref.ensures.value c.in-Err.ensures)))
