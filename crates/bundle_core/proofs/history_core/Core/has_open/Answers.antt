use Rattle.std.proofs.Common.{◌≡◌, List, MatchResult, subst, ◌∙◌}
use Rattle.bundle_core.specs.Core.{document_of, is_open_in}
use Rattle.bundle_core.specs.Dispatch.{Finds, Misses}
use Rattle.bundle_core.specs.KeptCore.{KeptCore}
use Rattle.bundle_core.specs.SessionState.{SessionState}
use Rattle.bundle_core.proofs.GoneLaws.{open_told}
use Rattle.bundle_core.proofs.history_core.Core.has_open.Goals as goal

pub returns : goal.returns
returns g c =
    let kept = c.self.inside in
    let name = c.args.session.now in
    let M : List SessionState → Type 0 = λ xs. MatchResult c.index_of.result (λ p. Finds name xs p) (λ p. Misses name xs p) in
    let found : M kept.sessions.items = subst M c.deref.ensures.value c.index_of.ensures in
    let P : KeptCore → Type 0 = λ k. c.is_ok.result ≡ is_open_in k.state name in
    subst P c.self.view_is (c.is_ok.ensures.value
    ∙ open_told kept.users (document_of kept.opening) kept.entries.items kept.doc kept.tally kept.sessions.items kept.bytes_left name c.self.invariant.0 c.index_of.result found)
