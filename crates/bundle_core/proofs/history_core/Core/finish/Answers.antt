use Rattle.std.proofs.Common.{subst}
use Rattle.bundle_core.specs.Core.{document_of}
use Rattle.bundle_core.specs.KeptCore.{IsKeeping, KeptCore}
use Rattle.bundle_core.proofs.KeptLaws.{keeping_of}
use Rattle.bundle_core.proofs.history_core.Core.finish.Goals as goal

pub returns-clause-keeping : goal.returns-clause-keeping
returns-clause-keeping g c =
    let kept = c.self.inside in
    let P : KeptCore → Type 0 = λ k. IsKeeping k in
    subst P c.self.view_is
    (keeping_of kept.users (document_of kept.opening) kept.entries.items kept.opened kept.before kept.records kept.doc c.self.invariant.2 kept.tally kept.sessions.items kept.bytes_left c.self.invariant.0)
