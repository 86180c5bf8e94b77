use Rattle.std.proofs.Common.{sym, ap, ◌∙◌}
use Rattle.bundle_core.specs.SessionState.{posted_state}
use Rattle.bundle_core.proofs.Prepared.{posts_one}
use Rattle.bundle_core.proofs.turns.post_all.Goals as goal

pub loop-session-preserved : goal.loop-session-preserved
loop-session-preserved c =
    posts_one posted_state c.args.sessions.now c.loop-session.sessions c.loop-session.session-index c.session-item.result c.post.new.self
    c.loop-session-test.true c.loop-session.invariant c.session-item.is (c.post.ensures ∙ ap posted_state (sym c.session-item.is))
