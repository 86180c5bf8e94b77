use Rattle.std.proofs.Common.{◌≡◌, ◌++◌, map, take, drop}
use Rattle.bundle_core.specs.SessionState.{posted_state}
use Rattle.bundle_core.proofs.turns.post_all.Given as goal

-- those so far were posted their lines
abbrev pub invariant-loop-session : goal.invariant-loop-session
invariant-loop-session l = l.sessions ≡ map posted_state (take l.session-index l.initial.sessions) ++ drop l.session-index l.initial.sessions
