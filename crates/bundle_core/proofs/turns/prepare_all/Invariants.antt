use Rattle.context_changes.specs.Known.{told_by}
use Rattle.bundle_core.proofs.Prepared.{Preparing}
use Rattle.bundle_core.proofs.turns.prepare_all.Given as goal

abbrev pub invariant-loop-session : goal.invariant-loop-session
invariant-loop-session l = Preparing (told_by l.contexts l.told) l.session-index l.initial.sessions l.sessions
