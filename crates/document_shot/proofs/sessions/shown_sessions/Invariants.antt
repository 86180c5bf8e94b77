use Rattle.std.proofs.Common.{◌≡◌, map, take}
use Rattle.document_shot.specs.Shots.{shown_as}
use Rattle.document_shot.proofs.sessions.shown_sessions.Given as goal

abbrev pub invariant-loop-session : goal.invariant-loop-session
invariant-loop-session l = l.shown.items ≡ map shown_as (take l.session-index l.sessions)
