use Rattle.std.proofs.Common.{◌≡◌, List, map}
use Rattle.std.proofs.lemmas.Result.{IfOk-weaker}
use Rattle.std.specs.Global.{Vec}
use Rattle.bundle_core.specs.KeptCore.{state_now}
use Rattle.bundle_core.specs.SessionState.{SessionState}
use Rattle.bundle_core.specs.State.{State}
use Rattle.document_shot.specs.Shots.{shown_as, shown_session}
use Rattle.document_shot.specs.declared.sessions.ShotSession.{ShotSession}
use Rattle.document_shot.proofs.AnswerLemmas.{shown_all}
use Rattle.document_shot.proofs.sessions.open_sessions.Goals as goal

pub returns : goal.returns
returns g c =
    let st : State = state_now c.args.core.now.state in
    let xs : List SessionState = c.open_sessions.result.now in
    IfOk-weaker c.shown_sessions.result (λ (l : Vec ShotSession). l.items ≡ map shown_as xs) (λ (l : Vec ShotSession). l.items ≡ map shown_session st.open_sessions)
    (λ l h. shown_all st xs l.items c.open_sessions.ensures h) c.shown_sessions.ensures
