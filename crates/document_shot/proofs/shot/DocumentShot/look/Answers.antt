use Rattle.std.proofs.Common.{◌≡◌, List, map, Option, Some, None, find, ap, subst, sym, ◌∙◌}
use Rattle.std.proofs.lemmas.Result.{IfOk-weaker}
use Rattle.std.specs.Option.{option_copied, option_map}
use Rattle.std.specs.Str.{bytes_eq}
use Rattle.doc_model.specs.Document.{Document}
use Rattle.rule_contexts.specs.Context.{view}
use Rattle.shot_cells.specs.Places.{seen_at}
use Rattle.bundle_core.specs.KeptCore.{state_now}
use Rattle.bundle_core.specs.Mailbox.{asked_table}
use Rattle.bundle_core.specs.State.{State, session_of}
use Rattle.document_shot.specs.Looks.{looked}
use Rattle.document_shot.specs.declared.look.Look.{Look}
use Rattle.document_shot.specs.PeekAnswers.{peek_answer, table_answer}
use Rattle.document_shot.specs.Shots.{Shown, Shows, shown_after, shown_session}
use Rattle.document_shot.specs.declared.sessions.ShotSession.{ShotSession}
use Rattle.document_shot.specs.declared.trail.DocumentStep.{DocumentStep}
use Rattle.document_shot.proofs.AnswerLemmas.{answers_lagging, answers_none, answers_table, found_session}
use Rattle.document_shot.proofs.shot.DocumentShot.look.Goals as goal

pub returns-in_default : goal.returns-in_default
returns-in_default c =
    λ stands. let inner = c.self.inside in
    let name = c.args.session.now in
    let v : Shown = shown_after c.args.self.now in
    let st : State = state_now v.past in
    let S : List DocumentStep → Type 0 = λ ks. Shows inner.document.tables (seen_at inner.document.cells.tables) inner.sessions.items inner.entries (shown_after ks) in
    let shows : S c.args.self.now = subst S c.self.view_is c.self.invariant.1 in
    answers_none st name c.args.table.now
    (ap option_copied (sym c.in_default.is) ∙ found_session name st inner.sessions.items (option_copied c.session_named.result) (shows.open_sessions ∙ stands.sessions)
    (c.session_named.ensures ∙ ap (find (λ (x : ShotSession). bytes_eq x.name name)) c.as_slice.ensures.value))

pub returns-then-found : goal.returns-then-found
returns-then-found c =
    λ stands. let inner = c.self.inside in
    let name = c.args.session.now in
    let v : Shown = shown_after c.args.self.now in
    let st : State = state_now v.past in
    let S : List DocumentStep → Type 0 = λ ks. Shows inner.document.tables (seen_at inner.document.cells.tables) inner.sessions.items inner.entries (shown_after ks) in
    let shows : S c.args.self.now = subst S c.self.view_is c.self.invariant.1 in
    answers_lagging st name c.args.table.now c.in-Some.found.now
    (ap option_copied (sym c.in-Some.is) ∙ found_session name st inner.sessions.items (option_copied c.session_named.result) (shows.open_sessions ∙ stands.sessions)
    (c.session_named.ensures ∙ ap (find (λ (x : ShotSession). bytes_eq x.name name)) c.as_slice.ensures.value)) c.if-found.true

pub returns : goal.returns
returns c =
    λ stands. let inner = c.self.inside in
    let name = c.args.session.now in
    let table = c.args.table.now in
    let x : ShotSession = c.in-Some.found.now in
    let v : Shown = shown_after c.args.self.now in
    let st : State = state_now v.past in
    let S : List DocumentStep → Type 0 = λ ks. Shows inner.document.tables (seen_at inner.document.cells.tables) inner.sessions.items inner.entries (shown_after ks) in
    let shows : S c.args.self.now = subst S c.self.view_is c.self.invariant.1 in
    let found : Some x ≡ option_map shown_session (session_of name st) =
    ap option_copied (sym c.in-Some.is) ∙ found_session name st inner.sessions.items (option_copied c.session_named.result) (shows.open_sessions ∙ stands.sessions)
    (c.session_named.ensures ∙ ap (find (λ (y : ShotSession). bytes_eq y.name name)) c.as_slice.ensures.value) in
    IfOk-weaker c.look_at.result (λ (l : Look). looked table l ≡ table_answer (asked_table table (view x.user v.document))) (λ (l : Look). looked table l ≡ peek_answer st name table)
    (λ l h. h ∙ answers_table st name table x (asked_table table (view x.user v.document)) found c.if-found.false (ap (λ (d : Document). asked_table table (view x.user d)) stands.document)) (c.look_at.ensures stands)
