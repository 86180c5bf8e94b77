-- How entries of sessions that are not open are answered.
use Rattle.std.proofs.Common.{◌≡◌, ℕ, Bool, true, false, List, [], ◌∷◌, ◌++◌, take, drop, length, nat_le, Some, None, refl, sym, ap, subst, ◌∙◌, if◌then◌else◌}
use Rattle.std.proofs.lemmas.List.{take-append-drop}
use Rattle.doc_model.specs.declared.entry.Entry.{Entry}
use Rattle.doc_model.specs.declared.limit.LimitKind.TheVariants as limit
use Rattle.doc_model.specs.declared.refusal.Refusal.TheVariants.{UnknownToken}
use Rattle.doc_model.specs.declared.request.Request.{Request}
use Rattle.doc_model.specs.declared.request.Request.TheVariants as request
use Rattle.doc_model.specs.declared.user.User.{User}
use Rattle.doc_model.specs.declared.verdict.Verdict.TheVariants.{Changes}
use Rattle.doc_model.specs.Changes.{changes}
use Rattle.doc_model.specs.Document.{Document}
use Rattle.doc_model.proofs.Choices.{length_map}
use Rattle.grist_json.specs.Lines.{reply_text}
use Rattle.undo_bundles.specs.BundleLog.{empty_log}
use Rattle.bundle_core.specs.Replies.{reply_of}
use Rattle.bundle_judge.specs.declared.bare_verdict.BareVerdict.TheVariants as verdict
use Rattle.bundle_core.specs.Core.{is_gone}
use Rattle.bundle_core.specs.Dispatch.{state_of, Misses, Answers}
use Rattle.bundle_core.specs.Mailbox.{shows_view, replies}
use Rattle.bundle_core.specs.Requests.{refusal_closed}
use Rattle.bundle_core.specs.SessionState.{SessionState, open_of}
use Rattle.bundle_core.specs.State.{State, Verdicts, answered, refusal, from_closed, user_of, session_bound}
use Rattle.rule_contexts.specs.Context.{view}
use Rattle.bundle_core.proofs.Answering.{answers_closed, answers_gone, answers_opened, open_with}

code_closed : (users : List User) (st : State) (r : Request) → is_gone r ≡ false → ((token : List ℕ) → r ≡ request.Open token → ⊥) → from_closed users st r ≡ answered st.document None (refusal (refusal_closed r))
code_closed users st request.Gone stays other = absurd (cc)
code_closed users st (request.Open token) stays other = absurd (other token refl)
code_closed users st request.Bad stays other = refl
code_closed users st request.TooLong stays other = refl
code_closed users st (request.Apply actions) stays other = refl
code_closed users st (request.Undo bundle) stays other = refl
code_closed users st request.Sync stays other = refl
code_closed users st (request.Rename table column new) stays other = refl
code_closed users st (request.Fetch table) stays other = refl
code_closed users st request.Close stays other = refl

-- the same lines in other words
pub answers_by : (users : List User) (s s' : Document) (xs ys : List SessionState) (e : Entry) (ls ms : List (List ℕ)) → ms ≡ ls → Answers users s s' xs ys e ls → Answers users s s' xs ys e ms
answers_by users s s' xs ys e ls ms same h = let P : List (List ℕ) → Type 0 = λ l. Answers users s s' xs ys e l in subst P (sym same) h

module _ (users : List User) (s : Document) (xs : List SessionState) (index : ℕ) (e : Entry) (m : Misses e.session xs index) where
  abbrev split : State
  split = state_of s (take index xs ++ drop index xs)

  pub miss_refused : is_gone e.request ≡ false → ((token : List ℕ) → e.request ≡ request.Open token → ⊥) → Answers users s s xs xs e (reply_of (refusal (refusal_closed e.request)) ∷ [])
  miss_refused stays other =
      let n = refusal_closed e.request in
      let P : List SessionState → Type 0 = λ l. Answers users s s l l e (reply_of (refusal n) ∷ []) in
      subst P (take-append-drop index xs) (answers_closed users s (take index xs) (drop index xs) e m.spot (refusal n) (code_closed users split e.request stays other))

  pub miss_gone : e.request ≡ request.Gone → Answers users s s xs xs e []
  miss_gone is =
      let P : List SessionState → Type 0 = λ l. Answers users s s l l e [] in
      subst P (take-append-drop index xs) (answers_gone users s (take index xs) (drop index xs) e m.spot (ap (from_closed users split) is))

  pub miss_unknown : (token : List ℕ) → e.request ≡ request.Open token → user_of users token ≡ None → Answers users s s xs xs e (reply_of (refusal UnknownToken) ∷ [])
  miss_unknown token asks none =
      let P : List SessionState → Type 0 = λ l. Answers users s s l l e (reply_of (refusal UnknownToken) ∷ []) in
      subst P (take-append-drop index xs) (answers_closed users s (take index xs) (drop index xs) e m.spot (refusal UnknownToken)
      (ap (from_closed users split) asks
      ∙ ap (λ o. elim o as (λ _. Verdicts) [
        | None ↦ answered s None (refusal UnknownToken)
        | Some user ↦ if nat_le session_bound (length split.open_sessions)
            then answered s None (verdict.Limited limit.Sessions session_bound None)
            else record { outcome = shows_view; document = s; is_bundle = false; holder = Some (record { user = user; log = empty_log }) }
      ]) none))

  by_room : (token : List ℕ) (user : User) (full : Bool) → e.request ≡ request.Open token → user_of users token ≡ Some user → nat_le session_bound (length xs) ≡ full
      → from_closed users split e.request ≡ (if full
      then answered s None (verdict.Limited limit.Sessions session_bound None)
      else record { outcome = shows_view; document = s; is_bundle = false; holder = Some (record { user = user; log = empty_log }) })
  by_room token user full asks some count =
      ap (from_closed users split) asks
      ∙ ap (λ o. elim o as (λ _. Verdicts) [
        | None ↦ answered s None (refusal UnknownToken)
        | Some u ↦ if nat_le session_bound (length split.open_sessions)
            then answered s None (verdict.Limited limit.Sessions session_bound None)
            else record { outcome = shows_view; document = s; is_bundle = false; holder = Some (record { user = u; log = empty_log }) }
      ]) some
      ∙ ap (λ f. if f
      then answered s None (verdict.Limited limit.Sessions session_bound None)
      else record { outcome = shows_view; document = s; is_bundle = false; holder = Some (record { user = user; log = empty_log }) })
      (ap (nat_le session_bound) (length_map (open_of s) (take index xs ++ drop index xs) ∙ ap length (take-append-drop index xs)) ∙ count)

  pub miss_full : (token : List ℕ) (user : User) → e.request ≡ request.Open token → user_of users token ≡ Some user → nat_le session_bound (length xs) ≡ true
      → Answers users s s xs xs e (reply_of (verdict.Limited limit.Sessions session_bound None) ∷ [])
  miss_full token user asks some count =
      let P : List SessionState → Type 0 = λ l. Answers users s s l l e (reply_of (verdict.Limited limit.Sessions session_bound None) ∷ []) in
      subst P (take-append-drop index xs) (answers_closed users s (take index xs) (drop index xs) e m.spot (verdict.Limited limit.Sessions session_bound None) (by_room token user true asks some count))

  pub miss_opened : (token : List ℕ) (user : User) (x : SessionState) → e.request ≡ request.Open token → user_of users token ≡ Some user → nat_le session_bound (length xs) ≡ false
      → open_of s x ≡ open_with s e.session (record { user = user; log = empty_log }) 0 [] false
      → Answers users s s xs (take index xs ++ x ∷ drop index xs) e (reply_text (Changes (changes [] (view user s))) ∷ [])
  miss_opened token user x asks some count f =
      let P : List SessionState → Type 0 = λ l. Answers users s s l (take index xs ++ x ∷ drop index xs) e (reply_text (Changes (changes [] (view user s))) ∷ []) in
      let Q : List (List ℕ) → Type 0 = λ ls. Answers users s s (take index xs ++ drop index xs) (take index xs ++ x ∷ drop index xs) e ls in
      let line : replies e.request shows_view (view user s) ≡ reply_text (Changes (changes [] (view user s))) ∷ [] =
      ap (λ r. replies r shows_view (view user s)) asks in
      subst P (take-append-drop index xs) (subst Q line (answers_opened users s (take index xs) (drop index xs) e m.spot user x (by_room token user false asks some count) f))
