-- What a session is given is what its observation tells.
use Rattle.std.proofs.Common.{◌≡◌, ℕ, true, false, List, [], ◌∷◌, ◌++◌, Option, Some, None, refl, ap, sym, ◌∙◌, subst, option_map, if◌then◌else◌}
use Rattle.std.specs.Str.{bytes_eq}
use Rattle.std.proofs.lemmas.Slice.Eq.{bytes_eq-Decides}
use Rattle.doc_model.specs.declared.entry.Entry.{Entry}
use Rattle.doc_model.specs.declared.user.User.{User}
use Rattle.doc_model.specs.declared.view.ViewAction.{ViewAction}
use Rattle.doc_model.specs.declared.view.ViewTable.{ViewTable}
use Rattle.doc_model.specs.Changes.{changes}
use Rattle.bundle_core.specs.Mailbox.{Mailbox, posted_if_any}
use Rattle.bundle_core.specs.State.{State, Open, Holder, Verdicts, session_of, mailbox_of, posted_to, posted_all, verdicts, turn_of, step}
use Rattle.bundle_core.specs.Told.{Seen, mine, seen_if_any, seen_by, seen_elsewhere, observed, told, with_newlines, out}
use Rattle.rule_contexts.specs.Context.{view}
use Rattle.bundle_core.proofs.SessionLaws.{mailbox_in, posted_in, mailbox-own, find-with_session, find-posted_all}

-- a walk goes on from the mailbox that another's entry left
told_posted : (w : List ViewTable) (as' : List ViewAction) (m : Mailbox) (rest : List Seen) → changes m.view w ≡ as'
    → told (Some m) (seen_if_any w as' ++ rest) ≡ told (Some (posted_if_any w as' m)) rest
told_posted w [] m rest e = refl
told_posted w (a ∷ as') m rest e =
    ap (λ x. told (Some (posted_if_any w x m)) rest) e

told_elsewhere : (v : Verdicts) (o : Option Open) (rest : List Seen) → told (mailbox_in o) (seen_elsewhere v o ++ rest) ≡ told (mailbox_in (posted_in v o)) rest
told_elsewhere v None rest =
    elim v.is_bundle as (λ b. told None rest ≡ told (mailbox_in (if b then None else None)) rest) [ true ↦ refl | false ↦ refl ]
told_elsewhere v (Some o) rest =
    elim v.is_bundle as (λ b. told (Some o.mailbox) ((if b then seen_by v.document o else []) ++ rest) ≡ told (mailbox_in (if b then Some (posted_to v.document o) else Some o)) rest) [
      | true ↦ told_posted (view o.holder.user v.document) (changes o.mailbox.view (view o.holder.user v.document)) o.mailbox rest refl
      | false ↦ refl
    ]

own_entry : (users : List User) (st : State) (e : Entry) (es : List Entry)
    → out users (step users st e) e.session es ≡ told (mailbox_of e.session (step users st e)) (observed users (step users st e) e.session es)
    → with_newlines (turn_of st e (verdicts users st e)).lines ++ out users (step users st e) e.session es
    ≡ with_newlines (turn_of st e (verdicts users st e)).lines ++ told (turn_of st e (verdicts users st e)).mailbox (observed users (step users st e) e.session es)
own_entry users st e es ih =
    let v = verdicts users st e in
    let found : mailbox_of e.session (step users st e) ≡ (turn_of st e v).mailbox =
    mailbox-own e.session v.holder (λ h. view h.user v.document) (mailbox_of e.session st) e.request v.outcome (posted_all v st.open_sessions) in
    ap (λ bytes. with_newlines (turn_of st e v).lines ++ bytes) (ih ∙ ap (λ m. told m (observed users (step users st e) e.session es)) found)

other_entry : (users : List User) (st : State) (e : Entry) (es : List Entry) (name : List ℕ) → bytes_eq e.session name ≡ false
    → out users (step users st e) name es ≡ told (mailbox_of name (step users st e)) (observed users (step users st e) name es)
    → out users (step users st e) name es ≡ told (mailbox_of name st) (seen_elsewhere (verdicts users st e) (session_of name st) ++ observed users (step users st e) name es)
other_entry users st e es name apart ih =
    let v = verdicts users st e in
    let found : session_of name (step users st e) ≡ posted_in v (session_of name st) =
    find-with_session name e.session v.holder (turn_of st e v).mailbox (posted_all v st.open_sessions) apart ∙ find-posted_all v name st.open_sessions in
    ih ∙ ap (λ o. told (mailbox_in o) (observed users (step users st e) name es)) found
    ∙ sym (told_elsewhere v (session_of name st) (observed users (step users st e) name es))

pub out-told : (users : List User) (st : State) (history : List Entry) (name : List ℕ) → out users st name history ≡ told (mailbox_of name st) (observed users st name history)
out-told users st [] name = refl
out-told users st (e ∷ es) name =
    let v = verdicts users st e in
    let next = step users st e in
    elim (bytes_eq e.session name) as (λ b. bytes_eq e.session name ≡ b → (if b then with_newlines (turn_of st e v).lines else []) ++ out users next name es
    ≡ told (mailbox_of name st) ((if b then mine e.request v.outcome (option_map (λ (h : Holder). view h.user v.document) v.holder) ∷ [] else seen_elsewhere v (session_of name st)) ++ observed users next name es)) [
      | true ↦ λ same.
          let P : List ℕ → Type 0 = λ n. with_newlines (turn_of st e v).lines ++ out users next n es
          ≡ told (mailbox_of n st) (mine e.request v.outcome (option_map (λ (h : Holder). view h.user v.document) v.holder) ∷ observed users next n es) in
          subst P ((bytes_eq-Decides e.session name).0 same) (own_entry users st e es (out-told users next es e.session))
      | false ↦ λ apart. other_entry users st e es name apart (out-told users next es name)
    ] refl
