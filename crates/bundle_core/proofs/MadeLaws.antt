-- The line that an entry makes for a session is posted to its mailbox, and counted there.
use Rattle.std.proofs.Common.{◌≡◌, ℕ, ◌+◌, ◌<◌, ◌≤◌, ◌⊎◌, inl, inr, ◌&&◌, ◌||◌, not, Bool, true, false, List, [], ◌∷◌, ◌++◌, append_assoc, append-nil, length, option_to_list, slice_get, Option, Some, None, refl, ap, sym, ◌∙◌, subst, option_map, arith, if◌then◌else◌}
use Rattle.std.specs.Str.{bytes_eq}
use Rattle.std.proofs.lemmas.Bool.{false≢true, ltb-false, ltb-true}
use Rattle.std.proofs.lemmas.List.{length-append}
use Rattle.std.proofs.lemmas.Slice.Eq.{bytes_eq-Decides}
use Rattle.doc_model.specs.declared.entry.Entry.{Entry}
use Rattle.doc_model.specs.declared.refusal.Refusal.TheVariants.{AlreadyOpen, BadLine, Lagged, LineTooLong, StoreFault}
use Rattle.doc_model.specs.declared.request.Request.{Request}
use Rattle.doc_model.specs.declared.request.Request.TheVariants as request
use Rattle.doc_model.specs.declared.user.User.{User}
use Rattle.doc_model.specs.declared.verdict.Verdict.TheVariants.{Changes}
use Rattle.doc_model.specs.declared.view.ViewAction.{ViewAction}
use Rattle.doc_model.specs.declared.view.ViewTable.{ViewTable}
use Rattle.doc_model.specs.Changes.{changes}
use Rattle.doc_model.specs.Document.{Document}
use Rattle.undo_bundles.specs.BundleLog.{undo_of}
use Rattle.bundle_judge.specs.declared.bare_verdict.BareVerdict.{BareVerdict}
use Rattle.bundle_judge.specs.declared.bare_verdict.BareVerdict.TheVariants as verdict
use Rattle.bundle_judge.specs.Judgement.{Judgement, accepted, judge, refused}
use Rattle.bundle_judge.specs.Undo.{judge_own_undo}
use Rattle.grist_json.specs.Lines.{reply_text, stream_text}
use Rattle.rule_contexts.specs.Context.{view}
use Rattle.bundle_core.specs.Core.{CoreState, IsStep, has_no_effect, is_gone, is_open_in}
use Rattle.bundle_core.specs.KeptCore.{state_now}
use Rattle.bundle_core.specs.MadeLines.{CountsOn, is_more, last_line, last_of, line_due, line_posted, lines_in, lines_made, made_elsewhere, made_line, made_own}
use Rattle.bundle_core.specs.Mailbox.{Mailbox, Outcome, asked_table, due, emptied, is_full, own, posted_if_any, quiet, says, shown_part, shows_view}
use Rattle.bundle_core.specs.Renaming.{judge_renaming}
use Rattle.bundle_core.specs.Replies.{reply_of}
use Rattle.bundle_core.specs.State.{Holder, Open, State, Verdicts, answered, bundle_of, from_closed, from_lagging, from_open, mailbox_of, opening, posted_all, posted_to, refusal, session_of, shown_if_any, step, turn_of, verdicts}
use Rattle.bundle_core.proofs.CoreLaws.{gone_verdicts, run_append, verdicts_gone}
use Rattle.bundle_core.proofs.GoneLaws.{gone_only}
use Rattle.bundle_core.proofs.SessionLaws.{mailbox_in, posted_in, mailbox-own, find-with_session, find-posted_all}

-- ---- a mailbox that is posted a line

pub posted_made : (new : List ViewTable) (as' : List ViewAction) (m : Mailbox) → (posted_if_any new as' m).made ≡ m.made + length (option_to_list (line_posted as' m))
posted_made new [] m = omega arith
posted_made new (a ∷ as') m =
    elim (m.lagging || is_full m.waiting) as (λ b. (let n : Mailbox = if b
    then record { view = new; made = m.made; waiting = m.waiting; lagging = true }
    else record { view = new; made = m.made + 1; waiting = m.waiting ++ stream_text (m.made + 1) (a ∷ as') ∷ []; lagging = false } in n.made)
    ≡ m.made + length (option_to_list (if b then None else Some (stream_text (m.made + 1) (a ∷ as'))))) [
      | true ↦ omega arith
      | false ↦ refl
    ]

pub posted_waiting : (new : List ViewTable) (as' : List ViewAction) (m : Mailbox) → (posted_if_any new as' m).waiting ≡ m.waiting ++ option_to_list (line_posted as' m)
posted_waiting new [] m = sym (append-nil m.waiting)
posted_waiting new (a ∷ as') m =
    elim (m.lagging || is_full m.waiting) as (λ b. (let n : Mailbox = if b
    then record { view = new; made = m.made; waiting = m.waiting; lagging = true }
    else record { view = new; made = m.made + 1; waiting = m.waiting ++ stream_text (m.made + 1) (a ∷ as') ∷ []; lagging = false } in n.waiting)
    ≡ m.waiting ++ option_to_list (if b then None else Some (stream_text (m.made + 1) (a ∷ as')))) [
      | true ↦ sym (append-nil m.waiting)
      | false ↦ refl
    ]

abbrev count_in : Option Mailbox → Option ℕ
count_in m = option_map (λ (x : Mailbox). x.made) m

-- ---- in its own turn

own_counts : (m : Option Mailbox) (r : Request) (o : Outcome) (v : Option (List ViewTable)) → CountsOn (count_in m) (count_in (own m r o v).mailbox) (made_own m v)
own_counts None r o v = refl
own_counts (Some m) r quiet None = refl
own_counts (Some m) r shows_view None = refl
own_counts (Some m) r (says said) None = refl
own_counts (Some m) r o (Some v) = posted_made v (changes m.view v) (emptied m)

-- ---- at another's entry

elsewhere_counts : (v : Verdicts) (o : Option Open) → CountsOn (count_in (mailbox_in o)) (count_in (mailbox_in (posted_in v o))) (made_elsewhere v o)
elsewhere_counts v None = refl
elsewhere_counts v (Some o) =
    elim v.is_bundle as (λ b. CountsOn (Some o.mailbox.made) (count_in (mailbox_in (if b then option_map (posted_to v.document) (Some o) else Some o))) (if b then line_due (view o.holder.user v.document) o.mailbox else None)) [
      | true ↦ posted_made (view o.holder.user v.document) (changes o.mailbox.view (view o.holder.user v.document)) o.mailbox
      | false ↦ omega arith
    ]

-- ---- at an entry

module _ (users : List User) (st : State) (e : Entry) where
  abbrev came_to : Verdicts
  came_to = verdicts users st e

  abbrev holder_view : Option (List ViewTable)
  holder_view = option_map (λ (h : Holder). view h.user came_to.document) came_to.holder

  own_found : mailbox_of e.session (step users st e) ≡ (turn_of st e came_to).mailbox
  own_found = mailbox-own e.session came_to.holder (λ h. view h.user came_to.document) (mailbox_of e.session st) e.request came_to.outcome (posted_all came_to st.open_sessions)

  module _ (name : List ℕ) where
    other_found : bytes_eq e.session name ≡ false → session_of name (step users st e) ≡ posted_in came_to (session_of name st)
    other_found apart = find-with_session name e.session came_to.holder (turn_of st e came_to).mailbox (posted_all came_to st.open_sessions) apart ∙ find-posted_all came_to name st.open_sessions

    abbrev Counts : Bool → Type 0
    Counts b = CountsOn (lines_in name st) (lines_in name (step users st e)) (if b then made_own (mailbox_of name st) holder_view else made_elsewhere came_to (session_of name st))

    pub made_counts : CountsOn (lines_in name st) (lines_in name (step users st e)) (made_line users st e name)
    made_counts = elim (bytes_eq e.session name) as (λ b. bytes_eq e.session name ≡ b → Counts b) [
      | true ↦ λ same.
          let P : List ℕ → Type 0 = λ n. CountsOn (lines_in n st) (lines_in n (step users st e)) (made_own (mailbox_of n st) holder_view) in
          let Q : Option Mailbox → Type 0 = λ m. CountsOn (lines_in e.session st) (count_in m) (made_own (mailbox_of e.session st) holder_view) in
          subst P ((bytes_eq-Decides e.session name).0 same) (subst Q (sym own_found) (own_counts (mailbox_of e.session st) e.request came_to.outcome holder_view))
      | false ↦ λ apart.
          let Q : Option Open → Type 0 = λ o. CountsOn (lines_in name st) (count_in (mailbox_in o)) (made_elsewhere came_to (session_of name st)) in
          subst Q (sym (other_found apart)) (elsewhere_counts came_to (session_of name st))
    ] refl

-- ---- the end of a connection makes no line

none_left : (m : Option Mailbox) → made_own m None ≡ None
none_left None = refl
none_left (Some m) = refl

none_elsewhere : (st : State) (o : Option Open) → made_elsewhere (gone_verdicts st) o ≡ None
none_elsewhere st None = refl
none_elsewhere st (Some o) = refl

pub made-gone : (users : List User) (st : State) (e : Entry) (name : List ℕ) → e.request ≡ request.Gone → made_line users st e name ≡ None
made-gone users st e name is =
    let P : Verdicts → Type 0 = λ v. (if bytes_eq e.session name
    then made_own (mailbox_of name st) (option_map (λ (h : Holder). view h.user v.document) v.holder)
    else made_elsewhere v (session_of name st)) ≡ None in
    subst P (sym (verdicts_gone users st e is)) (elim (bytes_eq e.session name) as (λ b. (if b then made_own (mailbox_of name st) None else made_elsewhere (gone_verdicts st) (session_of name st)) ≡ None) [
      | true ↦ none_left (mailbox_of name st)
      | false ↦ none_elsewhere st (session_of name st)
    ])

-- ---- a session that stays open is answered

abbrev Speaks : Verdicts → Type 0
Speaks v = v.outcome ≡ quiet → v.holder ≡ None

speaks : (s : Document) (h : Option Holder) (v : BareVerdict) → Speaks (answered s h v)
speaks s h v = λ is. absurd (cc)

speaks_bundle : (h : Holder) (target : Option ℕ) (s : Document) (kept : Bool) (j : Judgement) → Speaks (bundle_of h target s kept j)
speaks_bundle h target s kept (refused v) = speaks s (Some h) v
speaks_bundle h target s false (accepted t steps ms) = speaks s (Some h) (refusal StoreFault)
speaks_bundle h target s true (accepted t steps ms) = λ is. absurd (cc)

speaks_shown : (s : Document) (h : Holder) (ts : List ViewTable) → Speaks (record { outcome = shown_if_any ts; document = s; is_bundle = false; holder = Some h })
speaks_shown s h [] = λ is. absurd (cc)
speaks_shown s h (t ∷ ts) = λ is. absurd (cc)

speaks_open : (st : State) (h : Holder) (kept : Bool) (r : Request) → Speaks (from_open st h kept r)
speaks_open st h kept (request.Apply actions) = speaks_bundle h None st.document kept (judge h.user st.document actions)
speaks_open st h kept (request.Undo n) = speaks_bundle h (Some n) st.document kept (judge_own_undo h.user (undo_of h.log n) st.document)
speaks_open st h kept request.Bad = speaks st.document (Some h) (refusal BadLine)
speaks_open st h kept request.TooLong = speaks st.document (Some h) (refusal LineTooLong)
speaks_open st h kept (request.Open token) = speaks st.document (Some h) (refusal AlreadyOpen)
speaks_open st h kept request.Sync = speaks st.document (Some h) verdict.Done
speaks_open st h kept (request.Rename table column new) = speaks_bundle h None st.document kept (judge_renaming h.user st.document table column new)
speaks_open st h kept (request.Fetch table) = speaks_shown st.document h (asked_table table (view h.user st.document))
speaks_open st h kept request.Close = speaks st.document None verdict.Done
speaks_open st h kept request.Gone = λ _. refl

speaks_lagging : (st : State) (r : Request) → Speaks (from_lagging st r)
speaks_lagging st request.Gone = λ _. refl
speaks_lagging st request.Bad = speaks st.document None (refusal Lagged)
speaks_lagging st request.TooLong = speaks st.document None (refusal Lagged)
speaks_lagging st (request.Open token) = speaks st.document None (refusal Lagged)
speaks_lagging st (request.Apply actions) = speaks st.document None (refusal Lagged)
speaks_lagging st (request.Undo n) = speaks st.document None (refusal Lagged)
speaks_lagging st request.Sync = speaks st.document None (refusal Lagged)
speaks_lagging st (request.Rename table column new) = speaks st.document None (refusal Lagged)
speaks_lagging st (request.Fetch table) = speaks st.document None (refusal Lagged)
speaks_lagging st request.Close = speaks st.document None (refusal Lagged)

-- a session that is open, and stays so, is given a reply
replied : (users : List User) (st : State) (e : Entry) (m : Mailbox) → mailbox_of e.session st ≡ Some m → Speaks (verdicts users st e)
replied users st e m =
    elim (session_of e.session st) as (λ o. mailbox_in o ≡ Some m → Speaks (elim o as (λ _. Verdicts) [
      | None ↦ from_closed users st e.request
      | Some x ↦ if x.mailbox.lagging then from_lagging st e.request else from_open st x.holder e.kept e.request
    ])) [
      | None ↦ λ none. absurd (cc)
      | Some x ↦ λ _. elim x.mailbox.lagging as (λ l. Speaks (if l then from_lagging st e.request else from_open st x.holder e.kept e.request)) [
        | true ↦ speaks_lagging st e.request
        | false ↦ speaks_open st x.holder e.kept e.request
      ]
    ]

-- a line made in its own turn is followed by a reply
reply_in : (users : List User) (st : State) (e : Entry) (line : List ℕ) → made_own (mailbox_of e.session st) (option_map (λ (h : Holder). view h.user (verdicts users st e).document) (verdicts users st e).holder) ≡ Some line
    → Speaks (verdicts users st e)
reply_in users st e line is =
    let v = verdicts users st e in
    let shown = option_map (λ (h : Holder). view h.user v.document) v.holder in
    elim (mailbox_of e.session st) as (λ m. mailbox_of e.session st ≡ m → made_own m shown ≡ Some line → Speaks v) [
      | None ↦ λ _ none. absurd (cc)
      | Some m ↦ λ found _. replied users st e m found
    ] refl is

unheld : (v : Verdicts) → v.holder ≡ None → option_map (λ (h : Holder). view h.user v.document) v.holder ≡ None
unheld v none = ap (option_map (λ (h : Holder). view h.user v.document)) none

-- ---- where the line stands

slice_get-seam : (xs ys : List (List ℕ)) (y : List ℕ) → slice_get (xs ++ y ∷ ys) (length xs) ≡ Some y
slice_get-seam [] ys y = refl
slice_get-seam (x ∷ xs) ys y = slice_get-seam xs ys y

last-append : (ls : List (List ℕ)) (line : List ℕ) → last_line (ls ++ line ∷ []) ≡ Some line
last-append ls line =
    ap (λ n. slice_get (ls ++ line ∷ []) n) (let n = length-append ls (line ∷ []) in omega arith) ∙ slice_get-seam ls [] line

own_waits : (m : Mailbox) (v : List ViewTable) (line : List ℕ) → line_due v (emptied m) ≡ Some line → (due v (emptied m)).waiting ≡ line ∷ []
own_waits m v line is = posted_waiting v (changes m.view v) (emptied m) ∙ ap option_to_list is

-- in its own turn it stands before the reply
own_given : (m : Option Mailbox) (r : Request) (o : Outcome) (v : Option (List ViewTable)) (line : List ℕ) → (o ≡ quiet → v ≡ None) → made_own m v ≡ Some line
    → (front : List (List ℕ)) × (reply : List ℕ) × ((own m r o v).lines ≡ front ++ line ∷ reply ∷ [])
own_given None r o v line s is = absurd (cc)
own_given (Some m) r o None line s is = absurd (cc)
own_given (Some m) r quiet (Some v) line s is = absurd (let e : Some v ≡ None = s refl in cc)
own_given (Some m) r shows_view (Some v) line s is =
    let reply = reply_text (Changes (shown_part r v)) in
    (m.waiting, reply, ap (λ ls. (m.waiting ++ ls) ++ reply ∷ []) (own_waits m v line is) ∙ append_assoc m.waiting (line ∷ []) (reply ∷ []))
own_given (Some m) r (says said) (Some v) line s is =
    let reply = reply_of said in
    (m.waiting, reply, ap (λ ls. (m.waiting ++ ls) ++ reply ∷ []) (own_waits m v line is) ∙ append_assoc m.waiting (line ∷ []) (reply ∷ []))

-- else it is the last that waits
elsewhere_last : (v : Verdicts) (o : Option Open) (line : List ℕ) → made_elsewhere v o ≡ Some line → last_of (mailbox_in (posted_in v o)) ≡ Some line
elsewhere_last v None line = λ is. absurd (cc)
elsewhere_last v (Some o) line =
    elim v.is_bundle as (λ b. (if b then line_due (view o.holder.user v.document) o.mailbox else None) ≡ Some line → last_of (mailbox_in (if b then option_map (posted_to v.document) (Some o) else Some o)) ≡ Some line) [
      | true ↦ λ is.
          let new = view o.holder.user v.document in
          ap last_line (posted_waiting new (changes o.mailbox.view new) o.mailbox ∙ ap (λ l. o.mailbox.waiting ++ option_to_list l) is) ∙ last-append o.mailbox.waiting line
      | false ↦ λ is. absurd (cc)
    ]

-- ---- a step of a core

not_more : (before after : Option ℕ) (line : Option (List ℕ)) → CountsOn before after line → is_more before after ≡ false → line ≡ None
not_more None after line c is = c
not_more (Some before) None line c is = c
not_more (Some before) (Some after) None c is = refl
not_more (Some before) (Some after) (Some line) c is =
    let few : after ≤ before = ltb-false before after is in absurd (omega (arith, few, c))

more : (before after : Option ℕ) (line : Option (List ℕ)) → CountsOn before after line → is_more before after ≡ true → (l : List ℕ) × (line ≡ Some l)
more None after line c is = absurd (false≢true is)
more (Some before) None line c is = absurd (false≢true is)
more (Some before) (Some after) None c is =
    let many : before < after = ltb-true before after is in absurd (omega (arith, many, c))
more (Some before) (Some after) (Some line) c is = (line, refl)

same_counts : (n : Option ℕ) → CountsOn n n None
same_counts None = refl
same_counts (Some n) = omega arith

and_left : (a b : Bool) → (a && b) ≡ true → a ≡ true
and_left true b is = refl
and_left false b is = is

module _ (old new : CoreState) (e : Entry) (lines : List (List ℕ)) (s : IsStep old new e lines) (name : List ℕ) where
  abbrev line : Option (List ℕ)
  line = made_line old.users (state_now old) e name

  abbrev longer : CoreState
  longer = record { users = old.users; start = old.start; history = old.history ++ e ∷ [] }

  leads : state_now longer ≡ step old.users (state_now old) e
  leads = run_append old.users (opening old.start) old.history e

  -- the entry was added, or it is the end of a session that was not open
  added : ((has_no_effect old e ≡ true) × (new ≡ old)) ⊎ (new ≡ longer)
  added = elim (has_no_effect old e) as (λ b. has_no_effect old e ≡ b → ((has_no_effect old e ≡ true) × (new ≡ old)) ⊎ (new ≡ longer)) [
    | true ↦ λ is. inl (is, s.added ∙ ap (λ b. if b then old else longer) is)
    | false ↦ λ is. inr (s.added ∙ ap (λ b. if b then old else longer) is)
  ] refl

  pub step_counts : CountsOn (lines_made old name) (lines_made new name) line
  step_counts = elim added [
    | inl (no_effect, same) ↦
        let none : line ≡ None = made-gone old.users (state_now old) e name (gone_only e.request (and_left (is_gone e.request) (not (is_open_in old e.session)) no_effect)) in
        let P : CoreState → Type 0 = λ c. CountsOn (lines_made old name) (lines_made c name) line in
        let Q : Option (List ℕ) → Type 0 = λ l. CountsOn (lines_made old name) (lines_made old name) l in
        subst P (sym same) (subst Q (sym none) (same_counts (lines_made old name)))
    | inr is ↦
        let P : State → Type 0 = λ t. CountsOn (lines_made old name) (lines_in name t) line in
        subst P (sym (ap state_now is ∙ leads)) (made_counts old.users (state_now old) e name)
  ]

  pub not_made : is_more (lines_made old name) (lines_made new name) ≡ false → line ≡ None
  not_made is = not_more (lines_made old name) (lines_made new name) line step_counts is

  module _ (is : is_more (lines_made old name) (lines_made new name) ≡ true) where
    made : (l : List ℕ) × (line ≡ Some l)
    made = more (lines_made old name) (lines_made new name) line step_counts is

    pub made_added : new ≡ longer
    made_added = elim added [
      | inl (no_effect, same) ↦
          let none : line ≡ None = made-gone old.users (state_now old) e name (gone_only e.request (and_left (is_gone e.request) (not (is_open_in old e.session)) no_effect)) in
          absurd (let e : Some made.0 ≡ None = sym made.1 ∙ none in cc)
      | inr is ↦ is
    ]

    pub made_before_reply : bytes_eq e.session name ≡ true → (front : List (List ℕ)) × (l : List ℕ) × (reply : List ℕ) × (line ≡ Some l) × (lines ≡ front ++ l ∷ reply ∷ [])
    made_before_reply own =
        let users = old.users in
        let st = state_now old in
        let v = verdicts users st e in
        let shown = option_map (λ (h : Holder). view h.user v.document) v.holder in
        let here : e.session ≡ name = (bytes_eq-Decides e.session name).0 own in
        let mine : made_own (mailbox_of e.session st) shown ≡ Some made.0 =
        ap (λ n. made_own (mailbox_of n st) shown) here
        ∙ sym (ap (λ b. if b then made_own (mailbox_of name st) shown else made_elsewhere v (session_of name st)) own) ∙ made.1 in
        let g = own_given (mailbox_of e.session st) e.request v.outcome shown made.0 (λ q. unheld v (reply_in users st e made.0 mine q)) mine in
        (g.0, made.0, g.1, made.1, s.lines_given ∙ g.2)

    pub made_last : bytes_eq e.session name ≡ false → last_of (mailbox_of name (state_now new)) ≡ line
    made_last apart =
        let users = old.users in
        let st = state_now old in
        let v = verdicts users st e in
        let elsewhere : made_elsewhere v (session_of name st) ≡ Some made.0 =
        sym (ap (λ b. if b then made_own (mailbox_of name st) (option_map (λ (h : Holder). view h.user v.document) v.holder) else made_elsewhere v (session_of name st)) apart) ∙ made.1 in
        ap (λ t. last_of (mailbox_of name t)) (ap state_now made_added ∙ leads)
        ∙ ap (λ o. last_of (mailbox_in o)) (other_found users st e name apart)
        ∙ elsewhere_last v (session_of name st) made.0 elsewhere ∙ sym made.1
