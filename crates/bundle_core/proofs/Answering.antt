-- What an entry comes to, by where its session stands among the open ones.
use Rattle.std.proofs.Common.{◌≡◌, ℕ, Bool, true, false, List, [], ◌∷◌, ◌++◌, map, Option, Some, None, refl, sym, ap, ◌∙◌, option_map, if◌then◌else◌}
use Rattle.std.proofs.lemmas.List.{map-append, append-nil}
use Rattle.std.specs.List.{AllByRecursion}
use Rattle.doc_model.specs.declared.entry.Entry.{Entry}
use Rattle.doc_model.specs.declared.request.Request.{Request}
use Rattle.doc_model.specs.declared.user.User.{User}
use Rattle.doc_model.specs.declared.view.ViewTable.{ViewTable}
use Rattle.doc_model.specs.ByIds.{find_id, put_by_id, without_id, precedes}
use Rattle.doc_model.specs.Changes.{changes}
use Rattle.doc_model.specs.Document.{Document}
use Rattle.doc_model.specs.DocumentLaws.{IsWhole}
use Rattle.doc_model.proofs.Choices.{each_mapped}
use Rattle.undo_bundles.specs.BundleLog.{Log, empty_log}
use Rattle.bundle_core.specs.Replies.{reply_of}
use Rattle.bundle_judge.specs.declared.bare_verdict.BareVerdict.{BareVerdict}
use Rattle.bundle_core.specs.Dispatch.{state_of, IsSpot, Answers}
use Rattle.bundle_core.specs.Mailbox.{Mailbox, Outcome, Turn, quiet, shows_view, says, due, own, stays, replies, emptied, posted_if_any}
use Rattle.bundle_core.specs.SessionState.{SessionState, open_of}
use Rattle.bundle_core.specs.State.{State, Open, Holder, Verdicts, session_name, session_of, mailbox_of, answered, from_closed, from_open, from_lagging, verdicts, posted_all, with_session, step, given}
use Rattle.rule_contexts.specs.Context.{view}
use Rattle.bundle_core.proofs.ViewLaws.{changes-again}
use Rattle.bundle_core.proofs.Spots.{find_absent_at, find_at, without_absent, without_at, index_absent, index_at}

abbrev pub opens : Document → List SessionState → List Open
opens s xs = map (open_of s) xs

-- the sessions on both sides, as open ones
pub opens-append : (s : Document) (before behind : List SessionState) → opens s (before ++ behind) ≡ opens s before ++ opens s behind
opens-append s before behind = map-append (open_of s) before behind

pub opens_below : (s : Document) (name : List ℕ) (xs : List SessionState) → AllByRecursion (λ x. precedes x.session name ≡ true) xs → AllByRecursion (λ (o : Open). precedes o.session name ≡ true) (opens s xs)
opens_below s name xs h = each_mapped (λ (o : Open). precedes o.session name ≡ true) (open_of s) xs h

pub opens_above : (s : Document) (name : List ℕ) (xs : List SessionState) → AllByRecursion (λ x. precedes name x.session ≡ true) xs → AllByRecursion (λ (o : Open). precedes name o.session ≡ true) (opens s xs)
opens_above s name xs h = each_mapped (λ (o : Open). precedes name o.session ≡ true) (open_of s) xs h

-- a document with open sessions
abbrev pub with_opens : Document → List Open → State
with_opens s os = record { document = s; open_sessions = os }

-- a state after an entry, by what its session's mailbox was
abbrev pub after_with : State → Entry → Verdicts → Option Mailbox → State
after_with st e w m = record {
  document = w.document;
  open_sessions = with_session e.session w.holder (own m e.request w.outcome (option_map (λ (h : Holder). view h.user w.document) w.holder)).mailbox (posted_all w st.open_sessions);
}

abbrev pub lines_with : Entry → Verdicts → Option Mailbox → List (List ℕ)
lines_with e w m = (own m e.request w.outcome (option_map (λ (h : Holder). view h.user w.document) w.holder)).lines

pub step_by : (users : List User) (st : State) (e : Entry) (w : Verdicts) (m : Option Mailbox) → verdicts users st e ≡ w → mailbox_of e.session st ≡ m → step users st e ≡ after_with st e w m
step_by users st e w m p q = ap (λ v. after_with st e v (mailbox_of e.session st)) p ∙ ap (after_with st e w) q

pub given_by : (users : List User) (st : State) (e : Entry) (w : Verdicts) (m : Option Mailbox) → verdicts users st e ≡ w → mailbox_of e.session st ≡ m → given users st e ≡ lines_with e w m
given_by users st e w m p q = ap (λ v. lines_with e v (mailbox_of e.session st)) p ∙ ap (lines_with e w) q

-- the session of an entry stays open, and nothing else changes
abbrev pub staying : Document → Holder → Outcome → Verdicts
staying s h o = record { outcome = o; document = s; is_bundle = false; holder = Some h }

-- the turn of a session that stays open
own_stays : (m : Mailbox) (r : Request) (o : Outcome) (v : List ViewTable) → own (Some m) r o (Some v) ≡ stays m (due v (emptied m)) (replies r o v)
own_stays m r quiet v = refl
own_stays m r shows_view v = refl
own_stays m r (says verdict) v = refl

-- a session's fields as an open session
abbrev pub open_with : Document → List ℕ → Holder → ℕ → List (List ℕ) → Bool → Open
open_with s name h made waiting lagging =
    record { session = name; holder = h; mailbox = record { view = view h.user s; made = made; waiting = waiting; lagging = lagging } }

pub open_of-fields : (s : Document) (x : SessionState) (name : List ℕ) (h : Holder) (made : ℕ) (waiting : List (List ℕ)) (lagging : Bool)
    → x.session ≡ name → x.holder ≡ h → x.made ≡ made → x.waiting ≡ waiting → x.lagging ≡ lagging → open_of s x ≡ open_with s name h made waiting lagging
open_of-fields s x name h made waiting lagging a b c d e =
    ap (λ n. open_with s n x.holder x.made x.waiting x.lagging) a
    ∙ ap (λ o. open_with s name o x.made x.waiting x.lagging) b
    ∙ ap (λ k. open_with s name h k x.waiting x.lagging) c
    ∙ ap (λ w. open_with s name h made w x.lagging) d
    ∙ ap (λ l. open_with s name h made waiting l) e

pub holder_of-fields : (h : Holder) (user : User) (log : Log) → h.user ≡ user → h.log ≡ log → h ≡ record { user = user; log = log }
holder_of-fields h user log a b =
    ap (λ u. let x : Holder = record { user = u; log = h.log } in x) a ∙ ap (λ l. let x : Holder = record { user = user; log = l } in x) b

module _ (users : List User) (doc : Document) (before behind : List SessionState) (e : Entry) (spot : IsSpot e.session before behind) where
  -- a session that is not open
  abbrev closed : State
  closed = state_of doc (before ++ behind)

  abbrev below : AllByRecursion (λ (o : Open). precedes o.session e.session ≡ true) (opens doc before)
  below = opens_below doc e.session before spot.below

  abbrev above : AllByRecursion (λ (o : Open). precedes e.session o.session ≡ true) (opens doc behind)
  above = opens_above doc e.session behind spot.above

  none_closed : session_of e.session closed ≡ None
  none_closed =
      ap (find_id session_name e.session) (opens-append doc before behind)
      ∙ find_absent_at session_name e.session (opens doc before) (opens doc behind) below above

  verdicts_closed : (w : Verdicts) → from_closed users closed e.request ≡ w → verdicts users closed e ≡ w
  verdicts_closed w p =
      ap (λ o. elim o as (λ _. Verdicts) [ None ↦ from_closed users closed e.request | Some x ↦ if x.mailbox.lagging then from_lagging closed e.request else from_open closed x.holder e.kept e.request ]) none_closed ∙ p

  mailbox_closed : mailbox_of e.session closed ≡ None
  mailbox_closed = ap (option_map (λ (o : Open). o.mailbox)) none_closed

  same_closed : without_id session_name e.session (opens doc (before ++ behind)) ≡ opens doc (before ++ behind)
  same_closed =
      ap (without_id session_name e.session) (opens-append doc before behind)
      ∙ without_absent session_name e.session (opens doc before) (opens doc behind) below above
      ∙ sym (opens-append doc before behind)

  pub answers_closed : (v : BareVerdict) → from_closed users closed e.request ≡ answered doc None v → Answers users doc doc (before ++ behind) (before ++ behind) e (reply_of v ∷ [])
  answers_closed v p = record {
    state = step_by users closed e (answered doc None v) None (verdicts_closed _ p) mailbox_closed ∙ ap (with_opens doc) same_closed;
    lines_given = given_by users closed e (answered doc None v) None (verdicts_closed _ p) mailbox_closed;
  }

  abbrev gone_quietly : Verdicts
  gone_quietly = record { outcome = quiet; document = doc; is_bundle = false; holder = None }

  pub answers_gone : from_closed users closed e.request ≡ gone_quietly → Answers users doc doc (before ++ behind) (before ++ behind) e []
  answers_gone p = record {
    state = step_by users closed e gone_quietly None (verdicts_closed _ p) mailbox_closed ∙ ap (with_opens doc) same_closed;
    lines_given = given_by users closed e gone_quietly None (verdicts_closed _ p) mailbox_closed;
  }

  abbrev opened_by : User → Verdicts
  opened_by user = record { outcome = shows_view; document = doc; is_bundle = false; holder = Some (record { user = user; log = empty_log }) }

  pub answers_opened : (user : User) (x : SessionState) → from_closed users closed e.request ≡ opened_by user
      → open_of doc x ≡ open_with doc e.session (record { user = user; log = empty_log }) 0 [] false
      → Answers users doc doc (before ++ behind) (before ++ x ∷ behind) e (replies e.request shows_view (view user doc))
  answers_opened user x p f =
      let new : Open = open_with doc e.session (record { user = user; log = empty_log }) 0 [] false in
      let placed : put_by_id session_name new (opens doc (before ++ behind)) ≡ opens doc (before ++ x ∷ behind) =
      ap (put_by_id session_name new) (opens-append doc before behind)
      ∙ index_absent session_name e.session (opens doc before) (opens doc behind) new refl below above
      ∙ ap (λ o. opens doc before ++ o ∷ opens doc behind) (sym f)
      ∙ sym (opens-append doc before (x ∷ behind)) in
      record {
        state = step_by users closed e (opened_by user) None (verdicts_closed _ p) mailbox_closed ∙ ap (with_opens doc) placed;
        lines_given = given_by users closed e (opened_by user) None (verdicts_closed _ p) mailbox_closed;
      }

  -- a session that is open
  module _ (x : SessionState) (named : x.session ≡ e.session) where
    abbrev opened : State
    opened = state_of doc (before ++ x ∷ behind)

    -- what the entry comes to
    abbrev pub ComesTo : Verdicts → Type 0
    ComesTo w = (if x.lagging then from_lagging opened e.request else from_open opened x.holder e.kept e.request) ≡ w

    found_open : session_of e.session opened ≡ Some (open_of doc x)
    found_open =
        ap (find_id session_name e.session) (opens-append doc before (x ∷ behind))
        ∙ find_at session_name e.session (opens doc before) (opens doc behind) (open_of doc x) below named

    pub verdicts_open : (w : Verdicts) → ComesTo w → verdicts users opened e ≡ w
    verdicts_open w p =
        ap (λ o. elim o as (λ _. Verdicts) [ None ↦ from_closed users opened e.request | Some y ↦ if y.mailbox.lagging then from_lagging opened e.request else from_open opened y.holder e.kept e.request ]) found_open ∙ p

    pub mailbox_open : mailbox_of e.session opened ≡ Some ((open_of doc x).mailbox)
    mailbox_open = ap (option_map (λ (o : Open). o.mailbox)) found_open

    gone_open : without_id session_name e.session (opens doc (before ++ x ∷ behind)) ≡ opens doc (before ++ behind)
    gone_open =
        ap (without_id session_name e.session) (opens-append doc before (x ∷ behind))
        ∙ without_at session_name e.session (opens doc before) (opens doc behind) (open_of doc x) below above named
        ∙ sym (opens-append doc before behind)

    pub answers_leaving : (v : BareVerdict) → ComesTo (answered doc None v)
        → Answers users doc doc (before ++ x ∷ behind) (before ++ behind) e (x.waiting ++ reply_of v ∷ [])
    answers_leaving v p = record {
      state = step_by users opened e (answered doc None v) (Some ((open_of doc x).mailbox)) (verdicts_open _ p) mailbox_open ∙ ap (with_opens doc) gone_open;
      lines_given = given_by users opened e (answered doc None v) (Some ((open_of doc x).mailbox)) (verdicts_open _ p) mailbox_open;
    }

    pub answers_parting : ComesTo gone_quietly
        → Answers users doc doc (before ++ x ∷ behind) (before ++ behind) e []
    answers_parting p = record {
      state = step_by users opened e gone_quietly (Some ((open_of doc x).mailbox)) (verdicts_open _ p) mailbox_open ∙ ap (with_opens doc) gone_open;
      lines_given = given_by users opened e gone_quietly (Some ((open_of doc x).mailbox)) (verdicts_open _ p) mailbox_open;
    }

    -- the session stays, and what waited was given
    pub answers_staying : (o : Outcome) (reply : List ℕ) (y : SessionState) → IsWhole doc → ComesTo (staying doc x.holder o) → replies e.request o (view x.holder.user doc) ≡ reply ∷ []
        → open_of doc y ≡ open_with doc e.session x.holder x.made [] x.lagging
        → Answers users doc doc (before ++ x ∷ behind) (before ++ y ∷ behind) e (x.waiting ++ reply ∷ [])
    answers_staying o reply y w p says_so f =
        let m : Mailbox = (open_of doc x).mailbox in
        let new : Open = open_with doc e.session x.holder x.made [] x.lagging in
        let told : List (List ℕ) = replies e.request o m.view in
        let none : changes m.view m.view ≡ [] = changes-again x.holder.user doc w in
        let placed : put_by_id session_name new (opens doc (before ++ x ∷ behind)) ≡ opens doc (before ++ y ∷ behind) =
        ap (put_by_id session_name new) (opens-append doc before (x ∷ behind))
        ∙ index_at session_name e.session (opens doc before) (opens doc behind) new (open_of doc x) refl named below
        ∙ ap (λ z. opens doc before ++ z ∷ opens doc behind) (sym f)
        ∙ sym (opens-append doc before (y ∷ behind)) in
        record {
          state = step_by users opened e (staying doc x.holder o) (Some m) (verdicts_open _ p) mailbox_open
              ∙ ap (λ (t : Turn). with_opens doc (with_session e.session (Some x.holder) t.mailbox (opens doc (before ++ x ∷ behind)))) (own_stays m e.request o m.view)
              ∙ ap (λ as'. with_opens doc (with_session e.session (Some x.holder) (Some (emptied (posted_if_any m.view as' (emptied m)))) (opens doc (before ++ x ∷ behind)))) none
              ∙ ap (with_opens doc) placed;
          lines_given = given_by users opened e (staying doc x.holder o) (Some m) (verdicts_open _ p) mailbox_open
              ∙ ap (λ (t : Turn). t.lines) (own_stays m e.request o m.view)
              ∙ ap (λ as'. x.waiting ++ (posted_if_any m.view as' (emptied m)).waiting ++ told) none
              ∙ ap (λ ls. ls ++ told) (append-nil x.waiting)
              ∙ ap (λ ls. x.waiting ++ ls) says_so;
        }
