-- A document with its open sessions, and what one entry of a history makes of it.
use Rattle.std.specs.Prelude.{ℕ, ◌+◌, Bool, true, false, List, [], ◌∷◌, map, length, nat_le, Option, Some, None, if◌then◌else◌, find}
use Rattle.std.specs.Option.{option_map}
use Rattle.std.specs.Str.{bytes_eq}
use Rattle.doc_model.specs.declared.entry.Entry.{Entry}
use Rattle.doc_model.specs.declared.user.User.{User}
use Rattle.doc_model.specs.declared.limit.LimitKind.TheVariants as limit
use Rattle.doc_model.specs.declared.refusal.Refusal.{Refusal}
use Rattle.doc_model.specs.declared.refusal.Refusal.TheVariants.{BadLine, LineTooLong, NotOpen, AlreadyOpen, UnknownToken, NoSuchTable, StoreFault, Lagged}
use Rattle.doc_model.specs.declared.request.Request.{Request}
use Rattle.doc_model.specs.declared.request.Request.TheVariants as request
use Rattle.doc_model.specs.ByIds.{find_id, put_by_id, without_id}
use Rattle.doc_model.specs.Counts.{bound_of}
use Rattle.doc_model.specs.Document.{Document}
use Rattle.doc_model.specs.declared.verdict.RetValue.{RetValue}
use Rattle.undo_bundles.specs.BundleLog.{Log, count, empty_log, marked, noted, undo_of}
use Rattle.undo_bundles.specs.InverseSteps.{inverse_steps}
use Rattle.bundle_judge.specs.declared.bare_verdict.BareVerdict.TheVariants as verdict
use Rattle.bundle_judge.specs.declared.bare_verdict.BareVerdict.{BareVerdict}
use Rattle.bundle_judge.specs.Judgement.{Judgement, accepted, refused, judge}
use Rattle.bundle_judge.specs.Undo.{judge_own_undo}
use Rattle.bundle_core.specs.Renaming.{judge_renaming}
use Rattle.bundle_judge.specs.Created.{told_of}
use Rattle.doc_model.specs.declared.view.ViewTable.{ViewTable}
use Rattle.bundle_core.specs.Mailbox.{Mailbox, Outcome, quiet, shows_view, says, Turn, asked_table, due, own}
use Rattle.rule_contexts.specs.Context.{view}

-- who has a session open, and the bundles of it that were accepted
pub record Holder : Type 0 where
  pub user : User
  pub log : Log

-- a session that is open
pub record Open : Type 0 where
  pub session : List ℕ
  pub holder : Holder
  pub mailbox : Mailbox

abbrev pub session_name : Open → List ℕ
session_name o = o.session

-- the document, and the open sessions by name
pub record State : Type 0 where
  pub document : Document
  pub open_sessions : List Open

-- nobody has opened the document yet
abbrev pub opening : Document → State
opening s = record { document = s; open_sessions = [] }

-- what an entry comes to: its outcome, the document after it, whether it was an accepted bundle,
-- and who has the session open after it
pub record Verdicts : Type 0 where
  pub outcome : Outcome
  pub document : Document
  pub is_bundle : Bool
  pub holder : Option Holder

-- nothing changes, and this is the answer
abbrev pub answered : Document → Option Holder → BareVerdict → Verdicts
answered s h v = record { outcome = says v; document = s; is_bundle = false; holder = h }

abbrev pub refusal : Refusal → BareVerdict
refusal why = verdict.Refused why None

-- the first user with the token
abbrev pub user_of : List User → List ℕ → Option User
user_of users token = find (λ (u : User). bytes_eq u.token token) users

-- how many sessions may be open
abbrev pub session_bound : ℕ
session_bound = bound_of limit.Sessions

-- a session that is not open asks for the document by a token
abbrev pub opened : List User → State → List ℕ → Verdicts
opened users st token =
    elim (user_of users token) [
      | None ↦ answered st.document None (refusal UnknownToken)
      | Some user ↦
          if nat_le session_bound (length st.open_sessions)
          then answered st.document None (verdict.Limited limit.Sessions session_bound None)
          else record {
            outcome = shows_view;
            document = st.document;
            is_bundle = false;
            holder = Some (record { user = user; log = empty_log });
          }
    ]

-- a request of a session that is not open
abbrev pub from_closed : List User → State → Request → Verdicts
from_closed users st request.Bad = answered st.document None (refusal BadLine)
from_closed users st request.TooLong = answered st.document None (refusal LineTooLong)
from_closed users st (request.Open token) = opened users st token
from_closed users st request.Gone =
    record { outcome = quiet; document = st.document; is_bundle = false; holder = None }
from_closed users st (request.Apply actions) = answered st.document None (refusal NotOpen)
from_closed users st request.Sync = answered st.document None (refusal NotOpen)
from_closed users st (request.Undo bundle) = answered st.document None (refusal NotOpen)
from_closed users st (request.Rename table column new) =
    answered st.document None (refusal NotOpen)
from_closed users st (request.Fetch table) = answered st.document None (refusal NotOpen)
from_closed users st request.Close = answered st.document None (refusal NotOpen)

-- the verdict of an accepted bundle: where it is an undo, it has no values
abbrev pub accepted_as : Option ℕ → ℕ → List RetValue → BareVerdict
accepted_as None number values = verdict.Bundle number values
accepted_as (Some undone) number values = verdict.Undone number

-- the log, where the bundle that is undone is marked
abbrev pub with_undone : Option ℕ → Log → Log
with_undone None log = log
with_undone (Some undone) log = marked undone log

-- a bundle of an open session, or the undo of its bundle of that number: accepted, it is noted with
-- its inverse; the keeper's failure leaves everything
abbrev pub bundle_of : Holder → Option ℕ → Document → Bool → Judgement → Verdicts
bundle_of h target s kept (refused v) = answered s (Some h) v
bundle_of h target s false (accepted after steps ms) = answered s (Some h) (refusal StoreFault)
bundle_of h target s true (accepted after steps ms) = record {
  outcome = says (accepted_as target (count h.log + 1) (map (told_of (view h.user after)) ms));
  document = after;
  is_bundle = true;
  holder = Some (record {
    user = h.user;
    log = noted (inverse_steps s steps) (with_undone target h.log);
  });
}

-- a table that is asked for is shown, or there is none
abbrev pub shown_if_any : List ViewTable → Outcome
shown_if_any [] = says (refusal NoSuchTable)
shown_if_any (t ∷ ts) = shows_view

-- an open session asks for a table: its user may see it
abbrev pub fetched : Document → Holder → List ℕ → Verdicts
fetched s h table = record {
  outcome = shown_if_any (asked_table table (view h.user s));
  document = s;
  is_bundle = false;
  holder = Some h;
}

-- a request of a session that is open and does not lag
abbrev pub from_open : State → Holder → Bool → Request → Verdicts
from_open st h kept request.Bad = answered st.document (Some h) (refusal BadLine)
from_open st h kept request.TooLong = answered st.document (Some h) (refusal LineTooLong)
from_open st h kept (request.Open token) = answered st.document (Some h) (refusal AlreadyOpen)
from_open st h kept (request.Apply actions) =
    bundle_of h None st.document kept (judge h.user st.document actions)
from_open st h kept (request.Undo number) =
    bundle_of h (Some number) st.document kept
    (judge_own_undo h.user (undo_of h.log number) st.document)
from_open st h kept (request.Rename table column new) =
    bundle_of h None st.document kept (judge_renaming h.user st.document table column new)
from_open st h kept request.Sync = answered st.document (Some h) verdict.Done
from_open st h kept (request.Fetch table) = fetched st.document h table
from_open st h kept request.Close = answered st.document None verdict.Done
from_open st h kept request.Gone =
    record { outcome = quiet; document = st.document; is_bundle = false; holder = None }

-- a request of a session that lags: whatever it is, it is told so, and the session is closed
abbrev pub from_lagging : State → Request → Verdicts
from_lagging st request.Gone =
    record { outcome = quiet; document = st.document; is_bundle = false; holder = None }
from_lagging st r = answered st.document None (refusal Lagged)

abbrev pub session_of : List ℕ → State → Option Open
session_of name st = find_id session_name name st.open_sessions

-- what an entry comes to, by whether its session is open and lags
abbrev pub verdicts : List User → State → Entry → Verdicts
verdicts users st e =
    elim (session_of e.session st) [
      | None ↦ from_closed users st e.request
      | Some o ↦
          if o.mailbox.lagging
          then from_lagging st e.request
          else from_open st o.holder e.kept e.request
    ]

-- another session's mailbox after an accepted bundle
abbrev pub posted_to : Document → Open → Open
posted_to s o = record {
  session = o.session;
  holder = o.holder;
  mailbox = due (view o.holder.user s) o.mailbox;
}

-- the other open sessions are posted the changes of a bundle
abbrev pub posted_all : Verdicts → List Open → List Open
posted_all v os = if v.is_bundle then map (posted_to v.document) os else os

-- the session as it is after its own turn
abbrev pub with_session : List ℕ → Option Holder → Option Mailbox → List Open → List Open
with_session name (Some h) (Some m) os =
    put_by_id session_name (record { session = name; holder = h; mailbox = m }) os
with_session name _ _ os = without_id session_name name os

abbrev pub mailbox_of : List ℕ → State → Option Mailbox
mailbox_of name st = option_map (λ (o : Open). o.mailbox) (session_of name st)

-- the turn of the entry's own session
abbrev pub turn_of : State → Entry → Verdicts → Turn
turn_of st e v =
    own (mailbox_of e.session st) e.request v.outcome
    (option_map (λ (h : Holder). view h.user v.document) v.holder)

-- the state after an entry that came to this
abbrev pub after_turn : State → Entry → Verdicts → State
after_turn st e v = record {
  document = v.document;
  open_sessions = with_session e.session v.holder (turn_of st e v).mailbox
      (posted_all v st.open_sessions);
}

-- the state after an entry
abbrev pub step : List User → State → Entry → State
step users st e = after_turn st e (verdicts users st e)

-- the lines that are given at an entry, to its session
abbrev pub given : List User → State → Entry → List (List ℕ)
given users st e = (turn_of st e (verdicts users st e)).lines

-- the state after a history
abbrev pub run : List User → State → List Entry → State
run users st [] = st
run users st (e ∷ es) = run users (step users st e) es

-- a bundle counts where it was accepted
abbrev pub one_if_bundle : Verdicts → ℕ
one_if_bundle v = if v.is_bundle then 1 else 0

-- how many bundles of a history were accepted, each of which is kept as a record
abbrev pub records_kept : List User → State → List Entry → ℕ
records_kept users st [] = 0
records_kept users st (e ∷ es) =
    let later = records_kept users (step users st e) es in
    if (verdicts users st e).is_bundle then later + 1 else later
