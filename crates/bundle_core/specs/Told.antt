-- What a session was told, and that it could work it out from its own requests, verdicts and views.
use Rattle.std.specs.Prelude.{ℕ, ◌≡◌, List, [], ◌∷◌, ◌++◌, Option, Some, None, if◌then◌else◌}
use Rattle.std.specs.Option.{option_map}
use Rattle.std.specs.Str.{bytes_eq}
use Rattle.doc_model.specs.declared.entry.Entry.{Entry}
use Rattle.doc_model.specs.declared.request.Request.{Request}
use Rattle.doc_model.specs.declared.user.User.{User}
use Rattle.doc_model.specs.declared.view.ViewAction.{ViewAction}
use Rattle.doc_model.specs.declared.view.ViewTable.{ViewTable}
use Rattle.doc_model.specs.Changes.{changes}
use Rattle.doc_model.specs.Document.{Document}
use Rattle.bundle_core.specs.Mailbox.{Mailbox, Outcome, due, own}
use Rattle.bundle_core.specs.State.{State, Open, Holder, Verdicts, opening, verdicts, session_of, step, given}
use Rattle.rule_contexts.specs.Context.{view}

-- what a session may know of an entry: its own request with the outcome and its view after it, or
-- the new view that another session's entry led to
pub data Seen : Type 0 where
  mine : Request → Outcome → Option (List ViewTable) → Seen
  other : List ViewTable → Seen

-- the new view, where there are changes
abbrev pub seen_if_any : List ViewTable → List ViewAction → List Seen
seen_if_any new [] = []
seen_if_any new (a ∷ as') = other new ∷ []

-- what an open session sees of a bundle
abbrev pub seen_by : Document → Open → List Seen
seen_by s o = seen_if_any (view o.holder.user s) (changes o.mailbox.view (view o.holder.user s))

-- what a session sees of another session's entry
abbrev pub seen_elsewhere : Verdicts → Option Open → List Seen
seen_elsewhere v None = []
seen_elsewhere v (Some o) = if v.is_bundle then seen_by v.document o else []

-- what a session sees of an entry
abbrev pub seen_at : List User → State → List ℕ → Entry → List Seen
seen_at users st name e =
    let v = verdicts users st e in
    if bytes_eq e.session name
    then mine e.request v.outcome
    (option_map (λ (h : Holder). view h.user v.document) v.holder) ∷ []
    else seen_elsewhere v (session_of name st)

-- what a session observes of a history
abbrev pub observed : List User → State → List ℕ → List Entry → List Seen
observed users st name [] = []
observed users st name (e ∷ es) = seen_at users st name e
    ++ observed users (step users st e) name es

-- lines, each with its newline
abbrev pub with_newlines : List (List ℕ) → List ℕ
with_newlines [] = []
with_newlines (l ∷ ls) = l ++ 10 ∷ with_newlines ls

-- the bytes that a walk over an observation alone gives
abbrev pub told : Option Mailbox → List Seen → List ℕ
told m [] = []
told m (mine r o v ∷ seen) = with_newlines (own m r o v).lines ++ told (own m r o v).mailbox seen
told m (other v ∷ seen) = told (option_map (due v) m) seen

-- the bytes that a session is given at an entry
abbrev pub given_to : List User → State → List ℕ → Entry → List ℕ
given_to users st name e = if bytes_eq e.session name then with_newlines (given users st e) else []

-- the bytes that a session is given in a history
abbrev pub out : List User → State → List ℕ → List Entry → List ℕ
out users st name [] = []
out users st name (e ∷ es) = given_to users st name e ++ out users (step users st e) name es

-- a session is given what its observation tells, whatever the document, the users and the others'
-- requests
abbrev pub IsolationLaw : Type 0
IsolationLaw =
    (users : List User) (s : Document) (history : List Entry) (name : List ℕ)
    → out users (opening s) name history ≡ told None (observed users (opening s) name history)

-- two histories that a session observes alike give it equal bytes
abbrev pub EqualBytesLaw : Type 0
EqualBytesLaw =
    (users users' : List User) (s s' : Document) (history history' : List Entry) (name : List ℕ)
    → observed users (opening s) name history ≡ observed users' (opening s') name history'
    → out users (opening s) name history ≡ out users' (opening s') name history'
