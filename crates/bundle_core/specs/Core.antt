-- A core: what it was given, and what it answers.
use Rattle.std.specs.Prelude.{ℕ, ◌+◌, ◌-◌, ◌≡◌, ◌≤◌, Bool, true, false, not, ◌&&◌, ◌||◌, List, [], ◌∷◌, ◌++◌, length, sum_by, nat_le, nat_lt, min, Option, Some, None, is_some, if◌then◌else◌}
use Rattle.std.specs.List.{AllByRecursion}
use Rattle.doc_model.specs.declared.entry.Entry.{Entry}
use Rattle.doc_model.specs.declared.request.Request.{Request}
use Rattle.doc_model.specs.declared.request.Request.TheVariants as request
use Rattle.doc_model.specs.declared.user.User.{User}
use Rattle.doc_model.specs.ByIds.{IsByIds}
use Rattle.doc_model.specs.Document.{Document}
use Rattle.doc_model.specs.DocumentLaws.{IsWhole}
use Rattle.doc_model.specs.NewDocument.{new_document}
use Rattle.action_limits.specs.declared.tally.Tally.{Tally}
use Rattle.action_limits.specs.Tallies.{IsTally}
use Rattle.bundle_core.specs.declared.loading.Opening.{Opening}
use Rattle.bundle_core.specs.declared.loading.Opening.TheVariants.{Copied, NewDocument}
use Rattle.bundle_core.specs.Dispatch.{kept_name, state_of, IsCounted}
use Rattle.bundle_core.specs.SessionState.{SessionState}
use Rattle.bundle_core.specs.State.{State, opening, run, session_of, given}

-- the users, the document that the core began with, and the history of its entries
pub record CoreState : Type 0 where
  pub users : List User
  pub start : Document
  pub history : List Entry

-- the state that a history leads to
abbrev pub state_after : List User → Document → List Entry → State
state_after users start es = run users (opening start) es

-- how many entries a history has before a step answers that it is full
abbrev pub entry_bound : ℕ
entry_bound = 1048576

-- how many entries a history ever has: besides those, one for the end of each open session
abbrev pub history_bound : ℕ
history_bound = 2097152

-- how many bytes the lines of a history have together
abbrev pub size_bound : ℕ
size_bound = 268435456

abbrev pub size_of : Entry → ℕ
size_of e = e.size

abbrev pub is_gone : Request → Bool
is_gone request.Gone = true
is_gone _ = false

-- a history has no room for one more request of that size; the end of a connection has always room
abbrev pub is_full : List Entry → Request → ℕ → Bool
is_full es r size = not (is_gone r)
    && (nat_le entry_bound (length es) || nat_lt size_bound (sum_by size_of es + size))

-- the session is open after the history
abbrev pub is_open_in : CoreState → List ℕ → Bool
is_open_in c name = is_some (session_of name (state_after c.users c.start c.history))

-- an entry without effect is not kept: a session that is not open is gone
abbrev pub has_no_effect : CoreState → Entry → Bool
has_no_effect c e = is_gone e.request && not (is_open_in c e.session)

-- the core after an entry
abbrev pub with_entry : CoreState → Entry → CoreState
with_entry c e =
    if has_no_effect c e
    then c
    else record { users = c.users; start = c.start; history = c.history ++ e ∷ [] }

-- the entry of a request, and whether the keeper keeps it where it is a bundle that is accepted
abbrev pub entry_of : List ℕ → Request → ℕ → Bool → Entry
entry_of session r size kept = record { session = session; request = r; size = size; kept = kept }

-- the entry, kept or not
abbrev pub marked : Entry → Bool → Entry
marked e kept = entry_of e.session e.request e.size kept

-- the entry had room, these lines were given at it, and it was added
pub record IsStep (old new : CoreState) (e : Entry) (lines : List (List ℕ)) : Type 0 where
  pub has_room : is_full old.history e.request e.size ≡ false
  pub lines_given : lines ≡ given old.users (state_after old.users old.start old.history) e
  pub added : new ≡ with_entry old e

-- how many bytes are left, where the bound is not passed
abbrev pub bytes_left : ℕ → Option ℕ
bytes_left sum = if nat_le sum size_bound then Some (size_bound - sum) else None

-- no more is counted than there are entries, nor than a history has before it is full
abbrev pub counted : List Entry → ℕ
counted es = min (length es) entry_bound

-- the document that a core began with
abbrev pub document_of : Opening → Document
document_of NewDocument = new_document
document_of (Copied s) = s

-- what a core keeps is the state that its history leads to; each open session was opened by an
-- entry, and there is one entry more at most for its end
pub record IsCore (users : List User) (start : Document) (es : List Entry) (s : Document)
    (tally : Tally) (sessions : List SessionState) (bytes : Option ℕ) : Type 0 where
  pub state : state_after users start es ≡ state_of s sessions
  pub whole : IsWhole s
  pub counts : IsTally s tally
  pub by_name : IsByIds kept_name sessions
  pub few : AllByRecursion (IsCounted (counted es)) sessions
  pub few_open : length sessions ≤ length es
  pub bounded : length es + length sessions ≤ history_bound
  pub left : bytes ≡ bytes_left (sum_by size_of es)
