-- What a core keeps of its state, and when it answers an entry as the state says.
use Rattle.std.specs.Prelude.{◌≡◌, ℕ, ◌+◌, suc, zero, ◌<◌, ◌≤◌, true, take, drop, get_or, List, [], ◌∷◌, ◌++◌, map, length, option_to_list, Option, Some, None}
use Rattle.std.specs.List.{AllByRecursion}
use Rattle.doc_model.specs.declared.entry.Entry.{Entry}
use Rattle.doc_model.specs.declared.user.User.{User}
use Rattle.doc_model.specs.declared.verdict.RetValue.{RetValue}
use Rattle.doc_model.specs.declared.view.ViewAction.{ViewAction}
use Rattle.doc_model.specs.Document.{Document}
use Rattle.doc_model.specs.ByIds.{precedes}
use Rattle.bundle_core.specs.Replies.{reply_of}
use Rattle.undo_bundles.specs.BundleLog.{count}
use Rattle.bundle_core.specs.declared.session.BundleNote.{BundleNote}
use Rattle.bundle_core.specs.SessionState.{SessionState, open_of, IsEmptied, IsReady, posted_state}
use Rattle.bundle_judge.specs.declared.created.Created.{Created}
use Rattle.bundle_judge.specs.Created.{told_of}
use Rattle.bundle_core.specs.State.{State, accepted_as, step, given}
use Rattle.bundle_core.specs.Noting.{log_after}
use Rattle.rule_contexts.specs.Context.{view}

abbrev pub kept_name : SessionState → List ℕ
kept_name x = x.session

-- the state of this document and these sessions
abbrev pub state_of : Document → List SessionState → State
state_of s sessions = record { document = s; open_sessions = map (open_of s) sessions }

-- the sessions before the index of a name, and those behind it
pub record IsSpot (name : List ℕ) (before behind : List SessionState) : Type 0 where
  pub below : AllByRecursion (λ x. precedes x.session name ≡ true) before
  pub above : AllByRecursion (λ x. precedes name x.session ≡ true) behind

-- the entry is answered with these lines, and leads to this document and these sessions
pub record Answers (users : List User) (s s' : Document) (sessions sessions' : List SessionState)
    (e : Entry) (lines : List (List ℕ)) : Type 0 where
  pub state : step users (state_of s sessions) e ≡ state_of s' sessions'
  pub lines_given : given users (state_of s sessions) e ≡ lines

-- no session has been posted more lines, or had more bundles accepted, than there are entries
pub record IsCounted (entries : ℕ) (x : SessionState) : Type 0 where
  pub made : x.made ≤ entries
  pub bundles : count x.holder.log ≤ entries

-- the session of that name stands at that index
pub record Finds (name : List ℕ) (sessions : List SessionState) (index : ℕ) : Type 0 where
  pub within : index < length sessions
  pub named : (d : SessionState) → (get_or sessions index d).session ≡ name
  pub spot : IsSpot name (take index sessions) (drop (suc index) sessions)

-- there is no session of that name, and it would stand at that index
pub record Misses (name : List ℕ) (sessions : List SessionState) (index : ℕ) : Type 0 where
  pub within : index ≤ length sessions
  pub spot : IsSpot name (take index sessions) (drop index sessions)

-- the same sessions, though more lines may be ready and there may be more room
abbrev pub AreSame : List SessionState → List SessionState → Type 0
AreSame old new = (s : Document) → map (open_of s) new ≡ map (open_of s) old

-- the session of that index is gone, and was given what waited and the reply
pub record Leaves (old new : List SessionState) (index : ℕ) (reply : List ℕ)
    (lines : List (List ℕ)) : Type 0 where
  pub gone : new ≡ take index old ++ drop (suc index) old
  pub given_lines : (d : SessionState) → lines ≡ (get_or old index d).waiting ++ reply ∷ []

-- the session of that index was given what waited and the reply
pub record Stays (old new : List SessionState) (index : ℕ) (reply : List ℕ)
    (lines : List (List ℕ)) : Type 0 where
  pub after : SessionState
  pub stands : new ≡ take index old ++ after ∷ drop (suc index) old
  pub emptied_box : (d : SessionState) → IsEmptied (get_or old index d) after
  pub made : (d : SessionState) → after.made ≡ (get_or old index d).made
  pub log : (d : SessionState) → after.holder.log ≡ (get_or old index d).holder.log
  pub given_lines : (d : SessionState) → lines ≡ (get_or old index d).waiting ++ reply ∷ []

-- the number of the bundle that the session of that index has accepted next
abbrev pub bundle_number : List SessionState → ℕ → ℕ
bundle_number [] index = 0
bundle_number (x ∷ xs) zero = count x.holder.log + 1
bundle_number (x ∷ xs) (suc index) = bundle_number xs index

-- the user of the session of that index
abbrev pub user_at : List SessionState → ℕ → Option User
user_at [] index = None
user_at (x ∷ xs) zero = Some x.holder.user
user_at (x ∷ xs) (suc index) = user_at xs index

-- what a user is told of what was created, in a document
abbrev pub values_told : Option User → Document → List Created → List RetValue
values_told None s ms = []
values_told (Some user) s ms = map (told_of (view user s)) ms

-- the reply to a bundle of the session of that index, or to an undo, that leads to this document
abbrev pub bundle_reply : List SessionState → ℕ → Option ℕ → Document → List Created → List ℕ
bundle_reply sessions index undone s ms =
    reply_of (accepted_as undone (bundle_number sessions index)
    (values_told (user_at sessions index) s ms))

-- the session of that index was given what waited, its ready line and the reply, and its bundle was
-- noted; the others were posted theirs
pub record Posts (old new : List SessionState) (index : ℕ) (note : BundleNote) (reply : List ℕ)
    (lines : List (List ℕ)) : Type 0 where
  pub after : SessionState
  pub stands : new ≡ map posted_state (take index old)
      ++ after ∷ map posted_state (drop (suc index) old)
  pub emptied_box : (d : SessionState) → IsEmptied (get_or old index d) after
  pub made : (d : SessionState) → after.made ≡ (get_or old index d).made + length
      (option_to_list (get_or old index d).ready)
  pub log : (d : SessionState) → after.holder.log
      ≡ log_after note (get_or old index d).holder.log
  pub given_lines : (d : SessionState) → lines ≡ (get_or old index d).waiting
      ++ option_to_list (get_or old index d).ready ++ reply ∷ []

-- the session of that index had a bundle accepted, and each session was posted what its user is
-- told
pub record Bundles (old new : List SessionState) (index : ℕ) (told : User → List ViewAction)
    (note : BundleNote) (reply : List ℕ) (lines : List (List ℕ)) : Type 0 where
  pub prepared : List SessionState
  pub same : AreSame old prepared
  pub ready : AllByRecursion (IsReady told) prepared
  pub posts : Posts prepared new index note reply lines
