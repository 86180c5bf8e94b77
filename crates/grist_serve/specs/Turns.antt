-- What a pass was given at its own entries.
use Rattle.std.specs.Prelude.{◌≡◌, ℕ, Bool, true, false, not, ◌&&◌, ◌⊎◌, List, [], ◌∷◌, ◌++◌, map, is_some, Option, Some, None, if◌then◌else◌}
use mathlib.Core.List.{IsPrefix}
use Rattle.doc_model.specs.declared.entry.Entry.{Entry}
use Rattle.doc_model.specs.declared.user.User.{User}
use Rattle.bundle_core.specs.Core.{marked}
use Rattle.bundle_core.specs.Machine.{is_open}
use Rattle.bundle_core.specs.State.{State, opening, step, given, session_of}
use Rattle.bundle_core.specs.Told.{with_newlines}
use Rattle.bundle_core.specs.declared.machine.CoreOpening.{CoreOpening}
use Rattle.session_gate.specs.Call.{IsSamePass, own_calls}
use Rattle.session_gate.specs.History.{is_by}
use Rattle.session_gate.specs.Views.{PassView}
use Rattle.session_gate.specs.declared.known.Made.{Made}

-- a pass at a gate round a core
abbrev pub CorePass : Type 0
CorePass = PassView Entry CoreOpening

-- an own entry of a pass: the lines that were given at it, and whether it closed its session
pub record OwnTurn : Type 0 where
  pub entry : Entry
  pub lines : List (List ℕ)
  pub closes : Bool

abbrev pub entry_in : OwnTurn → Entry
entry_in t = t.entry

-- what was asked for, whether the keeper kept it or not
abbrev pub asked_in : OwnTurn → Entry
asked_in t = marked t.entry true

-- `given`, `step` and whether a session is open, kept shut: nobody who speaks of turns looks into
-- them
unfoldable pub lines_at : List User → State → Entry → List (List ℕ)
lines_at users st e = given users st e

unfoldable pub state_next : List User → State → Entry → State
state_next users st e = step users st e

unfoldable pub is_open_at : State → List ℕ → Bool
is_open_at st name = is_some (session_of name st)

-- the turn of an entry in a state
abbrev pub turn_at : List User → State → Entry → OwnTurn
turn_at users st e = record {
  entry = e;
  lines = lines_at users st e;
  closes = is_open_at st e.session && not (is_open_at (state_next users st e) e.session);
}

-- the turns of the pass n in a history
abbrev pub turns_by : List User → State → ℕ → List (Made Entry) → List OwnTurn
turns_by users st n [] = []
turns_by users st n (x ∷ xs) =
    (if is_by n x.by then turn_at users st x.entry ∷ [] else [])
    ++ turns_by users (state_next users st x.entry) n xs

-- the same in a history that began so
abbrev pub turns_in : Option CoreOpening → ℕ → List (Made Entry) → List OwnTurn
turns_in None n log = []
turns_in (Some o) n log = turns_by o.users (opening o.document) n log

-- the turns of a pass, in the history as far as it saw it
abbrev pub turns_of : CorePass → List OwnTurn
turns_of pass = turns_in pass.opening pass.number pass.seen

-- the session is open after the history, where that began so
abbrev pub is_open_after : Option CoreOpening → List Entry → List ℕ → Bool
is_open_after None history name = false
is_open_after (Some o) history name = is_open o history name

-- the bytes that were given in turns
abbrev pub bytes_of : List OwnTurn → List ℕ
bytes_of [] = []
bytes_of (t ∷ ts) = with_newlines t.lines ++ bytes_of ts

-- none of the turns closed the session
abbrev pub StayOpen : List OwnTurn → Type 0
StayOpen [] = Unit {0}
StayOpen (t ∷ ts) = (t.closes ≡ false) × StayOpen ts

-- the last turn closed the session, and none before it
pub record ClosesLast (turns : List OwnTurn) : Type 0 where
  pub before : List OwnTurn
  pub last : OwnTurn
  pub split : turns ≡ before ++ last ∷ []
  pub open_before : StayOpen before
  pub closes : last.closes ≡ true

-- none of the turns closed the session, or the last alone
abbrev pub MayCloseLast : List OwnTurn → Type 0
MayCloseLast turns = StayOpen turns ⊎ ClosesLast turns

-- the pass saw more of the history, and these are its turns in that
pub record Adds (old new : CorePass) (turns : List OwnTurn) : Type 0 where
  pub same : IsSamePass old new
  pub seen : IsPrefix old.seen new.seen
  pub calls : own_calls new ≡ own_calls old ++ map entry_in turns
  pub turns_are : turns_of new ≡ turns_of old ++ turns
