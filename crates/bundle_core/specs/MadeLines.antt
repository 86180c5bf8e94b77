-- The stream line that an entry makes for a session, and how many were made for it.
use Rattle.std.specs.Prelude.{ℕ, ◌+◌, ◌-◌, ◌≡◌, Bool, false, nat_lt, ◌||◌, List, [], ◌∷◌, length, option_to_list, slice_get, Option, Some, None, if◌then◌else◌}
use Rattle.std.specs.Option.{option_map}
use Rattle.std.specs.Str.{bytes_eq}
use Rattle.doc_model.specs.declared.entry.Entry.{Entry}
use Rattle.doc_model.specs.declared.user.User.{User}
use Rattle.doc_model.specs.declared.view.ViewAction.{ViewAction}
use Rattle.doc_model.specs.declared.view.ViewTable.{ViewTable}
use Rattle.doc_model.specs.Changes.{changes}
use Rattle.grist_json.specs.Lines.{stream_text}
use Rattle.rule_contexts.specs.Context.{view}
use Rattle.bundle_core.specs.Core.{CoreState, IsStep}
use Rattle.bundle_core.specs.KeptCore.{state_now}
use Rattle.bundle_core.specs.Mailbox.{Mailbox, emptied, is_full}
use Rattle.bundle_core.specs.State.{Holder, Open, State, Verdicts, mailbox_of, session_of, step, verdicts}

-- the line that tells these changes, unless the session lags then
abbrev pub line_posted : List ViewAction → Mailbox → Option (List ℕ)
line_posted [] m = None
line_posted (a ∷ as') m =
    if m.lagging || is_full m.waiting
    then None
    else Some (stream_text (m.made + 1) (a ∷ as'))

-- the line that a mailbox is posted as its view becomes this one
abbrev pub line_due : List ViewTable → Mailbox → Option (List ℕ)
line_due new m = line_posted (changes m.view new) m

-- the line that a session is posted in its own turn, if it was open and stays so
abbrev pub made_own : Option Mailbox → Option (List ViewTable) → Option (List ℕ)
made_own None v = None
made_own (Some m) None = None
made_own (Some m) (Some v) = line_due v (emptied m)

-- the line that a session is posted at another's entry
abbrev pub made_elsewhere : Verdicts → Option Open → Option (List ℕ)
made_elsewhere v None = None
made_elsewhere v (Some o) =
    if v.is_bundle then line_due (view o.holder.user v.document) o.mailbox else None

-- the line that an entry makes for a session
abbrev pub made_line : List User → State → Entry → List ℕ → Option (List ℕ)
made_line users st e name =
    let v = verdicts users st e in
    if bytes_eq e.session name
    then made_own (mailbox_of name st)
    (option_map (λ (h : Holder). view h.user v.document) v.holder)
    else made_elsewhere v (session_of name st)

-- how many lines were made for a session, where it is open
abbrev pub lines_in : List ℕ → State → Option ℕ
lines_in name st = option_map (λ (m : Mailbox). m.made) (mailbox_of name st)

abbrev pub lines_made : CoreState → List ℕ → Option ℕ
lines_made c name = lines_in name (state_now c)

-- a session that is open before and after has one line more where one was made; for others none is
-- made
abbrev pub CountsOn : Option ℕ → Option ℕ → Option (List ℕ) → Type 0
CountsOn None after line = line ≡ None
CountsOn (Some before) None line = line ≡ None
CountsOn (Some before) (Some after) line = after ≡ before + length (option_to_list line)

-- how many lines are made for a session is counted as they are made
abbrev pub MadeLineLaw : Type 0
MadeLineLaw =
    (users : List User) (st : State) (e : Entry) (name : List ℕ)
    → CountsOn (lines_in name st) (lines_in name (step users st e)) (made_line users st e name)

abbrev pub last_line : List (List ℕ) → Option (List ℕ)
last_line lines = slice_get lines (length lines - 1)

-- whether more were counted after
abbrev pub is_more : Option ℕ → Option ℕ → Bool
is_more None after = false
is_more (Some before) None = false
is_more (Some before) (Some after) = nat_lt before after

-- the last of the lines that wait for a session
abbrev pub last_of : Option Mailbox → Option (List ℕ)
last_of None = None
last_of (Some m) = last_line m.waiting

-- these lines were given at the last entry; before it so many had been made for the session, and
-- this line is the one that it made for it
abbrev pub IsMade : CoreState → List (List ℕ) → List ℕ → Option ℕ → Option (List ℕ) → Type 0
IsMade c lines name before line =
    (old : CoreState) (e : Entry) → IsStep old c e lines → before ≡ lines_made old name
    → line ≡ made_line old.users (state_now old) e name
