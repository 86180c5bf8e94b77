-- What a core answers as the machine of a gate, by the histories before and after.
use Rattle.std.specs.Prelude.{◌≡◌, ℕ, Bool, true, false, not, ◌&&◌, List, [], ◌∷◌, ◌++◌, if◌then◌else◌}
use Rattle.doc_model.specs.declared.entry.Entry.{Entry}
use Rattle.bundle_core.specs.declared.machine.CoreOpening.{CoreOpening}
use Rattle.bundle_core.specs.declared.machine.Event.{Event}
use Rattle.bundle_core.specs.declared.machine.Given.{Given}
use Rattle.bundle_core.specs.declared.machine.Given.TheVariants as out
use Rattle.bundle_core.specs.Core.{CoreState, entry_of, has_no_effect, is_full, is_gone, is_open_in, state_after}
use Rattle.bundle_core.specs.KeptCore.{KeptCore, would_be_kept}
use Rattle.bundle_core.specs.State.{State, given}

-- what a core began from
abbrev pub opening_of : KeptCore → CoreOpening
opening_of c = record {
  users = c.state.users;
  document = c.state.start;
  records = c.kept.opening;
  faults = c.kept.before;
}

-- a core that began so, after a history
abbrev pub core_at : CoreOpening → List Entry → CoreState
core_at o es = record { users = o.users; start = o.document; history = es }

-- the state that a history leads to
abbrev pub state_at : CoreOpening → List Entry → State
state_at o es = state_after o.users o.document es

-- the session is open after the history
abbrev pub is_open : CoreOpening → List Entry → List ℕ → Bool
is_open o es name = is_open_in (core_at o es) name

-- the session was open, and is so no more
abbrev pub has_closed : CoreOpening → List Entry → List Entry → List ℕ → Bool
has_closed o old new name = is_open o old name && not (is_open o new name)

-- the entry that an event makes, and whether the keeper keeps it where it is a bundle
abbrev pub event_entry : Event → Bool → Entry
event_entry e kept = entry_of e.session e.request e.size kept

-- the history with an entry, which is not added where it has no effect
abbrev pub with_event : CoreOpening → List Entry → Entry → List Entry
with_event o es e = if has_no_effect (core_at o es) e then es else es ++ e ∷ []

-- The event had room, its session was given these lines, and its entry was added. It is not kept
-- only where its bundle would have been accepted. The end of a connection gives no line
pub record GivesLines (o : CoreOpening) (old new : List Entry) (e : Event)
    (lines : List (List ℕ)) (closes : Bool) : Type 0 where
  pub kept : Bool
  pub has_room : is_full old e.request e.size ≡ false
  pub lines_given : lines ≡ given o.users (state_at o old) (event_entry e kept)
  pub added : new ≡ with_event o old (event_entry e kept)
  pub would : kept ≡ false → would_be_kept o.users (state_at o old) (event_entry e kept)
  pub quiet : is_gone e.request ≡ true → lines ≡ []
  pub closing : closes ≡ has_closed o old new e.session

-- the history has no room for the event, and stays
pub record HasNoRoom (old new : List Entry) (e : Event) : Type 0 where
  pub full : is_full old e.request e.size ≡ true
  pub stays : is_gone e.request ≡ false
  pub same : new ≡ old

-- the answer to an event
abbrev pub IsGiven : CoreOpening → List Entry → List Entry → Event → Given → Type 0
IsGiven o old new e (out.Lines lines closes) = GivesLines o old new e lines closes
IsGiven o old new e out.Full = HasNoRoom old new e
