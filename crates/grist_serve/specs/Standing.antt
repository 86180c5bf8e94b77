-- Where a connection stands that may peek, and how each answer leads it on.
use Rattle.std.specs.Prelude.{◌≡◌, ◌≤◌, ℕ, Bool, true, false, List, [], ◌∷◌, length, Option, Some, None}
use Rattle.doc_model.specs.declared.entry.Entry.{Entry}
use Rattle.peek_lines.specs.declared.answers.PeekAnswer.TheVariants.{NotOpen}
use Rattle.snap_reads.specs.Past.{ContinuesAll}
use Rattle.snap_reads.specs.Views.{TakesOn}
use Rattle.snap_reads.specs.declared.past.Past.{Past}
use Rattle.document_shot.specs.PeekAnswers.{peek_answer}
use Rattle.document_shot.specs.Pasts.{state_at}
use Rattle.document_shot.specs.declared.past.CoreStart.{CoreStart}
use Rattle.grist_serve.specs.Answered.{Answered, Peek, peeked, turned}
use Rattle.grist_serve.specs.Turns.{Adds, CorePass, OwnTurn}

-- the pass of the connection, whether it took a turn in it, and the histories that its reader of
-- shots knows, the newest first
pub record Standing : Type 0 where
  pub pass : CorePass
  pub has_turned : Bool
  pub known : List (Past CoreStart Entry)

-- before the first turn
abbrev pub starts_at : CorePass → List (Past CoreStart Entry) → Standing
starts_at pass known = record { pass = pass; has_turned = false; known = known }

-- a history is known too, where one was taken
abbrev pub with_past : Option (Past CoreStart Entry) → List (Past CoreStart Entry)
    → List (Past CoreStart Entry)
with_past None known = known
with_past (Some past) known = past ∷ known

-- a peek before the first turn: the session is not open, and no shot was taken
pub record IsPeekBefore (p : Peek) : Type 0 where
  pub none_taken : p.past ≡ None
  pub answered : p.answer ≡ NotOpen

-- A peek where the history had so many entries at the last turn: its answer is what the session
-- sees of the table after a history, which has no fewer entries, and continues all that was known
pub record IsPeekAfter (name : List ℕ) (entries : ℕ) (known : List (Past CoreStart Entry))
    (p : Peek) : Type 0 where
  pub past : Past CoreStart Entry
  pub taken : p.past ≡ Some past
  pub later : ContinuesAll known past
  pub marked : entries ≤ length past.entries
  pub answered : p.answer ≡ peek_answer (state_at past) name p.table

-- a peek before or after the first turn
abbrev pub IsPeekBy : Bool → List ℕ → ℕ → List (Past CoreStart Entry) → Peek → Type 0
IsPeekBy false name entries known p = IsPeekBefore p
IsPeekBy true name entries known p = IsPeekAfter name entries known p

-- a peek of the session where its connection stands so: what the pass has seen is the history up to
-- its last turn
abbrev pub IsPeekOf : List ℕ → Standing → Peek → Type 0
IsPeekOf name s p = IsPeekBy s.has_turned name (length s.pass.seen) s.known p

-- it takes no turn and adds no entry, so that the pass stays as it is
abbrev pub after_peek : Standing → Peek → Standing
after_peek s p =
    record { pass = s.pass; has_turned = s.has_turned; known = with_past p.past s.known }

-- a turn of the pass, which tells nothing of shots
pub record Turns (old new : Standing) (t : OwnTurn) : Type 0 where
  pub adds : Adds old.pass new.pass (t ∷ [])
  pub has_turned : new.has_turned ≡ true
  pub known : new.known ≡ old.known

-- one answer after the other leads from here to there
abbrev pub Goes : List ℕ → Standing → List Answered → Standing → Type 0
Goes name old [] new = new ≡ old
Goes name old (turned t ∷ more) new = (mid : Standing) × Turns old mid t × Goes name mid more new
Goes name old (peeked p ∷ more) new = IsPeekOf name old p × Goes name (after_peek old p) more new

-- nothing was answered meanwhile: the pass may have seen more, and a shot may have been taken
pub record Rests (old new : Standing) : Type 0 where
  pub adds : Adds old.pass new.pass []
  pub takes : TakesOn old.known new.known
