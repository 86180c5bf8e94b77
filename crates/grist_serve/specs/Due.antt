-- What the last turn of a connection says of the shot that its peeks are to see.
use Rattle.std.specs.Prelude.{◌≡◌, ℕ, Bool, true, false, List, length, Result, Ok, Err}
use Rattle.io_edges.specs.declared.session_end.SessionEnd.{SessionEnd}
use Rattle.io_edges.specs.declared.session_end.SessionEnd.TheVariants.{WriteFault}
use Rattle.doc_model.specs.declared.entry.Entry.{Entry}
use Rattle.grist_json.specs.Lines.{reply_text}
use Rattle.peek_lines.specs.Answers.{verdict_of}
use Rattle.peek_lines.specs.declared.answers.PeekAnswer.{PeekAnswer}
use Rattle.snap_reads.specs.declared.past.Past.{Past}
use Rattle.document_shot.specs.declared.past.CoreStart.{CoreStart}
use Rattle.grist_serve.specs.Answered.{Peek}
use Rattle.grist_serve.specs.Standing.{IsPeekAfter, IsPeekBefore, Standing, with_past}
use Rattle.grist_serve.specs.Turns.{CorePass}
use Rattle.grist_serve.specs.declared.peeking.Due.{Due}
use Rattle.grist_serve.specs.declared.peeking.Due.TheVariants.{NoTurn, NoMark, At}

-- whether a turn was taken
abbrev pub has_turned : Due → Bool
has_turned NoTurn = false
has_turned NoMark = true
has_turned (At mark) = true

-- a mark, where there is one, is of all that the pass has seen
abbrev pub IsDue : Due → CorePass → Type 0
IsDue NoTurn pass = Unit {0}
IsDue NoMark pass = Unit {0}
IsDue (At mark) pass = mark.entries ≡ length pass.seen

-- what was asked was answered, though perhaps a front of that was written alone
abbrev pub WasAnswered : Result Bool SessionEnd → Type 0
WasAnswered (Ok closes) = Unit {0}
WasAnswered (Err WriteFault) = Unit {0}
WasAnswered (Err end) = ⊥

-- where the connection stands
abbrev pub standing : CorePass → Due → List (Past CoreStart Entry) → Standing
standing pass due known = record { pass = pass; has_turned = has_turned due; known = known }

-- a peek by what is due: without a mark none is answered
abbrev pub IsPeekDue : Due → List ℕ → List (Past CoreStart Entry) → Peek → Type 0
IsPeekDue NoTurn name known p = IsPeekBefore p
IsPeekDue NoMark name known p = ⊥
IsPeekDue (At mark) name known p = IsPeekAfter name mark.entries known p

-- a peek of the session at the table was answered so, and leads to what is known now
pub record IsPeekAnswered (due : Due) (name table : List ℕ) (old new : List (Past CoreStart Entry))
    (answer : PeekAnswer) : Type 0 where
  pub peek : Peek
  pub at : peek.table ≡ table
  pub given : peek.answer ≡ answer
  pub known : new ≡ with_past peek.past old
  pub told : IsPeekDue due name old peek

-- the line replies to a peek of the session at the table
pub record IsPeekReply (due : Due) (name table : List ℕ) (old new : List (Past CoreStart Entry))
    (line : List ℕ) : Type 0 where
  pub answer : PeekAnswer
  pub answered : IsPeekAnswered due name table old new answer
  pub text : line ≡ reply_text (verdict_of answer)
