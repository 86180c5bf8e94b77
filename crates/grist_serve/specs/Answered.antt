-- What the lines of a connection ask for, where they may peek, and what was answered to them.
use Rattle.std.specs.Prelude.{◌≡◌, ◌⊎◌, ℕ, Bool, true, false, List, [], ◌∷◌, ◌++◌, map, Option, Some, None, if◌then◌else◌}
use Rattle.doc_model.specs.declared.entry.Entry.{Entry}
use Rattle.grist_json.specs.Lines.{reply_text}
use Rattle.peek_lines.specs.Answers.{verdict_of}
use Rattle.peek_lines.specs.Peeks.{peek_at}
use Rattle.peek_lines.specs.declared.answers.PeekAnswer.{PeekAnswer}
use Rattle.snap_reads.specs.declared.past.Past.{Past}
use Rattle.bundle_core.specs.Told.{with_newlines}
use Rattle.document_shot.specs.declared.past.CoreStart.{CoreStart}
use Rattle.io_edges.specs.Lines.{is_blank, is_long}
use Rattle.grist_serve.specs.Requests.{line_entries}
use Rattle.grist_serve.specs.Turns.{OwnTurn, asked_in}

-- a line asks for an entry at the gate, or to peek at a table
pub data Asked : Type 0 where
  asks_entry : Entry → Asked
  asks_peek : List ℕ → Asked

-- the table that a line asks to peek at: it is neither too long nor blank, and spells a peek
abbrev pub peeked_table : List ℕ → Option (List ℕ)
peeked_table text =
    if is_long text then None
    else if is_blank text then None
    else peek_at text

-- a peek, where there is one, and these entries otherwise
abbrev pub peek_or : Option (List ℕ) → List Entry → List Asked
peek_or None es = map (λ e. asks_entry e) es
peek_or (Some table) es = asks_peek table ∷ []

-- what a line of a session asks for: nothing, if it is white space alone, and else one thing
abbrev pub line_asks : List ℕ → List ℕ → List Asked
line_asks name text = peek_or (peeked_table text) (line_entries name text)

-- what lines ask for, in their order
abbrev pub asks_of : List ℕ → List (List ℕ) → List Asked
asks_of name [] = []
asks_of name (l ∷ ls) = line_asks name l ++ asks_of name ls

-- a peek that was answered: at which table, by the shot of which history, where one was taken, and
-- what the answer was
pub record Peek : Type 0 where
  pub table : List ℕ
  pub past : Option (Past CoreStart Entry)
  pub answer : PeekAnswer

-- what was answered to a line: a turn of the gate, or a peek
pub data Answered : Type 0 where
  turned : OwnTurn → Answered
  peeked : Peek → Answered

-- what it was that was asked for
abbrev pub asked_of : Answered → Asked
asked_of (turned t) = asks_entry (asked_in t)
asked_of (peeked p) = asks_peek p.table

-- the turns of the gate among what was answered: a peek is none
abbrev pub turns_among : List Answered → List OwnTurn
turns_among [] = []
turns_among (turned t ∷ more) = t ∷ turns_among more
turns_among (peeked p ∷ more) = turns_among more

-- the lines that were given: those of the turn, or the reply to the peek
abbrev pub lines_given : Answered → List (List ℕ)
lines_given (turned t) = t.lines
lines_given (peeked p) = reply_text (verdict_of p.answer) ∷ []

-- the bytes that were given, each in its place
abbrev pub bytes_given : List Answered → List ℕ
bytes_given [] = []
bytes_given (a ∷ more) = with_newlines (lines_given a) ++ bytes_given more

-- whether that closed the session, which no peek does
abbrev pub closes_at : Answered → Bool
closes_at (turned t) = t.closes
closes_at (peeked p) = false

-- nothing of it closed the session
abbrev pub NoneCloses : List Answered → Type 0
NoneCloses [] = Unit {0}
NoneCloses (a ∷ more) = (closes_at a ≡ false) × NoneCloses more

-- the last that was answered closed the session, and nothing before it
pub record LastCloses (answered : List Answered) : Type 0 where
  pub before : List Answered
  pub last : Answered
  pub split : answered ≡ before ++ last ∷ []
  pub open_before : NoneCloses before
  pub closes : closes_at last ≡ true

-- nothing of it closed the session, or the last alone
abbrev pub LastMayClose : List Answered → Type 0
LastMayClose answered = NoneCloses answered ⊎ LastCloses answered
