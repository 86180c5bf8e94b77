-- What a reader of lines says of a call.
use Rattle.std.specs.Prelude.{◌≡◌, ◌≢◌, ℕ, ◌+◌, ◌≤◌, List, [], ◌∷◌, ◌++◌, length, Bool, false, Option, Result, Ok, Err}
use Rattle.std.specs.Io.KnownBytes.{Consumes, IsAtEnd}
use Rattle.io_edges.specs.declared.line_reader.ReadEnd.{ReadEnd}
use Rattle.io_edges.specs.declared.line_reader.ReadEnd.TheVariants.{ReadFault, TurnsSpent, NoMemory}
use Rattle.io_edges.specs.declared.line_reader.NextLine.{NextLine}
use Rattle.io_edges.specs.declared.line_reader.NextLine.TheVariants.{Line, Last, End}
use Rattle.io_edges.specs.declared.Failed.{Failed}
use Rattle.io_edges.specs.Lines.{IsOneLine, kept_of}
use Rattle.io_edges.specs.Reading.{LineState}

-- what stands behind the text that a call took: a newline, where it gave a whole line
abbrev pub after_text : Result NextLine ReadEnd → List ℕ → List ℕ
after_text (Ok Line) ahead = 10 ∷ ahead
after_text (Ok Last) ahead = ahead
after_text (Ok End) ahead = ahead
after_text (Err e) ahead = ahead

-- the input is read to its end
pub record EndsInput (new : LineState) (left : Option (List ℕ)) : Type 0 where
  pub none_ahead : new.ahead ≡ []
  pub at_end : IsAtEnd left

-- what each answer says of the text that the call took
abbrev pub Answers : Result NextLine ReadEnd → List ℕ → LineState → Option (List ℕ) → Type 0
Answers (Ok Line) text new left = new.line ≡ kept_of text
Answers (Ok Last) text new left = (text ≢ []) × (new.line ≡ kept_of text) × EndsInput new left
Answers (Ok End) text new left = (text ≡ []) × (new.line ≡ []) × EndsInput new left
Answers (Err ReadFault) text new left = new.ahead ≡ []
Answers (Err TurnsSpent) text new left = new.ahead ≡ []
Answers (Err NoMemory) text new left = Unit {0}

-- bytes came, and with those that were ahead they are a text, its newline where there is one, and
-- what is ahead now
pub record Reads (result : Result NextLine ReadEnd) (old new : LineState)
    (left_old left_new : Option (List ℕ)) : Type 0 where
  pub came : List ℕ
  pub text : List ℕ
  pub consumed : Consumes left_old left_new came
  pub one_line : IsOneLine text
  pub split : old.ahead ++ came ≡ text ++ after_text result new.ahead
  pub turns : new.turns ≤ old.turns + length came
  pub answer : Answers result text new left_new

-- what the end of the input is, by what is kept of the line before it
abbrev pub IsLast : List ℕ → NextLine → Type 0
IsLast [] next = next ≡ End
IsLast (b ∷ bs) next = next ≡ Last

-- a read that took a byte
abbrev pub is_more : Result Bool Failed → Bool
is_more (Ok more) = more
is_more (Err e) = false
