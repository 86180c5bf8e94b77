-- How the users at the front of an input are heard.
use Rattle.std.specs.Prelude.{◌≡◌, ◌⊎◌, ℕ, ◌+◌, List, [], ◌∷◌, ◌++◌, length, Option, Some, None, Result, Ok, Err}
use Rattle.doc_model.specs.NewDocument.{new_document}
use Rattle.doc_model.specs.declared.user.User.{User}
use Rattle.io_edges.specs.Lines.{kept_of}
use Rattle.io_edges.specs.Reading.{LineState}
use Rattle.io_edges.specs.declared.line_reader.NextLine.{NextLine}
use Rattle.io_edges.specs.declared.line_reader.NextLine.TheVariants as next
use Rattle.grist_run.specs.declared.status.Status.{Status}
use Rattle.grist_run.specs.declared.status.Status.TheVariants.{Done, Usage, WriteFault, StoreFault, BadStore, PortFault, HistoryFull}
use Rattle.grist_run.specs.declared.user_lines.Heard.{Heard}
use Rattle.grist_run.specs.declared.user_lines.Heard.TheVariants as heard
use Rattle.grist_run.specs.declared.user_lines.Front.{Front}
use Rattle.io_edges.specs.Came.{Came, CameAll, CameFirst}
use Rattle.grist_run.specs.Run.{Runs}
use Rattle.grist_run.specs.UserLines.{Saying, passes, adds, fails, ends, script, script_of}

-- what was heard is what the line says, and a user that was said was added
abbrev pub IsHeard : Heard → Saying → List User → List User → Type 0
IsHeard heard.Users s old new =
    ((s ≡ passes) × (new ≡ old)) ⊎ ((u : User) × (s ≡ adds u) × (new ≡ old ++ u ∷ []))
IsHeard heard.BadUser s old new = s ≡ fails
IsHeard heard.Request s old new = (s ≡ ends) × (new ≡ old)

-- the last line that came is ahead of the answers; the lines before it asked for these things
pub record IsAtLine (left_old left_new : Option (List ℕ)) (users : List User)
    (requests : List (List ℕ)) (reader : LineState) : Type 0 where
  pub lines : List (List ℕ)
  pub text : List ℕ
  pub kept : reader.line ≡ kept_of text
  pub came : Came left_old left_new (lines ++ text ∷ []) reader.ahead reader.turns
  pub said : script_of (lines ++ text ∷ []) ≡ script users (requests ++ text ∷ [])

-- the same at the last line of the input, which no newline ends
pub record IsAtLast (left_old left_new : Option (List ℕ)) (users : List User)
    (requests : List (List ℕ)) (reader : LineState) : Type 0 where
  pub lines : List (List ℕ)
  pub text : List ℕ
  pub kept : reader.line ≡ kept_of text
  pub came : CameAll left_old left_new (lines ++ text ∷ [])
  pub said : script_of (lines ++ text ∷ []) ≡ script users (requests ++ text ∷ [])

-- the same at the end of the input
pub record IsAtEndOf (left_old left_new : Option (List ℕ)) (users : List User)
    (requests : List (List ℕ)) : Type 0 where
  pub lines : List (List ℕ)
  pub came : CameAll left_old left_new lines
  pub said : script_of lines ≡ script users requests

-- where the reading is, by what the reader gave
abbrev pub IsAt : NextLine → Option (List ℕ) → Option (List ℕ) → List User → List (List ℕ)
    → LineState → Type 0
IsAt next.Line l l' users requests reader = IsAtLine l l' users requests reader
IsAt next.Last l l' users requests reader = IsAtLast l l' users requests reader
IsAt next.End l l' users requests reader = IsAtEndOf l l' users requests

-- the users ended before the last line that came, which asks for something and has this number
pub record EndsUsers (left_old left_new : Option (List ℕ)) (users : List User) (number : ℕ)
    : Type 0 where
  pub lines : List (List ℕ)
  pub text : List ℕ
  pub came : CameFirst left_old left_new lines
  pub said : script_of lines ≡ script users (text ∷ [])
  pub count : number ≡ length lines

-- the number of the line at which the users ended, where there is one
abbrev pub EndsUsersAt : NextLine → Option (List ℕ) → Option (List ℕ) → List User → ℕ → Type 0
EndsUsersAt next.Line l l' users number = EndsUsers l l' users number
EndsUsersAt next.Last l l' users number = EndsUsers l l' users number
EndsUsersAt next.End l l' users number = Unit {0}

-- all lines so far said these users, and the next line has this number
pub record HeardSoFar (left_old left_new : Option (List ℕ)) (users : List User) (reader : LineState)
    (number : ℕ) : Type 0 where
  pub lines : List (List ℕ)
  pub came : Came left_old left_new lines reader.ahead reader.turns
  pub said : script_of lines ≡ script users []
  pub numbered : number ≡ 1 + length lines

-- nothing is written while users are heard
abbrev pub Nothing : List ℕ → Type 0
Nothing bytes = bytes ≡ []

-- the run ended while these users were heard, and no document was opened
abbrev pub EndsHearing : Status → Option (List ℕ) → Option (List ℕ) → Type 0
EndsHearing Done l l' = ⊥
EndsHearing Usage l l' = ⊥
EndsHearing WriteFault l l' = ⊥
EndsHearing StoreFault l l' = ⊥
EndsHearing (BadStore number) l l' = ⊥
EndsHearing PortFault l l' = ⊥
EndsHearing HistoryFull l l' = ⊥
EndsHearing status l l' =
    (users : List User) × Runs Nothing Nothing users new_document status l l' []

-- one line was heard: there may be more, or the users ended, or the run did
abbrev pub HearsLine : Result (Option NextLine) Status → Option (List ℕ) → Option (List ℕ)
    → List User → LineState → ℕ → Type 0
HearsLine (Ok None) l l' users reader number = HeardSoFar l l' users reader (number + 1)
HearsLine (Ok (Some n)) l l' users reader number =
    IsAt n l l' users [] reader × EndsUsersAt n l l' users number
HearsLine (Err status) l l' users reader number = EndsHearing status l l'

-- the users were heard, or the run ended
abbrev pub HearsUsers : Result Front Status → Option (List ℕ) → Option (List ℕ) → LineState → Type 0
HearsUsers (Ok f) l l' reader =
    IsAt f.next l l' f.users [] reader × EndsUsersAt f.next l l' f.users f.number
HearsUsers (Err status) l l' reader = EndsHearing status l l'
