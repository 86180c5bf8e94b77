-- How the lines of a connection are answered that may peek.
use Rattle.std.specs.Prelude.{◌≡◌, ℕ, Bool, true, false, List, [], ◌∷◌, map, Option, Result, Ok, Err}
use Rattle.std.specs.Io.KnownBytes.{Appends}
use Rattle.io_edges.specs.Sending.{SendsFront}
use Rattle.io_edges.specs.declared.session_end.SessionEnd.{SessionEnd}
use Rattle.io_edges.specs.declared.session_end.SessionEnd.TheVariants.{WriteFault, Full, NoMemory}
use Rattle.doc_model.specs.declared.entry.Entry.{Entry}
use Rattle.bundle_core.specs.Core.{is_full}
use Rattle.session_gate.specs.History.{entries_of}
use Rattle.grist_serve.specs.Answered.{Answered, Asked, LastCloses, LastMayClose, NoneCloses, asked_of, asks_entry, bytes_given, turns_among}
use Rattle.grist_serve.specs.Standing.{Goes, Rests, Standing}
use Rattle.grist_serve.specs.Turns.{Adds}

-- What was asked was answered in its order, by turns of the pass and by peeks, and no peek is among
-- the turns. `Written` says of the bytes that were given what was written of them, and `Closed` of
-- the answers which of them closed the session
module _ (Written : List ℕ → Type 0) (Closed : List Answered → Type 0) (name : List ℕ)
    (old new : Standing) (asked : List Asked) where
  pub record Answers : Type 0 where
    pub answered : List Answered
    pub goes : Goes name old answered new
    pub adds : Adds old.pass new.pass (turns_among answered)
    pub requests : map asked_of answered ≡ asked
    pub closed : Closed answered
    pub written : Written (bytes_given answered)

module _ (name : List ℕ) (old new : Standing) (asked : List Asked) (w w' : Option (List ℕ)) where
  -- all was written, and the session was not closed
  abbrev pub AnswersOpen : Type 0
  AnswersOpen = Answers (Appends w w') NoneCloses name old new asked

  -- all was written, and the last answer closed the session
  abbrev pub AnswersClosing : Type 0
  AnswersClosing = Answers (Appends w w') LastCloses name old new asked

  -- all was written, and the last answer may have closed the session
  abbrev pub AnswersAll : Type 0
  AnswersAll = Answers (Appends w w') LastMayClose name old new asked

  -- a front was written, and the last answer may have closed the session
  abbrev pub AnswersFront : Type 0
  AnswersFront = Answers (λ b. SendsFront b w w') LastMayClose name old new asked

-- an entry was asked of a history that is full for it, and nothing was added or written
pub record FindsFull (old new : Standing) (asked : List Asked) (w w' : Option (List ℕ))
    : Type 0 where
  pub request : Entry
  pub asks : asked ≡ asks_entry request ∷ []
  pub full : is_full (entries_of new.pass.seen) request.request request.size ≡ true
  pub rests : Rests old new
  pub written : Appends w w' []

-- nothing was answered or written
pub record FindsNoMemory (old new : Standing) (w w' : Option (List ℕ)) : Type 0 where
  pub rests : Rests old new
  pub written : Appends w w' []

-- how what one line asks for is answered: whether that closed the session, or how the link ends
abbrev pub AnswersLine : Result Bool SessionEnd → List ℕ → Standing → Standing → List Asked
    → Option (List ℕ) → Option (List ℕ) → Type 0
AnswersLine (Ok false) name old new asked w w' = AnswersOpen name old new asked w w'
AnswersLine (Ok true) name old new asked w w' = AnswersClosing name old new asked w w'
AnswersLine (Err WriteFault) name old new asked w w' = AnswersFront name old new asked w w'
AnswersLine (Err Full) name old new asked w w' = FindsFull old new asked w w'
AnswersLine (Err NoMemory) name old new asked w w' = FindsNoMemory old new w w'
AnswersLine (Err end) name old new asked w w' = ⊥
