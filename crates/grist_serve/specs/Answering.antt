-- How the requests of a connection are answered.
use Rattle.std.specs.Prelude.{◌≡◌, ℕ, Bool, true, false, List, [], ◌∷◌, map, Option, Result, Ok, Err}
use Rattle.std.specs.Io.KnownBytes.{Appends}
use Rattle.doc_model.specs.declared.entry.Entry.{Entry}
use Rattle.bundle_core.specs.Core.{is_full}
use Rattle.io_edges.specs.declared.session_end.SessionEnd.{SessionEnd}
use Rattle.io_edges.specs.declared.session_end.SessionEnd.TheVariants.{WriteFault, Full, NoMemory}
use Rattle.grist_serve.specs.Turns.{Adds, ClosesLast, CorePass, MayCloseLast, OwnTurn, StayOpen, asked_in, bytes_of}
use Rattle.io_edges.specs.Sending.{SendsFront}
use Rattle.session_gate.specs.History.{entries_of}

-- The pass took its turns for what was asked. `Written` says of the bytes that it was given what
-- was written of them, and `Closed` of its turns which of them closed the session
module _ (Written : List ℕ → Type 0) (Closed : List OwnTurn → Type 0) (old new : CorePass)
    (asked : List Entry) where
  pub record Answers : Type 0 where
    pub turns : List OwnTurn
    pub adds : Adds old new turns
    pub requests : map asked_in turns ≡ asked
    pub closed : Closed turns
    pub written : Written (bytes_of turns)

module _ (old new : CorePass) (asked : List Entry) (w w' : Option (List ℕ)) where
  -- all was written, and the session was not closed
  abbrev pub AnswersOpen : Type 0
  AnswersOpen = Answers (Appends w w') StayOpen old new asked

  -- all was written, and the last turn closed the session
  abbrev pub AnswersClosing : Type 0
  AnswersClosing = Answers (Appends w w') ClosesLast old new asked

  -- all was written, and the last turn may have closed the session
  abbrev pub AnswersAll : Type 0
  AnswersAll = Answers (Appends w w') MayCloseLast old new asked

  -- a front was written, and the last turn may have closed the session
  abbrev pub AnswersFront : Type 0
  AnswersFront = Answers (λ b. SendsFront b w w') MayCloseLast old new asked

-- the request was asked of a history that is full for it, and nothing was added
pub record FindsFull (old new : CorePass) (asked : List Entry) (w w' : Option (List ℕ))
    : Type 0 where
  pub request : Entry
  pub asks : asked ≡ request ∷ []
  pub full : is_full (entries_of new.seen) request.request request.size ≡ true
  pub answers : AnswersOpen old new [] w w'

-- how what one line asks for is answered: whether that closed the session, or how the link ends
abbrev pub AnswersLine : Result Bool SessionEnd → CorePass → CorePass → List Entry
    → Option (List ℕ) → Option (List ℕ) → Type 0
AnswersLine (Ok false) old new asked w w' = AnswersOpen old new asked w w'
AnswersLine (Ok true) old new asked w w' = AnswersClosing old new asked w w'
AnswersLine (Err WriteFault) old new asked w w' = AnswersFront old new asked w w'
AnswersLine (Err Full) old new asked w w' = FindsFull old new asked w w'
AnswersLine (Err NoMemory) old new asked w w' = AnswersOpen old new [] w w'
AnswersLine (Err end) old new asked w w' = ⊥
