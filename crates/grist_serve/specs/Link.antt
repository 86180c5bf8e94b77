-- What one connection does: which lines it read, what its pass asked for, and what was written.
use Rattle.std.specs.Prelude.{◌≡◌, ◌≢◌, ◌⊎◌, ℕ, true, List, [], ◌∷◌, ◌++◌, ◌<◌, length, map, Option, Some, None, Result, Ok, Err, ⊤, if◌then◌else◌}
use Rattle.doc_model.specs.declared.entry.Entry.{Entry}
use Rattle.doc_model.specs.declared.request.Request.TheVariants as request
use Rattle.bundle_core.specs.Core.{entry_of, is_full}
use Rattle.bundle_core.specs.declared.machine.CoreOpening.{CoreOpening}
use Rattle.grist_serve.specs.Answering.{AnswersAll, AnswersClosing, AnswersFront, AnswersOpen}
use Rattle.io_edges.specs.Came.{Came, CameAll, CameFirst}
use Rattle.grist_serve.specs.Requests.{line_entries, requests_of}
use Rattle.grist_serve.specs.Turns.{Adds, CorePass, OwnTurn, asked_in, bytes_of, entry_in, is_open_after}
use Rattle.io_edges.specs.declared.session_end.SessionEnd.{SessionEnd}
use Rattle.io_edges.specs.declared.session_end.SessionEnd.TheVariants.{Closed, ReadFault, WriteFault, TurnsSpent, Full, NoMemory}
use Rattle.io_edges.specs.Lines.{IsOneLine}
use Rattle.io_edges.specs.Reading.{LineState}
use Rattle.session_gate.specs.History.{entries_of, made_by}
use Rattle.session_gate.specs.declared.known.Made.{Made}

module _ (name : List ℕ) (left_old left_new : Option (List ℕ)) (old new : CorePass)
    (w w' : Option (List ℕ)) where
  -- the input ended, and all its lines were answered
  pub record EndsInput : Type 0 where
    pub lines : List (List ℕ)
    pub came : CameAll left_old left_new lines
    pub answers : AnswersAll old new (requests_of name lines) w w'

  -- these lines were answered, and the last of them closed the session; what is behind it was not
  -- looked at
  pub record ClosesSession : Type 0 where
    pub lines : List (List ℕ)
    pub last : List ℕ
    pub rest : List ℕ
    pub turns : ℕ
    pub came : Came left_old left_new (lines ++ last ∷ []) rest turns
    pub asks : line_entries name last ≢ []
    pub answers : AnswersClosing old new (requests_of name (lines ++ last ∷ [])) w w'

  -- the reading stopped within a line, after at least so many reads, and each line before it was
  -- answered
  pub record StopsReading (turns : ℕ) : Type 0 where
    pub lines : List (List ℕ)
    pub rest : List ℕ
    pub came : Came left_old left_new lines rest turns
    pub one_line : IsOneLine rest
    pub answers : AnswersOpen old new (requests_of name lines) w w'

  -- the lines that came were answered: all but the last before that one was asked, with all that
  -- is theirs written, and of the last one's answer a front was written
  pub record StopsWriting : Type 0 where
    pub lines : List (List ℕ)
    pub last : List ℕ
    pub before : CorePass
    pub sent : Option (List ℕ)
    pub came : CameFirst left_old left_new (lines ++ last ∷ [])
    pub answered : AnswersOpen old before (requests_of name lines) w sent
    pub answers : AnswersFront before new (line_entries name last) sent w'

  -- the lines that came were answered but for the last, for which the history was full
  pub record StopsFull : Type 0 where
    pub lines : List (List ℕ)
    pub last : List ℕ
    pub request : Entry
    pub came : CameFirst left_old left_new (lines ++ last ∷ [])
    pub asks : line_entries name last ≡ request ∷ []
    pub full : is_full (entries_of new.seen) request.request request.size ≡ true
    pub answers : AnswersOpen old new (requests_of name lines) w w'

  -- some of the lines that came were answered
  pub record StopsShort : Type 0 where
    pub lines : List (List ℕ)
    pub more : List (List ℕ)
    pub came : CameFirst left_old left_new (lines ++ more)
    pub answers : AnswersOpen old new (requests_of name lines) w w'

-- what was read and answered, by the end
abbrev pub EndsBy : SessionEnd → List ℕ → (l l' : Option (List ℕ)) → (old new : CorePass)
    → (w w' : Option (List ℕ)) → Type 0
EndsBy Closed name l l' old new w w' =
    EndsInput name l l' old new w w' ⊎ ClosesSession name l l' old new w w'
EndsBy ReadFault name l l' old new w w' = (turns : ℕ) × StopsReading name l l' old new w w' turns
EndsBy TurnsSpent name l l' old new w w' = StopsReading name l l' old new w w' 4294967296
EndsBy WriteFault name l l' old new w w' = StopsWriting name l l' old new w w'
EndsBy Full name l l' old new w w' = StopsFull name l l' old new w w'
EndsBy NoMemory name l l' old new w w' = StopsShort name l l' old new w w'

-- the entry of a connection that ended, where its session was open
abbrev pub gone_entries : Option CoreOpening → List Entry → List ℕ → List Entry
gone_entries o history name =
    if is_open_after o history name then entry_of name request.Gone 0 true ∷ [] else []

-- the end of the connection was told: others' entries `between` came, and then that of the end
pub record TellsGone (name : List ℕ) (old new : CorePass) : Type 0 where
  pub between : List (Made Entry)
  pub turns : List OwnTurn
  pub adds : Adds old new turns
  pub requests : map asked_in turns
      ≡ gone_entries old.opening (entries_of (old.seen ++ between)) name
  pub quiet : bytes_of turns ≡ []
  pub seen : new.seen
      ≡ (old.seen ++ between) ++ map (made_by old.number) (map entry_in turns)

-- a link was served: lines were read and answered, and then the end was told
pub record ServesLink (end : SessionEnd) (name : List ℕ) (l l' : Option (List ℕ))
    (old new : CorePass) (w w' : Option (List ℕ)) : Type 0 where
  pub before_end : CorePass
  pub lines : EndsBy end name l l' old before_end w w'
  pub gone : TellsGone name before_end new

-- nothing was done, since there was no memory
pub record DoesNothing (end : SessionEnd) (l l' : Option (List ℕ)) (old new : CorePass)
    (w w' : Option (List ℕ)) : Type 0 where
  pub end_is : end ≡ NoMemory
  pub left : l' ≡ l
  pub pass : new ≡ old
  pub written : w' ≡ w

-- ends whose cause lies within the engine, or in the end of the input
abbrev pub IsInner : SessionEnd → Type 0
IsInner Closed = Unit {0}
IsInner Full = Unit {0}
IsInner NoMemory = Unit {0}
IsInner end = ⊥

-- it is told that fewer bytes are left than reads are made
abbrev pub HasFewBytes : Option (List ℕ) → Type 0
HasFewBytes None = ⊥
HasFewBytes (Some bytes) = length bytes < 4294967296

-- the lines so far were answered, and the reading is behind them
pub record IsServing (name : List ℕ) (l l' : Option (List ℕ)) (old new : CorePass)
    (w w' : Option (List ℕ)) (reader : LineState) : Type 0 where
  pub lines : List (List ℕ)
  pub came : Came l l' lines reader.ahead reader.turns
  pub answers : AnswersOpen old new (requests_of name lines) w w'

-- one line was read and answered, or the link ended
abbrev pub TakesTurn : Result ⊤ SessionEnd → List ℕ → (l l' : Option (List ℕ))
    → (old new : CorePass) → (w w' : Option (List ℕ)) → LineState → Type 0
TakesTurn (Ok done) name l l' old new w w' reader = IsServing name l l' old new w w' reader
TakesTurn (Err end) name l l' old new w w' reader = EndsBy end name l l' old new w w'
