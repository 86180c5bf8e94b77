-- What one connection does that may peek: which lines it read, what was answered to them, and what
-- was written.
use Rattle.std.specs.Prelude.{◌≡◌, ◌≢◌, ◌⊎◌, ℕ, true, List, [], ◌∷◌, ◌++◌, Option, Result, Ok, Err, ⊤}
use Rattle.io_edges.specs.Lines.{IsOneLine}
use Rattle.io_edges.specs.Reading.{LineState}
use Rattle.io_edges.specs.declared.session_end.SessionEnd.{SessionEnd}
use Rattle.io_edges.specs.declared.session_end.SessionEnd.TheVariants.{Closed, ReadFault, WriteFault, TurnsSpent, Full, NoMemory}
use Rattle.doc_model.specs.declared.entry.Entry.{Entry}
use Rattle.snap_reads.specs.declared.past.Past.{Past}
use Rattle.session_gate.specs.History.{entries_of}
use Rattle.bundle_core.specs.Core.{is_full}
use Rattle.document_shot.specs.declared.past.CoreStart.{CoreStart}
use Rattle.grist_serve.specs.Answered.{asks_entry, asks_of, line_asks}
use Rattle.io_edges.specs.Came.{Came, CameAll, CameFirst}
use Rattle.grist_serve.specs.Link.{TellsGone}
use Rattle.grist_serve.specs.ShotAnswering.{AnswersAll, AnswersClosing, AnswersFront, AnswersOpen}
use Rattle.grist_serve.specs.Standing.{Rests, Standing, starts_at}
use Rattle.grist_serve.specs.Turns.{CorePass}

module _ (name : List ℕ) (left_old left_new : Option (List ℕ)) (old new : Standing)
    (w w' : Option (List ℕ)) where
  -- the input ended, and all its lines were answered
  pub record EndsInput : Type 0 where
    pub lines : List (List ℕ)
    pub came : CameAll left_old left_new lines
    pub answers : AnswersAll name old new (asks_of name lines) w w'

  -- these lines were answered, and the last of them closed the session; what is behind it was not
  -- looked at
  pub record ClosesSession : Type 0 where
    pub lines : List (List ℕ)
    pub last : List ℕ
    pub rest : List ℕ
    pub turns : ℕ
    pub came : Came left_old left_new (lines ++ last ∷ []) rest turns
    pub asks : line_asks name last ≢ []
    pub answers : AnswersClosing name old new (asks_of name (lines ++ last ∷ [])) w w'

  -- the reading stopped within a line, after at least so many reads, and each line before it was
  -- answered
  pub record StopsReading (turns : ℕ) : Type 0 where
    pub lines : List (List ℕ)
    pub rest : List ℕ
    pub came : Came left_old left_new lines rest turns
    pub one_line : IsOneLine rest
    pub answers : AnswersOpen name old new (asks_of name lines) w w'

  -- the lines that came were answered: all but the last before that one was asked, with all that
  -- is theirs written, and of the last one's answer a front was written
  pub record StopsWriting : Type 0 where
    pub lines : List (List ℕ)
    pub last : List ℕ
    pub before : Standing
    pub sent : Option (List ℕ)
    pub came : CameFirst left_old left_new (lines ++ last ∷ [])
    pub answered : AnswersOpen name old before (asks_of name lines) w sent
    pub answers : AnswersFront name before new (line_asks name last) sent w'

  -- the lines that came were answered but for the last, which asks for an entry, for which the
  -- history was full
  pub record StopsFull : Type 0 where
    pub lines : List (List ℕ)
    pub last : List ℕ
    pub request : Entry
    pub before : Standing
    pub came : CameFirst left_old left_new (lines ++ last ∷ [])
    pub asks : line_asks name last ≡ asks_entry request ∷ []
    pub full : is_full (entries_of new.pass.seen) request.request request.size ≡ true
    pub answers : AnswersOpen name old before (asks_of name lines) w w'
    pub rests : Rests before new

  -- some of the lines that came were answered, each of them whole
  pub record StopsShort : Type 0 where
    pub lines : List (List ℕ)
    pub more : List (List ℕ)
    pub before : Standing
    pub came : CameFirst left_old left_new (lines ++ more)
    pub answers : AnswersOpen name old before (asks_of name lines) w w'
    pub rests : Rests before new

-- what was read and answered, by the end
abbrev pub EndsBy : SessionEnd → List ℕ → (l l' : Option (List ℕ)) → (old new : Standing)
    → (w w' : Option (List ℕ)) → Type 0
EndsBy Closed name l l' old new w w' =
    EndsInput name l l' old new w w' ⊎ ClosesSession name l l' old new w w'
EndsBy ReadFault name l l' old new w w' = (turns : ℕ) × StopsReading name l l' old new w w' turns
EndsBy TurnsSpent name l l' old new w w' = StopsReading name l l' old new w w' 4294967296
EndsBy WriteFault name l l' old new w w' = StopsWriting name l l' old new w w'
EndsBy Full name l l' old new w w' = StopsFull name l l' old new w w'
EndsBy NoMemory name l l' old new w w' = StopsShort name l l' old new w w'

-- a link was served: lines were read and answered, the first of them before any turn, and then the
-- end was told
pub record ServesShotLink (end : SessionEnd) (name : List ℕ) (l l' : Option (List ℕ))
    (old new : CorePass) (known known' : List (Past CoreStart Entry)) (w w' : Option (List ℕ))
    : Type 0 where
  pub before_end : Standing
  pub lines : EndsBy end name l l' (starts_at old known) before_end w w'
  pub known_is : before_end.known ≡ known'
  pub gone : TellsGone name before_end.pass new

-- the lines so far were answered, and the reading is behind them
pub record IsServing (name : List ℕ) (l l' : Option (List ℕ)) (old new : Standing)
    (w w' : Option (List ℕ)) (reader : LineState) : Type 0 where
  pub lines : List (List ℕ)
  pub came : Came l l' lines reader.ahead reader.turns
  pub answers : AnswersOpen name old new (asks_of name lines) w w'

-- one line was read and answered, or the link ended
abbrev pub TakesTurn : Result ⊤ SessionEnd → List ℕ → (l l' : Option (List ℕ))
    → (old new : Standing) → (w w' : Option (List ℕ)) → LineState → Type 0
TakesTurn (Ok done) name l l' old new w w' reader = IsServing name l l' old new w w' reader
TakesTurn (Err end) name l l' old new w w' reader = EndsBy end name l l' old new w w'
