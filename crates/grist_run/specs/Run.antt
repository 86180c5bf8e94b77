-- What a run does: which lines it read, the history that they led to, and what it wrote.
use Rattle.std.specs.Prelude.{◌≡◌, ℕ, List, [], ◌++◌, Option}
use Rattle.std.specs.Io.KnownBytes.{Appends, Keeps}
use Rattle.doc_model.specs.Document.{Document}
use Rattle.doc_model.specs.declared.entry.Entry.{Entry}
use Rattle.doc_model.specs.declared.user.User.{User}
use Rattle.io_edges.specs.Sending.{SendsFront}
use Rattle.io_edges.specs.Lines.{IsOneLine}
use Rattle.io_edges.specs.Came.{Came, CameAll, CameFirst}
use Rattle.grist_run.specs.declared.status.Status.{Status}
use Rattle.grist_run.specs.declared.status.Status.TheVariants.{Done, Usage, BadUsers, ReadFault, WriteFault, StoreFault, NoMemory, BadStore, TurnsSpent, PortFault, HistoryFull}
use Rattle.grist_run.specs.Admission.{admitted, all_asked, takes_all, stops_at}
use Rattle.grist_run.specs.Script.{entries_of}
use Rattle.grist_run.specs.Sending.{frames_of}
use Rattle.grist_run.specs.UserLines.{bad_user, script, script_of}

-- the lines said these users, and what they asked for became the history; whether an entry was
-- kept nobody asks for
pub record Serves (lines : List (List ℕ)) (users : List User) (history : List Entry) : Type 0 where
  pub requests : List (List ℕ)
  pub said : script_of lines ≡ script users requests
  pub took : admitted [] (entries_of requests) ≡ takes_all (all_asked history)

-- Below, `whole` says of bytes that they were written, and `front` that a front of them was.
module _ (whole front : List ℕ → Type 0) (users : List User) (start : Document)
    (left_old left_new : Option (List ℕ)) (history : List Entry) where
  -- the whole input was read and answered
  pub record EndsWell : Type 0 where
    pub lines : List (List ℕ)
    pub came : CameAll left_old left_new lines
    pub serves : Serves lines users history
    pub written : whole (frames_of users start history)

  -- the reading stopped within a line, after at least so many reads, and each line before it was
  -- answered
  pub record StopsReading (turns : ℕ) : Type 0 where
    pub lines : List (List ℕ)
    pub rest : List ℕ
    pub came : Came left_old left_new lines rest turns
    pub one_line : IsOneLine rest
    pub serves : Serves lines users history
    pub written : whole (frames_of users start history)

  -- the last line that came is the first bad user line, and it has this number
  pub record RefusesUser (number : ℕ) : Type 0 where
    pub lines : List (List ℕ)
    pub came : CameFirst left_old left_new lines
    pub bad : script_of lines ≡ bad_user number
    pub none : history ≡ []
    pub written : whole []

  -- the history is full for the last line that came
  pub record StopsFull : Type 0 where
    pub lines : List (List ℕ)
    pub requests : List (List ℕ)
    pub came : CameFirst left_old left_new lines
    pub said : script_of lines ≡ script users requests
    pub stopped : admitted [] (entries_of requests) ≡ stops_at (all_asked history)
    pub written : whole (frames_of users start history)

  -- the history is a front of what the lines ask for, and of its frames a front was written
  pub record StopsShort : Type 0 where
    pub lines : List (List ℕ)
    pub requests : List (List ℕ)
    pub more : List Entry
    pub came : CameFirst left_old left_new lines
    pub said : script_of lines ≡ script users requests
    pub entries : entries_of requests ≡ all_asked history ++ more
    pub written : front (frames_of users start history)

  -- the users ended, and no document was opened
  pub record StopsUnopened : Type 0 where
    pub lines : List (List ℕ)
    pub requests : List (List ℕ)
    pub came : CameFirst left_old left_new lines
    pub said : script_of lines ≡ script users requests
    pub none : history ≡ []
    pub written : whole []

  -- nothing was done
  pub record DoesNothing : Type 0 where
    pub left : Keeps left_old left_new
    pub none : history ≡ []
    pub written : whole []

-- what a run of these users over this document did, by how it ended
abbrev pub Runs : (whole front : List ℕ → Type 0) → List User → Document → Status
    → Option (List ℕ) → Option (List ℕ) → List Entry → Type 0
Runs w f users start Done l l' h = EndsWell w f users start l l' h
Runs w f users start Usage l l' h = DoesNothing w f users start l l' h
Runs w f users start (BadUsers number) l l' h = RefusesUser w f users start l l' h number
Runs w f users start ReadFault l l' h = (turns : ℕ) × StopsReading w f users start l l' h turns
Runs w f users start WriteFault l l' h = StopsShort w f users start l l' h
Runs w f users start StoreFault l l' h = StopsUnopened w f users start l l' h
Runs w f users start NoMemory l l' h = StopsShort w f users start l l' h
Runs w f users start (BadStore number) l l' h = StopsUnopened w f users start l l' h
Runs w f users start TurnsSpent l l' h = StopsReading w f users start l l' h 4294967296
Runs w f users start PortFault l l' h = ⊥
Runs w f users start HistoryFull l l' h = StopsFull w f users start l l' h

-- what a run did with a sink that held these bytes before it and holds those after it
abbrev pub IsRun : List User → Document → Status → Option (List ℕ) → Option (List ℕ) → List Entry
    → Option (List ℕ) → Option (List ℕ) → Type 0
IsRun users start status l l' h w w' =
    Runs (Appends w w') (λ b. SendsFront b w w') users start status l l' h
