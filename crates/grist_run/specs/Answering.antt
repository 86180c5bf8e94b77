-- What the answer to one line is.
use Rattle.std.specs.Prelude.{◌≡◌, ◌⊎◌, ℕ, List, Option, Result, Ok, Err, ⊤}
use Rattle.doc_model.specs.Document.{Document}
use Rattle.doc_model.specs.declared.entry.Entry.{Entry}
use Rattle.doc_model.specs.declared.user.User.{User}
use Rattle.grist_run.specs.declared.status.Status.{Status}
use Rattle.grist_run.specs.declared.status.Status.TheVariants.{HistoryFull, WriteFault, NoMemory}
use Rattle.grist_run.specs.Admission.{admitted, all_asked, takes_all, stops_at}
use Rattle.grist_run.specs.Sending.{Adds, AddsPart}

-- the entries found room, and their frames were sent
pub record AnswersAll (users : List User) (start : Document) (old new entries : List Entry)
    (waiting_old waiting_new : List ℕ) (written_old written_new : Option (List ℕ)) : Type 0 where
  pub took : admitted (all_asked old) entries ≡ takes_all (all_asked new)
  pub adds : Adds users start old new waiting_old waiting_new written_old written_new

-- the history is full for them, and nothing was done
pub record FindsFull (old new entries : List Entry) (waiting_old waiting_new : List ℕ)
    (written_old written_new : Option (List ℕ)) : Type 0 where
  pub full : admitted (all_asked old) entries ≡ stops_at (all_asked old)
  pub same : new ≡ old
  pub waiting : waiting_new ≡ waiting_old
  pub written : written_new ≡ written_old

-- the entries were not taken, or they were and not all of their frames were sent
pub record AnswersPart (users : List User) (start : Document) (old new entries : List Entry)
    (waiting_old waiting_new : List ℕ) (written_old written_new : Option (List ℕ)) : Type 0 where
  pub took : (new ≡ old) ⊎ (admitted (all_asked old) entries ≡ takes_all (all_asked new))
  pub adds : AddsPart users start old new waiting_old waiting_new written_old written_new

-- each way in which a line is answered
abbrev pub Answers : Result ⊤ Status → List User → Document → List Entry → List Entry → List Entry
    → List ℕ → List ℕ → Option (List ℕ) → Option (List ℕ) → Type 0
Answers (Ok done) users start h k es v v' w w' = AnswersAll users start h k es v v' w w'
Answers (Err HistoryFull) users start h k es v v' w w' = FindsFull h k es v v' w w'
Answers (Err WriteFault) users start h k es v v' w w' = AnswersPart users start h k es v v' w w'
Answers (Err NoMemory) users start h k es v v' w w' = AnswersPart users start h k es v v' w w'
Answers (Err status) users start h k es v v' w w' = ⊥
