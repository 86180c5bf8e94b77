-- How the lines behind the users are answered.
use Rattle.std.specs.Prelude.{◌≡◌, ℕ, ◌+◌, List, [], Option, Result, Ok, Err}
use Rattle.doc_model.specs.Document.{Document}
use Rattle.doc_model.specs.declared.entry.Entry.{Entry}
use Rattle.doc_model.specs.declared.user.User.{User}
use Rattle.io_edges.specs.Reading.{LineState, work_left}
use Rattle.io_edges.specs.Sending.{Sends}
use Rattle.io_edges.specs.declared.line_reader.NextLine.{NextLine}
use Rattle.io_edges.specs.declared.line_reader.NextLine.TheVariants as next
use Rattle.bundle_core.specs.Core.{CoreState}
use Rattle.grist_run.specs.declared.status.Status.{Status}
use Rattle.grist_run.specs.declared.status.Status.TheVariants.{Usage, BadUsers, StoreFault, BadStore}
use Rattle.grist_run.specs.Admission.{admitted, all_asked, takes_all}
use Rattle.grist_run.specs.Hearing.{IsAt}
use Rattle.grist_run.specs.Run.{Runs}
use Rattle.grist_run.specs.Script.{entries_of}
use Rattle.grist_run.specs.Sending.{frames_of, SendsPart}

-- the reading of a run is at this line, what the lines before it ask for is the history, and its
-- frames were sent, of which these bytes wait
pub record IsServing (next : NextLine) (left_old left_new : Option (List ℕ)) (core : CoreState)
    (waiting : List ℕ) (written_old written_new : Option (List ℕ))
    (reader : LineState) : Type 0 where
  pub requests : List (List ℕ)
  pub line : IsAt next left_old left_new core.users requests reader
  pub took : admitted [] (entries_of requests) ≡ takes_all (all_asked core.history)
  pub sent : Sends (frames_of core.users core.start core.history) waiting written_old
      written_new

-- a run of these users over this document ended while lines were answered, and these bytes wait
abbrev pub EndsServing : List User → Document → Status → Option (List ℕ) → Option (List ℕ)
    → List Entry → List ℕ → Option (List ℕ) → Option (List ℕ) → Type 0
EndsServing users start Usage l l' h v w w' = ⊥
EndsServing users start (BadUsers number) l l' h v w w' = ⊥
EndsServing users start StoreFault l l' h v w w' = ⊥
EndsServing users start (BadStore number) l l' h v w w' = ⊥
EndsServing users start status l l' h v w w' =
    Runs (λ b. Sends b v w w') (λ b. SendsPart b v w w') users start status l l' h

-- one line was answered and the next was read, or the run ended
abbrev pub TakesTurn : List User → Document → Result NextLine Status → Option (List ℕ)
    → Option (List ℕ) → CoreState → List ℕ → Option (List ℕ) → Option (List ℕ) → LineState → Type 0
TakesTurn users start (Ok n) l l' core v w w' reader = IsServing n l l' core v w w' reader
TakesTurn users start (Err status) l l' core v w w' reader =
    EndsServing users start status l l' core.history v w w'

-- what may still be done: it falls with each turn
abbrev pub turns_left : NextLine → LineState → ℕ
turns_left next.Line reader = work_left reader + 2
turns_left next.Last reader = 1
turns_left next.End reader = 0
