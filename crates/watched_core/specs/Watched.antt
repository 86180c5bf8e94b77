-- A core with its watchers, and what a step tells them.
use Rattle.std.specs.Prelude.{◌≡◌, ℕ, Bool, List}
use Rattle.doc_model.specs.declared.request.Request.{Request}
use Rattle.bundle_core.specs.declared.history_core.Answer.{Answer}
use Rattle.bundle_core.specs.declared.history_core.Answer.TheVariants as answer
use Rattle.bundle_core.specs.Core.{entry_of, with_entry}
use Rattle.bundle_core.specs.KeptCore.{KeptCore, state_now}
use Rattle.bundle_core.specs.MadeLines.{made_line}
use Rattle.watch_box.specs.Watching.{Tells, WatcherState}

-- a core, what each of its watchers tells, and how many were attached to it so far
pub record WatchedState : Type 0 where
  pub core : KeptCore
  pub watching : List WatcherState
  pub attached : ℕ

-- an entry of the request was added, and each watcher was told the line that it made for the
-- watcher's session
pub record TellsLines (old new : KeptCore) (session : List ℕ) (r : Request) (size : ℕ)
    (watching watching' : List WatcherState) : Type 0 where
  pub kept : Bool
  pub added : new.state ≡ with_entry old.state (entry_of session r size kept)
  pub told : Tells (made_line old.state.users (state_now old.state) (entry_of session r size kept))
      watching watching'

-- what the watchers were told as this was answered
abbrev pub IsTold : KeptCore → KeptCore → List ℕ → Request → ℕ → List WatcherState
    → List WatcherState → Answer → Type 0
IsTold old new session r size watching watching' (answer.Lines lines) =
    TellsLines old new session r size watching watching'
IsTold old new session r size watching watching' answer.Full = watching' ≡ watching
