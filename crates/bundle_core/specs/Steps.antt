-- What a step answers.
use Rattle.std.specs.Prelude.{ℕ, ◌≡◌, true, List}
use Rattle.doc_model.specs.declared.request.Request.{Request}
use Rattle.bundle_core.specs.declared.history_core.Answer.{Answer}
use Rattle.bundle_core.specs.declared.history_core.Answer.TheVariants as answer
use Rattle.bundle_core.specs.Core.{is_full}
use Rattle.bundle_core.specs.KeptCore.{IsTaken, KeptCore}

-- the history is full, and nothing changed
pub record IsRefused (old new : KeptCore) (r : Request) (size : ℕ) : Type 0 where
  pub full : is_full old.state.history r size ≡ true
  pub same : new ≡ old

-- the answer to a request of a session
abbrev pub IsAnswer : KeptCore → KeptCore → List ℕ → Request → ℕ → Answer → Type 0
IsAnswer old new session r size (answer.Lines lines) = IsTaken old new session r size lines
IsAnswer old new session r size answer.Full = IsRefused old new r size
