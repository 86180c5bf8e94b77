-- What a note and a mark change.
use Rattle.std.specs.Prelude.{ℕ, ◌+◌, ◌<◌, ◌≤◌, ◌↔◌, ◌≡◌, ◌≢◌, List, Ok, Err, IsOk, IsSome}
use Rattle.doc_model.specs.declared.action.Step.{Step}
use Rattle.undo_bundles.specs.declared.log.LogFault.TheVariants.{NoSuchBundle, AlreadyUndone}
use Rattle.undo_bundles.specs.BundleLog.{Log, IsLog, count, kept_at, noted, marked, undo_of}

-- exactly the last 100 bundles are found, so a bundle from 100 notes ago is not
abbrev pub KeptLaw : Type 0
KeptLaw = (log : Log) (number : ℕ) → IsLog log
    → IsSome (kept_at log number)
    ↔ ((0 < number) × (number ≤ count log) × (count log < number + 100))

-- what a note of these steps leaves
pub record IsNoted (inverse : List Step) (old new : Log) : Type 0 where
  pub whole : IsLog new
  pub counted : count new ≡ count old + 1
  pub own : undo_of new (count old + 1) ≡ Ok inverse
  pub before : (number : ℕ) → number ≤ count old → count old + 1 < number + 100
      → undo_of new number ≡ undo_of old number
  pub gone : (number : ℕ) → number + 100 ≤ count old + 1 → undo_of new number ≡ Err NoSuchBundle

abbrev pub NoteLaw : Type 0
NoteLaw = (log : Log) (inverse : List Step) → IsLog log → IsNoted inverse log (noted inverse log)

-- what a mark of that bundle leaves
pub record IsMarked (number : ℕ) (old new : Log) : Type 0 where
  pub whole : IsLog new
  pub counted : count new ≡ count old
  pub own : undo_of new number ≡ Err AlreadyUndone
  pub others : (other : ℕ) → other ≢ number → undo_of new other ≡ undo_of old other

abbrev pub MarkLaw : Type 0
MarkLaw = (log : Log) (number : ℕ) → IsLog log → IsOk (undo_of log number)
    → IsMarked number log (marked number log)
