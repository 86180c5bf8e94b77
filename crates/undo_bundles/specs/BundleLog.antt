-- The bundles of a session, of which the last 100 are kept.
use Rattle.std.specs.Prelude.{ℕ, zero, suc, ◌+◌, ◌-◌, ◌<◌, ◌≤◌, true, false, cond, nat_lt, drop, List, [], ◌∷◌, ◌++◌, length, Option, Some, None, Result, Ok, Err, slice_get}
use Rattle.doc_model.specs.declared.action.Step.{Step}
use Rattle.undo_bundles.specs.declared.log.LogFault.{LogFault}
use Rattle.undo_bundles.specs.declared.log.LogFault.TheVariants.{NoSuchBundle, AlreadyUndone}
use Rattle.undo_bundles.specs.declared.log.NotedBundle.{NotedBundle}

-- how many bundles were dropped, and those that are kept, oldest first
pub record Log : Type 0 where
  pub dropped : ℕ
  pub kept : List NotedBundle

-- a log, and for how many notes there is room
pub record LogState : Type 0 where
  pub log : Log
  pub room : ℕ

abbrev pub empty_log : Log
empty_log = record { dropped = 0; kept = [] }

-- how many bundles were noted, which is the number of the last one
abbrev pub count : Log → ℕ
count log = log.dropped + length log.kept

-- at most 100 are kept, and fewer only where none was dropped
abbrev pub IsLog : Log → Type 0
IsLog log = (length log.kept ≤ 100) × (0 < log.dropped → 100 ≤ length log.kept)

-- the log without its oldest bundle, where 100 are kept
abbrev pub with_space : Log → Log
with_space log = cond (nat_lt (length log.kept) 100)
    log
    (record { dropped = log.dropped + 1; kept = drop 1 log.kept })

-- the log with one more bundle
abbrev pub with_bundle : NotedBundle → Log → Log
with_bundle bundle log = record { dropped = log.dropped; kept = log.kept ++ bundle ∷ [] }

-- the log after a note
abbrev pub noted : List Step → Log → Log
noted inverse log = with_bundle (record { inverse = inverse; undone = false }) (with_space log)

-- the bundle at a place, counted from 1
abbrev pub bundle_at : List NotedBundle → ℕ → Option NotedBundle
bundle_at bundles zero = None
bundle_at bundles (suc i) = slice_get bundles i

-- the bundle of a number, where it is kept
abbrev pub kept_at : Log → ℕ → Option NotedBundle
kept_at log number = bundle_at log.kept (number - log.dropped)

-- the steps that take a bundle back, where it was not undone
abbrev pub undo_of_bundle : Option NotedBundle → Result (List Step) LogFault
undo_of_bundle None = Err NoSuchBundle
undo_of_bundle (Some bundle) = cond bundle.undone (Err AlreadyUndone) (Ok bundle.inverse)

-- the steps that take back the bundle of a number
abbrev pub undo_of : Log → ℕ → Result (List Step) LogFault
undo_of log number = undo_of_bundle (kept_at log number)

-- a bundle that was undone, of which no steps are kept
abbrev pub undone_bundle : NotedBundle
undone_bundle = record { inverse = []; undone = true }

-- the bundles, where the one at an index is undone
abbrev pub undone_at : ℕ → List NotedBundle → List NotedBundle
undone_at i [] = []
undone_at zero (bundle ∷ bundles) = undone_bundle ∷ bundles
undone_at (suc i) (bundle ∷ bundles) = bundle ∷ undone_at i bundles

-- the log, where the bundle of a number that it keeps is undone
abbrev pub marked : ℕ → Log → Log
marked number log = record {
  dropped = log.dropped;
  kept = undone_at (number - log.dropped - 1) log.kept;
}
