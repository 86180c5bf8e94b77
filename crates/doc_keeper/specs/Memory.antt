-- What the keepers in memory tell.
use Rattle.std.specs.Prelude.{ℕ, List}
use Rattle.doc_keeper.specs.declared.memory_keeper.MemKeeper.{MemKeeper}
use Rattle.doc_keeper.specs.declared.memory_keeper.SureKeeper.{SureKeeper}

-- the records that were kept
abbrev pub records_of : MemKeeper → List (List ℕ)
records_of k = k.records.items

-- how often the keeper has failed
abbrev pub keep_faults : MemKeeper → ℕ
keep_faults k = k.faults

-- how often the keeper was called
abbrev pub keep_calls : MemKeeper → ℕ
keep_calls k = k.calls

-- the calls that are to fail
abbrev pub failing_keeps : MemKeeper → List ℕ
failing_keeps k = k.failing.items

-- the records of a keeper that never fails
abbrev pub sure_records_of : SureKeeper → List (List ℕ)
sure_records_of k = k.records.items
