-- The statuses of the program.
use Rattle.std.specs.Prelude.{ℕ, Bool, true, false}
use Rattle.grist_run.specs.declared.status.Status.{Status}
use Rattle.grist_run.specs.declared.status.Status.TheVariants.{Done, Usage, BadUsers, ReadFault, WriteFault, StoreFault, NoMemory, BadStore, TurnsSpent, PortFault, HistoryFull}

-- the status with which the program ends
abbrev pub status_code : Status → ℕ
status_code Done = 0
status_code Usage = 2
status_code (BadUsers line) = 3
status_code ReadFault = 4
status_code WriteFault = 5
status_code StoreFault = 6
status_code NoMemory = 7
status_code (BadStore number) = 8
status_code TurnsSpent = 9
status_code PortFault = 10
status_code HistoryFull = 11

-- where the run ended: at a user line, from 1, or a record, from 0; else 0
abbrev pub place_of : Status → ℕ
place_of (BadUsers line) = line
place_of (BadStore number) = number
place_of _ = 0

-- the statuses that come before lines are answered
abbrev pub is_early : Status → Bool
is_early Usage = true
is_early (BadUsers line) = true
is_early StoreFault = true
is_early (BadStore number) = true
is_early _ = false
