-- What a server did from the start of its core on.
use Rattle.std.specs.Prelude.{ℕ, Bool, true, false, List, Option, Result, Ok, Err}
use Rattle.doc_model.specs.declared.entry.Entry.{Entry}
use Rattle.io_edges.specs.Ports.{PortState}
use Rattle.io_edges.specs.declared.Failed.{Failed}
use Rattle.bundle_core.specs.KeptCore.{KeptCore}
use Rattle.grist_lanes.specs.Services.{Telling}
use Rattle.grist_run.specs.declared.status.Status.{Status}
use Rattle.grist_run.specs.declared.status.Status.TheVariants.{Done, WriteFault, NoMemory, PortFault}
use Rattle.grist_run.specs.Replay.{KeepsRecords}
use Rattle.grist_hosting.specs.Hosting.{Hosts}
use Rattle.users_alone.specs.UsersAlone.{SaysUsers}

-- whatever input said the users of the core
pub record HostsFrom {Conn : Type 0} (t : Telling Conn) (core : KeptCore) (status : Status)
    (h : List Entry) (written written_new : Option (List ℕ)) (faults faults_new : ℕ)
    (now : Option (List (List ℕ))) (failures_new : ℕ) (ports ports_new : List (PortState Conn))
    : Type 0 where
  pub hosts : (left left_new : Option (List ℕ)) → SaysUsers left left_new core.state.users
      → Hosts t core.state.users core.state.start left left_new h ports ports_new
      written written_new faults faults_new status
  pub keeper : KeepsRecords core.state.users core.state.start status h core.kept.opening now
      core.kept.before failures_new

-- how a server ends that opened a document: by whether its line was sent, and whether each port
-- said that no connection will come
abbrev pub end_status : Result (Unit {0}) Failed → Bool → Status
end_status (Ok sent) true = Done
end_status (Ok sent) false = PortFault
end_status (Err failed) true = WriteFault
end_status (Err failed) false = PortFault

-- the statuses that come behind the opening of a document
abbrev pub is_late : Status → Bool
is_late Done = true
is_late WriteFault = true
is_late NoMemory = true
is_late PortFault = true
is_late _ = false
