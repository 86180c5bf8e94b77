-- What a server does: the users that it hears, the connections that it serves, and what it writes.
use Rattle.std.specs.Prelude.{ℕ, ◌+◌, ◌≡◌, Bool, true, false, ◌==◌, List, [], length, Option, Some, None}
use Rattle.std.specs.Io.KnownBytes.{Appends, Keeps}
use Rattle.doc_model.specs.Document.{Document}
use Rattle.doc_model.specs.declared.entry.Entry.{Entry}
use Rattle.doc_model.specs.declared.user.User.{User}
use Rattle.io_edges.specs.Causes.{Rose}
use Rattle.io_edges.specs.Ports.{PortState}
use Rattle.io_edges.specs.Sending.{SendsFront}
use Rattle.bundle_core.specs.State.{opening, records_kept}
use Rattle.bundle_core.specs.declared.machine.CoreOpening.{CoreOpening}
use Rattle.grist_lanes.specs.Handed.{EndedBy, all_handed}
use Rattle.grist_lanes.specs.InHistory.{ServesLanes}
use Rattle.grist_lanes.specs.Services.{Telling}
use Rattle.run_words.specs.declared.plans.Plan.{Plan}
use Rattle.run_words.specs.declared.plans.Plan.TheVariants.{Audit, Gen, Replay, Serve}
use Rattle.grist_run.specs.declared.status.Status.{Status}
use Rattle.grist_run.specs.declared.status.Status.TheVariants.{Done, Usage, BadUsers, ReadFault, WriteFault, StoreFault, NoMemory, BadStore, TurnsSpent, PortFault, HistoryFull}
use Rattle.grist_run.specs.Replay.{KeepsRecords}
use Rattle.grist_hosting.specs.Summary.{summary_line}
use Rattle.users_alone.specs.UsersAlone.{SaysUsers, StopsAlone}

-- a server is asked for
abbrev pub is_serve : Option Plan → Bool
is_serve None = false
is_serve (Some (Replay doc watch)) = false
is_serve (Some (Serve lanes port conns doc watch)) = true
is_serve (Some (Gen n)) = false
is_serve (Some (Audit doc)) = false

-- so many lanes are asked for
abbrev pub asks_lanes : ℕ → Option ℕ → Bool
asks_lanes n None = false
asks_lanes n (Some lanes) = lanes == n

-- what a run over so many ports does: a replay, a generated run, a server of as many lanes, or an
-- audit
abbrev pub is_done_over : ℕ → Option Plan → Bool
is_done_over ports None = false
is_done_over ports (Some (Replay doc watch)) = true
is_done_over ports (Some (Serve lanes port conns doc watch)) = lanes == ports
is_done_over ports (Some (Gen n)) = true
is_done_over ports (Some (Audit doc)) = true

module _ {Conn : Type 0} (t : Telling Conn) (users : List User) (start : Document)
    (left left_new : Option (List ℕ)) (h : List Entry) (ports ports_new : List (PortState Conn))
  where
    -- the whole input said the users, and the connections of all ports were served: what each of
    -- them asked for and was given is what the history has of it
    pub record HasHosted (said : Bool) (connections : ℕ) : Type 0 where
      pub input : SaysUsers left left_new users
      pub began : CoreOpening
      pub users_are : began.users ≡ users
      pub start_is : began.document ≡ start
      pub lanes : ServesLanes t began [] h ports ports_new
      pub count : all_handed ports_new ≡ all_handed ports + connections
      pub ended : EndedBy said ports ports_new

    -- the line of this history
    abbrev pub line_of : ℕ → List ℕ
    line_of connections =
        summary_line (records_kept users (opening start) h) connections (length h)

    module _ (w w' : Option (List ℕ)) (faults faults' : ℕ) where
      -- no port was asked for a connection, and nothing was written
      pub record HostsNothing : Type 0 where
        pub none : h ≡ []
        pub ports_are : ports_new ≡ ports
        pub written : Appends w w' []

      -- each port said that no connection will come, and the line was written
      pub record HostsAll : Type 0 where
        pub connections : ℕ
        pub hosted : HasHosted true connections
        pub written : Appends w w' (line_of connections)

      -- the same, and a front of the line was written
      pub record HostsUntold : Type 0 where
        pub connections : ℕ
        pub hosted : HasHosted true connections
        pub written : SendsFront (line_of connections) w w'

      -- a port failed; the other lanes ended too, and the line was written unless the sink failed
      pub record HostsShort : Type 0 where
        pub connections : ℕ
        pub hosted : HasHosted false connections
        pub written : SendsFront (line_of connections) w w'
        pub whole : (Rose faults faults' → ⊥)
            → Appends w w' (line_of connections)

      -- what a server did, by how it ended
      abbrev pub Hosts : Status → Type 0
      Hosts Done = HostsAll
      Hosts Usage = HostsNothing × Keeps left left_new
      Hosts (BadUsers number) = HostsNothing × StopsAlone (BadUsers number) left left_new
      Hosts ReadFault = HostsNothing × StopsAlone ReadFault left left_new
      Hosts WriteFault = HostsUntold
      Hosts StoreFault = HostsNothing × SaysUsers left left_new users
      Hosts NoMemory = HostsNothing
      Hosts (BadStore number) = HostsNothing × SaysUsers left left_new users
      Hosts TurnsSpent = HostsNothing × StopsAlone TurnsSpent left left_new
      Hosts PortFault = HostsShort
      Hosts HistoryFull = ⊥

-- A whole run of a server: the users that its lines say, the document that its keeper's records
-- lead to, and what became of the keeper
pub record IsHosting {Conn : Type 0} (t : Telling Conn) (status : Status)
    (left left_new : Option (List ℕ)) (h : List Entry) (written written_new : Option (List ℕ))
    (faults faults_new : ℕ) (told now : Option (List (List ℕ))) (failures failures_new : ℕ)
    (ports ports_new : List (PortState Conn)) : Type 0 where
  pub users : List User
  pub start : Document
  pub hosts : Hosts t users start left left_new h ports ports_new written written_new faults
      faults_new status
  pub keeper : KeepsRecords users start status h told now failures failures_new
