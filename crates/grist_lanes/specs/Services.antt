-- The connections that a lane serves, one after the other.
use Rattle.std.specs.Prelude.{ℕ, suc, ◌+◌, ◌≡◌, ◌≤◌, ◌⊎◌, Bool, true, false, List, [], ◌∷◌, ◌++◌, length, map, Option, IfSome, option_map, Result, Ok, Err}
use Rattle.io_edges.specs.Causes.{Rose}
use Rattle.io_edges.specs.Ports.{PortState, handed_bound}
use Rattle.io_edges.specs.declared.Failed.{Failed}
use Rattle.io_edges.specs.declared.port.Returned.{Returned}
use Rattle.io_edges.specs.declared.session_end.SessionEnd.{SessionEnd}
use Rattle.io_edges.specs.declared.session_end.SessionEnd.TheVariants.{ReadFault, WriteFault}
use Rattle.doc_model.specs.declared.entry.Entry.{Entry}
use Rattle.snap_reads.specs.declared.past.Past.{Past}
use Rattle.document_shot.specs.declared.past.CoreStart.{CoreStart}
use Rattle.grist_serve.specs.Link.{DoesNothing, HasFewBytes, IsInner}
use Rattle.grist_serve.specs.ShotLink.{ServesShotLink}
use Rattle.grist_serve.specs.Turns.{CorePass}
use Rattle.grist_lanes.specs.SessionNames.{session_name}

-- what connections tell: the bytes that are left, those that were written, and how often each way
-- failed
pub record Telling (Conn : Type 0) : Type 0 where
  pub left : Conn → Option (List ℕ)
  pub written : Conn → Option (List ℕ)
  pub read_faults : Conn → ℕ
  pub write_faults : Conn → ℕ

abbrev pub telling : {Conn : Type 0} → (Conn → Option (List ℕ)) → (Conn → Option (List ℕ))
    → (Conn → ℕ) → (Conn → ℕ) → Telling Conn
telling left written read_faults write_faults = record {
  left = left;
  written = written;
  read_faults = read_faults;
  write_faults = write_faults;
}

-- the histories that a reader of shots took or was told of, the newest first
abbrev pub Known : Type 0
Known = List (Past CoreStart Entry)

-- what clauses see of a lane: its pass, and the histories that its reader of shots knows
pub record LaneView : Type 0 where
  pub pass : CorePass
  pub known : Known

abbrev pub lane_view : CorePass → Known → LaneView
lane_view pass known = record { pass = pass; known = known }

-- a connection as it was handed out and as it came back, how it ended, and the lane before and
-- after
pub record Service (Conn : Type 0) : Type 0 where
  pub before : Conn
  pub after : Conn
  pub end : SessionEnd
  pub old : LaneView
  pub new : LaneView

module _ {Conn : Type 0} where
  abbrev pub before_of : Service Conn → Conn
  before_of s = s.before

  abbrev pub returned_of : Service Conn → Returned Conn
  returned_of s = record { conn = s.after; end = s.end }

module _ {Conn : Type 0} (t : Telling Conn) where
  -- the connection was served under that name, or there was no memory for it
  pub record IsServed (name : List ℕ) (s : Service Conn) : Type 0 where
    pub serves : ServesShotLink s.end name (t.left s.before) (t.left s.after)
        s.old.pass s.new.pass s.old.known s.new.known (t.written s.before) (t.written s.after)
        ⊎ (DoesNothing s.end (t.left s.before) (t.left s.after) s.old.pass s.new.pass
        (t.written s.before) (t.written s.after) × (s.new.known ≡ s.old.known))
    pub read_later : t.read_faults s.before ≤ t.read_faults s.after
    pub write_later : t.write_faults s.before ≤ t.write_faults s.after
    pub read_fault : s.end ≡ ReadFault → Rose (t.read_faults s.before) (t.read_faults s.after)
    pub write_fault : s.end ≡ WriteFault → Rose (t.write_faults s.before) (t.write_faults s.after)
    pub complete : (Rose (t.read_faults s.before) (t.read_faults s.after) → ⊥)
        → (Rose (t.write_faults s.before) (t.write_faults s.after) → ⊥)
        → HasFewBytes (t.left s.before) → IsInner s.end

  -- the connections of a lane from the k-th on, each by the lane as the one before it left it
  abbrev pub AreServed : ℕ → ℕ → LaneView → List (Service Conn) → LaneView → Type 0
  AreServed lane k old [] new = new ≡ old
  AreServed lane k old (s ∷ ss) new =
      IsServed (session_name lane k) s × (s.old ≡ old) × AreServed lane (suc k) s.new ss new

module _ {Conn : Type 0} where
  -- a port handed out these connections, and they came back to it
  pub record HasServed (old new : PortState Conn) (served : List (Service Conn)) : Type 0 where
    pub handed : new.handed ≡ old.handed + length served
    pub few : length served ≤ handed_bound
    pub left : old.left ≡ option_map (λ conns. map before_of served ++ conns) new.left
    pub back : new.back ≡ option_map (λ them. them ++ map returned_of served) old.back
    pub home : new.lent ≡ false
    pub later : old.faults ≤ new.faults

  -- no connection will come, where the port said so, and else the port failed
  abbrev pub StopsBy : Bool → PortState Conn → PortState Conn → Type 0
  StopsBy true old new = (new.ended ≡ true) × IfSome new.left (λ conns. conns ≡ [])
  StopsBy false old new = Rose old.faults new.faults

  -- no connection will come, or the port failed
  abbrev pub HasStopped : PortState Conn → PortState Conn → Type 0
  HasStopped old new = StopsBy true old new ⊎ StopsBy false old new

module _ {Conn : Type 0} (t : Telling Conn) (lane : ℕ) (port_old port_new : PortState Conn)
    (old new : LaneView) where
  -- the connections of a lane so far
  pub record ServesSome (number : ℕ) : Type 0 where
    pub served : List (Service Conn)
    pub passes : AreServed t lane 1 old served new
    pub port : HasServed port_old port_new served
    pub next : number ≡ suc (length served)

  -- all connections of a lane
  pub record ServesLane : Type 0 where
    pub served : List (Service Conn)
    pub passes : AreServed t lane 1 old served new
    pub port : HasServed port_old port_new served
    pub stopped : HasStopped port_old port_new

  -- the connection of that number was served
  pub record ServesOne (number : ℕ) : Type 0 where
    pub service : Service Conn
    pub served : IsServed t (session_name lane number) service
    pub from : service.old ≡ old
    pub to : service.new ≡ new
    pub port : HasServed port_old port_new (service ∷ [])
    pub few : port_new.handed ≤ handed_bound

  -- none came, since none will or since the port failed
  pub record ServesNone (said : Bool) : Type 0 where
    pub none : HasServed port_old port_new []
    pub stopped : StopsBy said port_old port_new
    pub same : new ≡ old

  -- whether the next connection was served
  abbrev pub ServesNext : Result Bool Failed → ℕ → Type 0
  ServesNext (Ok true) number = ServesOne number
  ServesNext (Ok false) number = ServesNone true
  ServesNext (Err failed) number = ServesNone false
