-- What the whole history has of each connection of a lane.
use Rattle.std.specs.Prelude.{ℕ, suc, ◌≡◌, ◌≤◌, ◌++◌, List, [], ◌∷◌, length, Option, Some}
use Rattle.std.specs.Io.KnownBytes.{Appends}
use Rattle.std.specs.List.{AllByRecursion}
use Rattle.doc_model.specs.declared.entry.Entry.{Entry}
use Rattle.io_edges.specs.Sending.{SendsFront}
use Rattle.io_edges.specs.Ports.{PortState}
use Rattle.io_edges.specs.declared.session_end.SessionEnd.{SessionEnd}
use Rattle.io_edges.specs.declared.session_end.SessionEnd.TheVariants.{WriteFault}
use Rattle.session_gate.specs.Call.{own_calls}
use Rattle.session_gate.specs.History.{entries_of}
use Rattle.snap_reads.specs.Views.{TakesOn}
use Rattle.snap_reads.specs.declared.past.Past.{Past}
use Rattle.bundle_core.specs.State.{opening}
use Rattle.bundle_core.specs.Told.{out}
use Rattle.bundle_core.specs.declared.machine.CoreOpening.{CoreOpening}
use Rattle.document_shot.specs.declared.past.CoreStart.{CoreStart}
use Rattle.grist_serve.specs.Answered.{Answered, bytes_given, turns_among}
use Rattle.grist_serve.specs.Standing.{Goes, Standing, starts_at}
use Rattle.grist_serve.specs.Turns.{bytes_of}
use Rattle.grist_lanes.specs.Places.{AtEach}
use Rattle.grist_lanes.specs.SessionNames.{session_name}
use Rattle.grist_lanes.specs.Services.{HasServed, HasStopped, IsServed, Known, Service, Telling}
use Rattle.grist_lanes.specs.Sessions.{IsOfLane, of_session}

-- a history begins so
pub record Begins (first whole : List Entry) : Type 0 where
  pub rest : List Entry
  pub split : whole ≡ first ++ rest

-- these bytes were written, or a front of them where writing failed
abbrev pub Writes : SessionEnd → List ℕ → Option (List ℕ) → Option (List ℕ) → Type 0
Writes WriteFault bytes w w' = SendsFront bytes w w'
Writes end bytes w w' = Appends w w' bytes

-- the history of a core that began so, when these were its entries
abbrev pub began_of : CoreOpening → List Entry → Past CoreStart Entry
began_of o entries = record {
  opening = record { users = o.users; document = o.document };
  entries = entries;
}

module _ {Conn : Type 0} (t : Telling Conn) (o : CoreOpening) (history : List Entry) where
  -- The pass is one over that core, and what it had seen when the connection ended is how the
  -- history begins; the session's entries in the history are those of this connection. What was
  -- answered to its lines are turns, which gave what the history gives the session, and peeks in
  -- their places among them; and what it all gave was written.
  -- A peek is answered what the session sees after a history that continues all that the lane's
  -- reader of shots took before, and has no fewer entries than the pass had seen by its last turn
  -- (`Goes`). Whether that history is a beginning of this one is not said
  pub record IsInHistory (name : List ℕ) (s : Service Conn) : Type 0 where
    pub opened : s.old.pass.opening ≡ Some o
    pub seen : Begins (entries_of s.new.pass.seen) history
    pub entries : own_calls s.new.pass ≡ own_calls s.old.pass ++ of_session name history
    pub answered : List Answered
    pub last : Standing
    pub goes : Goes name (starts_at s.old.pass s.old.known) answered last
    pub known : TakesOn last.known s.new.known
    pub turns : bytes_of (turns_among answered) ≡ out o.users (opening o.document) name history
    pub written : Writes s.end (bytes_given answered) (t.written s.before) (t.written s.after)

  -- so it is of the connections of a lane from the k-th on, the first of which found these
  -- histories known, and each other one those that the one before it left
  abbrev pub AreInHistory : ℕ → ℕ → Known → List (Service Conn) → Type 0
  AreInHistory lane k known [] = Unit {0}
  AreInHistory lane k known (s ∷ ss) = IsServed t (session_name lane k) s
      × IsInHistory (session_name lane k) s × (s.old.known ≡ known)
      × AreInHistory lane (suc k) s.new.known ss

module _ {Conn : Type 0} (t : Telling Conn) (o : CoreOpening) (before after : List Entry) where
  -- the connections that a port handed out, each served as the history tells, until none came or
  -- the port failed; the lane's reader of shots began with the history before all of them
  pub record ServesPort (lane : ℕ) (old new : PortState Conn) : Type 0 where
    pub served : List (Service Conn)
    pub handed : HasServed old new served
    pub stopped : HasStopped old new
    pub each : AreInHistory t o after lane 1 (began_of o before ∷ []) served

-- the entry is of a session of one of so many lanes
pub record IsOfOneOf (lanes : ℕ) (e : Entry) : Type 0 where
  pub lane : ℕ
  pub some : suc lane ≤ lanes
  pub of : IsOfLane (suc lane) e

-- a history, and behind it entries of sessions of these lanes alone
pub record AddsOfLanes (lanes : ℕ) (before after : List Entry) : Type 0 where
  pub more : List Entry
  pub whole : after ≡ before ++ more
  pub each : AllByRecursion (IsOfOneOf lanes) more

-- All ports were served over this history: behind what there was it has entries of sessions of the
-- lanes alone, and each port's connections as they were served
module _ {Conn : Type 0} (t : Telling Conn) (o : CoreOpening) where
  pub record ServesLanes (before after : List Entry) (ports_old ports_new : List (PortState Conn))
      : Type 0 where
    pub adds : AddsOfLanes (length ports_old) before after
    pub count : length ports_new ≡ length ports_old
    pub each : AtEach (λ place old new. ServesPort t o before after (suc place) old new)
        ports_old ports_new
