-- What a server did, put together from its parts.
use Rattle.std.proofs.Common.{◌≡◌, ℕ, ◌+◌, Bool, true, false, List, [], length, Option, Result, Ok, Err, OnOk, OnErr, refl, sym, ap, subst, append-nil}
use Rattle.std.specs.Io.KnownBytes.{Appends}
use Rattle.doc_model.specs.Document.{Document}
use Rattle.doc_model.specs.declared.entry.Entry.{Entry}
use Rattle.doc_model.specs.declared.user.User.{User}
use Rattle.io_edges.specs.declared.Failed.{Failed}
use Rattle.io_edges.specs.Causes.{Rose}
use Rattle.io_edges.specs.Ports.{PortState}
use Rattle.io_edges.specs.Sending.{SendsFront}
use Rattle.bundle_core.specs.KeptCore.{KeptCore}
use Rattle.bundle_core.specs.Machine.{opening_of}
use Rattle.bundle_core.specs.State.{opening, records_kept}
use Rattle.grist_lanes.specs.Handed.{EndedBy, SomeFailed, all_handed}
use Rattle.grist_lanes.specs.InHistory.{ServesLanes}
use Rattle.grist_lanes.specs.Services.{Telling}
use Rattle.grist_run.specs.declared.status.Status.{Status}
use Rattle.grist_run.specs.declared.status.Status.TheVariants.{PortFault, WriteFault}
use Rattle.grist_run.specs.Staying.{StaysStarted}
use Rattle.grist_run.specs.Words.{is_early}
use Rattle.grist_hosting.specs.Hosting.{HasHosted, Hosts}
use Rattle.grist_hosting.specs.HostingParts.{end_status, is_late}
use Rattle.grist_hosting.specs.Summary.{summary_line}
use Rattle.users_alone.specs.UsersAlone.{SaysUsers}

-- all of it is a front of it
front_all : (b : List ℕ) (x y : Option (List ℕ)) → Appends x y b → SendsFront b x y
front_all b x y a = record { front = b; rest = []; split = sym (append-nil b); written = a }

pub stays_of : (old new : KeptCore) → opening_of new ≡ opening_of old → StaysStarted old new
stays_of old new e = record {
  users = ap (λ o. o.users) e;
  start = ap (λ o. o.document) e;
  opening = ap (λ o. o.records) e;
  before = ap (λ o. o.faults) e;
}

module _ {Conn : Type 0} (t : Telling Conn) (old new : KeptCore) (ports ports_new : List (PortState Conn)) (connections : ℕ) where
  abbrev pub line : List ℕ
  line = summary_line (records_kept old.state.users (opening old.state.start) new.state.history) connections (length new.state.history)

  -- the line that the core at the end tells
  pub line_told : (bundles entries : ℕ) → opening_of new ≡ opening_of old → bundles ≡ records_kept new.state.users (opening new.state.start) new.state.history → entries ≡ length new.state.history → summary_line bundles connections entries ≡ line
  line_told bundles entries same counted many =
      let a : bundles ≡ records_kept old.state.users (opening old.state.start) new.state.history = subst (λ o. bundles ≡ records_kept o.users (opening o.document) new.state.history) same counted in
      subst (λ n. summary_line bundles connections n ≡ line) (sym many) (ap (λ b. summary_line b connections (length new.state.history)) a)

  module _ (said : Bool) (none : old.state.history ≡ []) (lanes : ServesLanes t (opening_of old) old.state.history new.state.history ports ports_new) (count : all_handed ports_new ≡ all_handed ports + connections) (ended : EndedBy said ports ports_new) (l m : Option (List ℕ)) (says : SaysUsers l m old.state.users) where
    hosted : HasHosted t old.state.users old.state.start l m new.state.history ports ports_new said connections
    hosted = record {
      input = says;
      began = opening_of old;
      users_are = refl;
      start_is = refl;
      lanes = subst (λ h. ServesLanes t (opening_of old) h new.state.history ports ports_new) none lanes;
      count = count;
      ended = ended;
    }

  module _ (none : old.state.history ≡ []) (lanes : ServesLanes t (opening_of old) old.state.history new.state.history ports ports_new) (count : all_handed ports_new ≡ all_handed ports + connections) (l m : Option (List ℕ)) (says : SaysUsers l m old.state.users) (w z : Option (List ℕ)) (f f' : ℕ) where
    -- how it ended
    pub ends_hosting : (said : Bool) → EndedBy said ports ports_new → (sent : Result (Unit {0}) Failed) → OnOk sent (Appends w z line) → OnErr sent (SendsFront line w z) → OnErr sent (Rose f f') → Hosts t old.state.users old.state.start l m new.state.history ports ports_new w z f f' (end_status sent said)
    ends_hosting true ended (Ok u) whole front rose = record { connections = connections; hosted = hosted true none lanes count ended l m says; written = whole }
    ends_hosting false ended (Ok u) whole front rose = record { connections = connections; hosted = hosted false none lanes count ended l m says; written = front_all line w z whole; whole = λ never. whole }
    ends_hosting true ended (Err e) whole front rose = record { connections = connections; hosted = hosted true none lanes count ended l m says; written = front }
    ends_hosting false ended (Err e) whole front rose = record { connections = connections; hosted = hosted false none lanes count ended l m says; written = front; whole = λ never. absurd (never rose) }

pub ends_late : (sent : Result (Unit {0}) Failed) (said : Bool) → is_late (end_status sent said) ≡ true
ends_late (Ok u) true = refl
ends_late (Ok u) false = refl
ends_late (Err e) true = refl
ends_late (Err e) false = refl

pub ends_not_early : (sent : Result (Unit {0}) Failed) (said : Bool) → is_early (end_status sent said) ≡ false
ends_not_early (Ok u) true = refl
ends_not_early (Ok u) false = refl
ends_not_early (Err e) true = refl
ends_not_early (Err e) false = refl

-- that a write failed is told where the line was not sent
pub ends_written : {P : Type 0} (sent : Result (Unit {0}) Failed) (said : Bool) → OnErr sent P → end_status sent said ≡ WriteFault → P
ends_written (Ok u) true h e = let never : ⊥ = cc e in absurd never
ends_written (Ok u) false h e = let never : ⊥ = cc e in absurd never
ends_written (Err e) said h is = h

-- a port failed
pub port_failed : {Conn : Type 0} (t : Telling Conn) (users : List User) (start : Document) (l m : Option (List ℕ)) (h : List Entry) (ports ports_new : List (PortState Conn)) (w z : Option (List ℕ)) (f f' : ℕ) (status : Status) → Hosts t users start l m h ports ports_new w z f f' status → status ≡ PortFault → SomeFailed ports ports_new
port_failed t users start l m h ports ports_new w z f f' status hosts is =
    let short : Hosts t users start l m h ports ports_new w z f f' PortFault = subst (λ (s : Status). Hosts t users start l m h ports ports_new w z f f' s) is hosts in
    short.hosted.ended
