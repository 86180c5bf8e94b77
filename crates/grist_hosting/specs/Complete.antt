-- What a run comes to where nothing outside fails, whatever it is asked for.
use Rattle.std.specs.Prelude.{ℕ, ◌≡◌, ◌<◌, List, [], length, Option, Some}
use Rattle.doc_model.specs.Document.{Document}
use Rattle.doc_model.specs.NewDocument.{new_document}
use Rattle.doc_model.specs.declared.entry.Entry.{Entry}
use Rattle.doc_model.specs.declared.user.User.{User}
use Rattle.doc_opening.specs.Opening.{FirstBad, opened, opens}
use Rattle.io_edges.specs.Causes.{Rose}
use Rattle.io_edges.specs.Lines.{lines_of}
use Rattle.io_edges.specs.Ports.{PortState}
use Rattle.run_generator.specs.Script.{script}
use Rattle.grist_lanes.specs.Handed.{SomeFailed}
use Rattle.grist_lanes.specs.Services.{Telling}
use Rattle.grist_run.specs.declared.status.Status.{Status}
use Rattle.grist_run.specs.declared.status.Status.TheVariants.{Usage, ReadFault, WriteFault, StoreFault, BadStore}
use Rattle.grist_run.specs.Admission.{admitted, takes_all}
use Rattle.grist_run.specs.Complete.{CanAnswer, IsComplete, Stood}
use Rattle.grist_run.specs.Generated.{IsGenerated}
use Rattle.grist_run.specs.Replay.{Replays}
use Rattle.users_alone.specs.UsersAlone.{says, users_alone}
use Rattle.audit_run.specs.AuditRuns.{IsAudit}
use Rattle.grist_hosting.specs.Hosting.{IsHosting}

-- the told records lead to a document
pub record AreGood (told : Option (List (List ℕ))) : Type 0 where
  pub records : List (List ℕ)
  pub are_told : told ≡ Some records
  pub document : Document
  pub good : opened records ≡ opens document

-- the input has few enough bytes and says users alone, and the told records lead to a document
pub record CanHost (input : List ℕ) (told : Option (List (List ℕ))) : Type 0 where
  pub few : length input < 4294967296
  pub users : List User
  pub said : users_alone (lines_of input) ≡ says users
  pub good : AreGood told

-- what came of a run: how it ended, what is left of its input, its history; what was written and
-- what the keeper told, before it and behind it; and so the counts of faults
pub record Ended : Type 0 where
  pub status : Status
  pub left : Option (List ℕ)
  pub history : List Entry
  pub written : Option (List ℕ)
  pub written_now : Option (List ℕ)
  pub told : Option (List (List ℕ))
  pub told_now : Option (List (List ℕ))
  pub read : ℕ
  pub read_now : ℕ
  pub wrote : ℕ
  pub wrote_now : ℕ
  pub kept : ℕ
  pub kept_now : ℕ

module _ (e : Ended) where
  -- its words asked for something, and each fault has its cause: so says `run` of each status
  pub record HasCauses : Type 0 where
    pub usage : e.status ≡ Usage → ⊥
    pub bad_store : (n : ℕ) → e.status ≡ BadStore n → FirstBad e.told new_document n
    pub read_fault : e.status ≡ ReadFault → Rose e.read e.read_now
    pub write_fault : e.status ≡ WriteFault → Rose e.wrote e.wrote_now
    pub store_fault : e.status ≡ StoreFault → Rose e.kept e.kept_now

  -- nothing failed
  pub record NoneFailed : Type 0 where
    pub reads : Stood e.read e.read_now
    pub writes : Stood e.wrote e.wrote_now
    pub keeps : Stood e.kept e.kept_now

  -- it was a replay of that input, which can be answered whole
  pub record Replayed (input : List ℕ) : Type 0 where
    pub can : CanAnswer input e.told
    pub did : Replays e.status (Some input) e.left e.history e.written e.written_now e.told
        e.told_now e.kept e.kept_now

  -- it was a generated run, and a history has room for its script
  pub record Generated (rows : ℕ) : Type 0 where
    pub good : AreGood e.told
    pub room : List Entry
    pub fits : admitted [] (script rows) ≡ takes_all room
    pub did : IsGenerated rows e.status e.history e.written e.written_now e.told e.told_now
        e.kept e.kept_now

  -- it was an audit of good users
  pub record Audited (input : List ℕ) : Type 0 where
    pub can : CanHost input e.told
    pub did : IsAudit e.status (Some input) e.left e.history e.written e.written_now e.told
        e.told_now e.kept e.kept_now

  -- it was a server of good users, and no port failed
  pub record Hosted {Conn : Type 0} (t : Telling Conn) (input : List ℕ)
      (ports ports_now : List (PortState Conn)) : Type 0 where
    pub can : CanHost input e.told
    pub ports_stood : SomeFailed ports ports_now → ⊥
    pub did : IsHosting t e.status (Some input) e.left e.history e.written e.written_now e.wrote
        e.wrote_now e.told e.told_now e.kept e.kept_now ports ports_now

  -- then all was answered and every entry kept, or memory was wanting
  abbrev pub Completes : Type 0
  Completes = HasCauses → NoneFailed → IsComplete e.status e.history

-- whatever a run is asked for, over ports of such connections
pub record CompletenessLaws {Conn : Type 0} (t : Telling Conn) : Type 0 where
  pub replay : (e : Ended) (input : List ℕ) → Replayed e input → Completes e
  pub generated : (e : Ended) (rows : ℕ) → Generated e rows → Completes e
  pub audit : (e : Ended) (input : List ℕ) → Audited e input → Completes e
  pub serve : (e : Ended) (input : List ℕ) (ports ports_now : List (PortState Conn))
      → Hosted e t input ports ports_now → Completes e
