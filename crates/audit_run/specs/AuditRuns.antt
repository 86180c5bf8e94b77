-- What the command `audit` does, by how it ends.
use Rattle.std.specs.Prelude.{ℕ, ◌≡◌, ◌≤◌, List, [], Option}
use Rattle.std.specs.Io.KnownBytes.{Appends}
use Rattle.doc_model.specs.declared.entry.Entry.{Entry}
use Rattle.doc_model.specs.declared.user.User.{User}
use Rattle.doc_model.specs.Document.{Document}
use Rattle.doc_model.specs.NewDocument.{new_document}
use Rattle.doc_opening.specs.Opening.{Opens}
use Rattle.io_edges.specs.Sending.{SendsFront}
use Rattle.grist_run.specs.declared.status.Status.{Status}
use Rattle.grist_run.specs.declared.status.Status.TheVariants.{Done, Usage, BadUsers, ReadFault, WriteFault, StoreFault, NoMemory, BadStore, TurnsSpent, PortFault, HistoryFull}
use Rattle.users_alone.specs.UsersAlone.{SaysUsers, StopsAlone}
use Rattle.audit_run.specs.AuditLines.{lines_for}

-- the document that all records lead to, and the lines of these users in it
pub record TellsAudits (told : Option (List (List ℕ))) (users : List User)
    (text : List ℕ) : Type 0 where
  pub document : Document
  pub number : ℕ
  pub opens : Opens told new_document document number
  pub lines : text ≡ lines_for document users

-- this text was sent, or a front of it
abbrev pub TellsText : Status → List ℕ → Option (List ℕ) → Option (List ℕ) → Type 0
TellsText Done text w w' = Appends w w' text
TellsText WriteFault text w w' = SendsFront text w w'
TellsText _ text w w' = ⊥

module _ (left left_new : Option (List ℕ)) (written written_new : Option (List ℕ))
    (told : Option (List (List ℕ))) where
  -- the whole input said the users, and a line was written for each
  pub record AuditsAll : Type 0 where
    pub users : List User
    pub input : SaysUsers left left_new users
    pub text : List ℕ
    pub tells : TellsAudits told users text
    pub wrote : Appends written written_new text

  -- the same, and a front of the lines was written
  pub record AuditsFront : Type 0 where
    pub users : List User
    pub input : SaysUsers left left_new users
    pub text : List ℕ
    pub tells : TellsAudits told users text
    pub wrote : SendsFront text written written_new

  -- the whole input said users, and nothing was written
  pub record AuditsNone : Type 0 where
    pub users : List User
    pub input : SaysUsers left left_new users
    pub wrote : Appends written written_new []

  -- what an audit did, by how it ended
  abbrev pub Audits : Status → Type 0
  Audits Done = AuditsAll
  Audits Usage = ⊥
  Audits (BadUsers number) =
      StopsAlone (BadUsers number) left left_new × Appends written written_new []
  Audits ReadFault = StopsAlone ReadFault left left_new × Appends written written_new []
  Audits WriteFault = AuditsFront
  Audits StoreFault = AuditsNone
  Audits NoMemory = Appends written written_new []
  Audits (BadStore number) = AuditsNone
  Audits TurnsSpent = StopsAlone TurnsSpent left left_new × Appends written written_new []
  Audits PortFault = ⊥
  Audits HistoryFull = ⊥

-- A whole run of the command: what it read and wrote, no request, and the keeper's records as they
-- were
pub record IsAudit (status : Status) (left left_new : Option (List ℕ)) (h : List Entry)
    (written written_new : Option (List ℕ)) (told now : Option (List (List ℕ)))
    (failures failures_new : ℕ) : Type 0 where
  pub audits : Audits left left_new written written_new told status
  pub history : h ≡ []
  pub records : now ≡ told
  pub later : failures ≤ failures_new
