-- What an audit did, by how it ended.
use Rattle.std.proofs.Common.{◌≡◌, ℕ, ◌≤◌, List, [], Option, sym, subst}
use Rattle.doc_model.specs.declared.entry.Entry.{Entry}
use Rattle.doc_model.specs.declared.user.User.{User}
use Rattle.doc_model.specs.Document.{Document}
use Rattle.doc_model.specs.NewDocument.{new_document}
use Rattle.doc_opening.specs.Opening.{Opens}
use Rattle.doc_opening.specs.declared.opening.StartCause.{StartCause}
use Rattle.doc_opening.specs.declared.opening.StartCause.TheVariants as cause
use Rattle.io_edges.proofs.SendingLemmas.{appends_none}
use Rattle.grist_run.specs.declared.status.Status.{Status}
use Rattle.grist_run.specs.declared.status.Status.TheVariants.{Done, Usage, BadUsers, ReadFault, WriteFault, StoreFault, NoMemory, BadStore, TurnsSpent, PortFault, HistoryFull}
use Rattle.grist_run.specs.Starting.{start_status}
use Rattle.users_alone.specs.UsersAlone.{SaysUsers, StopsAlone}
use Rattle.audit_run.specs.AuditLines.{lines_for}
use Rattle.audit_run.specs.AuditRuns.{Audits, IsAudit, TellsAudits, TellsText}

pub tells : (told : Option (List (List ℕ))) (users : List User) (text : List ℕ) (s : Document) (n : ℕ) → Opens told new_document s n → text ≡ lines_for s users → TellsAudits told users text
tells told users text s n opens lines = record { document = s; number = n; opens = opens; lines = lines }

module _ (l m w : Option (List ℕ)) (told : Option (List (List ℕ))) where
  -- the users were not heard to their end
  pub stopped : (status : Status) → StopsAlone status l m → Audits l m w w told status
  stopped Done e = absurd e
  stopped Usage e = absurd e
  stopped (BadUsers number) e = (e, appends_none w)
  stopped ReadFault e = (e, appends_none w)
  stopped WriteFault e = absurd e
  stopped StoreFault e = absurd e
  stopped NoMemory e = appends_none w
  stopped (BadStore number) e = absurd e
  stopped TurnsSpent e = (e, appends_none w)
  stopped PortFault e = absurd e
  stopped HistoryFull e = absurd e

  -- no document was opened, or there was no room for the lines
  pub unopened : (users : List User) → SaysUsers l m users → (c : StartCause) → Audits l m w w told (start_status c)
  unopened users says cause.StoreFault = record { users = users; input = says; wrote = appends_none w }
  unopened users says (cause.BadStore number) = record { users = users; input = says; wrote = appends_none w }
  unopened users says cause.NoMemory = appends_none w

  -- the lines were sent
  pub sent : (z : Option (List ℕ)) (users : List User) → SaysUsers l m users → (text : List ℕ) → TellsAudits told users text → (status : Status) → TellsText status text w z → Audits l m w z told status
  sent z users says text tells Done t = record { users = users; input = says; text = text; tells = tells; wrote = t }
  sent z users says text tells WriteFault t = record { users = users; input = says; text = text; tells = tells; wrote = t }
  sent z users says text tells Usage t = absurd t
  sent z users says text tells (BadUsers number) t = absurd t
  sent z users says text tells ReadFault t = absurd t
  sent z users says text tells StoreFault t = absurd t
  sent z users says text tells NoMemory t = absurd t
  sent z users says text tells (BadStore number) t = absurd t
  sent z users says text tells TurnsSpent t = absurd t
  sent z users says text tells PortFault t = absurd t
  sent z users says text tells HistoryFull t = absurd t

-- the same, told by an outcome
module _ {l m w z : Option (List ℕ)} {told now : Option (List (List ℕ))} {before after : ℕ} where
  pub audit_told : (status as_told : Status) (h : List Entry) → as_told ≡ status → h ≡ [] → now ≡ told → before ≤ after → Audits l m w z told status → IsAudit as_told l m h w z told now before after
  audit_told status as_told h same none records later done = record {
    audits = subst (λ s. Audits l m w z told s) (sym same) done;
    history = none;
    records = records;
    later = later;
  }
