-- When a replay is answered whole.
use Rattle.std.specs.Prelude.{◌≡◌, ℕ, ◌<◌, List, [], length, Option, Some, ⊤}
use Rattle.doc_model.specs.Document.{Document}
use Rattle.doc_model.specs.NewDocument.{new_document}
use Rattle.doc_model.specs.declared.entry.Entry.{Entry}
use Rattle.doc_model.specs.declared.user.User.{User}
use Rattle.doc_opening.specs.Opening.{FirstBad, opened, opens}
use Rattle.io_edges.specs.Causes.{Rose}
use Rattle.bundle_core.specs.KeptBundles.{not_kept}
use Rattle.grist_run.specs.declared.status.Status.{Status}
use Rattle.grist_run.specs.declared.status.Status.TheVariants.{Done, Usage, ReadFault, WriteFault, StoreFault, NoMemory, BadStore}
use Rattle.grist_run.specs.Admission.{admitted, takes_all}
use Rattle.grist_run.specs.Replay.{Replays}
use Rattle.grist_run.specs.Script.{entries_of}
use Rattle.grist_run.specs.Told.{script_in}
use Rattle.grist_run.specs.UserLines.{script}

-- the input can be answered whole: it has few enough bytes, its users are good, a history has room
-- for all that it asks for, and the told records lead to a document
pub record CanAnswer (input : List ℕ) (told : Option (List (List ℕ))) : Type 0 where
  pub few : length input < 4294967296
  pub users : List User
  pub requests : List (List ℕ)
  pub said : script_in input ≡ script users requests
  pub history : List Entry
  pub room : admitted [] (entries_of requests) ≡ takes_all history
  pub records : List (List ℕ)
  pub are_told : told ≡ Some records
  pub document : Document
  pub good : opened records ≡ opens document

-- nothing failed meanwhile
abbrev pub Stood : ℕ → ℕ → Type 0
Stood before now = Rose before now → ⊥

-- all was answered and every entry kept, or memory was wanting
abbrev pub IsComplete : Status → List Entry → Type 0
IsComplete Done history = not_kept history ≡ 0
IsComplete NoMemory history = ⊤
IsComplete status history = ⊥

-- Whatever a replay did: where its words ask for one, its input can be answered whole, and the
-- counts of source, sink and keeper stood, all was answered or memory was wanting. What stands
-- behind `Replays` are the clauses of `run` on its statuses.
abbrev pub CompletenessLaw : Type 0
CompletenessLaw = (status : Status) (input : List ℕ) (left : Option (List ℕ)) (history : List Entry)
    (written written' : Option (List ℕ)) (told now : Option (List (List ℕ)))
    (read read' wrote wrote' kept kept' : ℕ)
    → CanAnswer input told → Stood read read' → Stood wrote wrote' → Stood kept kept'
    → Replays status (Some input) left history written written' told now kept kept'
    → (status ≡ Usage → ⊥)
    → ((n : ℕ) → status ≡ BadStore n → FirstBad told new_document n)
    → (status ≡ ReadFault → Rose read read')
    → (status ≡ WriteFault → Rose wrote wrote')
    → (status ≡ StoreFault → Rose kept kept')
    → IsComplete status history
