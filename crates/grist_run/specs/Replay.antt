-- A whole run: its users, the document that it began with, and what became of its keeper.
use Rattle.std.specs.Prelude.{◌≡◌, ℕ, ◌+◌, ◌-◌, ◌^◌, ◌≤◌, min, Bool, true, false, List, [], ◌∷◌, ◌++◌, length, Option, Some, option_map}
use Rattle.doc_model.specs.Document.{Document}
use Rattle.doc_model.specs.declared.entry.Entry.{Entry}
use Rattle.doc_model.specs.declared.user.User.{User}
use Rattle.bundle_core.specs.Core.{state_after}
use Rattle.bundle_core.specs.KeptBundles.{not_kept, records_of}
use Rattle.bundle_core.specs.State.{opening}
use Rattle.bundle_records.specs.Ledger.{OpensTo}
use Rattle.grist_run.specs.declared.status.Status.{Status}
use Rattle.grist_run.specs.declared.status.Status.TheVariants.{Done, WriteFault, StoreFault, PortFault}
use Rattle.grist_run.specs.Run.{IsRun}
use Rattle.grist_run.specs.Told.{Follows}

-- the input was read to its end, something was answered, or what is behind the opening failed: then
-- a document was opened
abbrev pub is_opened : Status → List Entry → Bool
is_opened Done h = true
is_opened WriteFault h = true
is_opened PortFault h = true
is_opened status [] = false
is_opened status (e ∷ es) = true

-- how often the keeper failed at least
abbrev pub failed_calls : Status → List Entry → ℕ
failed_calls StoreFault h = not_kept h + 1
failed_calls status h = not_kept h

-- a keeper that told these records has those and one for each bundle that was accepted and kept;
-- the first ones lead to the document at the start, and all to that at the end
pub record KeepsRecords (users : List User) (start : Document) (status : Status) (h : List Entry)
    (told now : Option (List (List ℕ))) (faults_old faults_new : ℕ) : Type 0 where
  pub records : now ≡ option_map (λ rs. rs ++ records_of users (opening start) (length rs) h) told
  pub begins : is_opened status h ≡ true → OpensTo told start
  pub reopens : is_opened status h ≡ true → OpensTo now (state_after users start h).document
  pub faults : min (faults_old + failed_calls status h) (2 ^ 64 - 1) ≤ faults_new

-- a run: the users that its lines say, and the document that its keeper's records lead to
pub record Replays (status : Status) (left left_new : Option (List ℕ)) (h : List Entry)
    (written written_new : Option (List ℕ)) (told now : Option (List (List ℕ)))
    (faults_old faults_new : ℕ) : Type 0 where
  pub users : List User
  pub start : Document
  pub run : IsRun users start status left left_new h written written_new
  pub input : (bytes : List ℕ) → left ≡ Some bytes
      → Follows start status bytes left_new h written written_new
  pub keeper : KeepsRecords users start status h told now faults_old faults_new
