-- What the last bundle changed.
use Rattle.std.specs.Prelude.{◌≡◌, ◌≤◌, ◌+◌, ℕ, List, ◌∷◌, [], ◌++◌, map, true, false, Option, Some, None, IfSome, vec_capacity}
use Rattle.std.specs.Global.{Vec}
use Rattle.cell_types.specs.declared.cell.CellOld.{CellOld}
use Rattle.doc_model.specs.Apply.{all_valid}
use Rattle.doc_model.specs.Document.{Document}
use Rattle.doc_model.specs.DocumentLaws.{IsWhole}
use Rattle.doc_model.specs.declared.entry.Entry.{Entry}
use Rattle.doc_model.specs.declared.user.User.{User}
use Rattle.user_actions.specs.StepLaws.{action_of}
use Rattle.bundle_judge.specs.JudgedBundles.{after_steps}
use Rattle.bundle_judge.specs.Losses.{all_lost}
use Rattle.bundle_records.specs.Ledger.{Ledger}
use Rattle.bundle_core.specs.State.{State, Verdicts, opening, run, verdicts}
use Rattle.bundle_core.specs.declared.last_change.LastChange.{LastChange}

-- an empty list with room for so many
abbrev pub HasRoomFor : ℕ → Vec (Vec CellOld) → Type 0
HasRoomFor count l = (l.items ≡ []) × (count ≤ vec_capacity l)

-- its steps are valid and lead from one document to the other; where it is told what they lost of
-- the evaluated one, it is that
pub record IsChange (s t : Document) (c : LastChange) : Type 0 where
  pub whole : IsWhole s
  pub valid : all_valid s (map action_of c.steps) ≡ true
  pub after : t ≡ after_steps s c.steps
  pub lost : IfSome c.lost
      (λ ls. map (λ cells. cells.items) ls.items ≡ all_lost s (map action_of c.steps))

-- a bundle was accepted and is one record more, and this is it; or none was, and the document stays
abbrev pub TellsChange : Document → Document → Ledger → Ledger → Option LastChange → Type 0
TellsChange s t old new None = (t ≡ s) × (new.count ≡ old.count)
TellsChange s t old new (Some c) = IsChange s t c × (new.count ≡ old.count + 1)

-- the same of what an entry came to, by the document before it
abbrev pub TellsVerdict : Document → Verdicts → Document → Option LastChange → Type 0
TellsVerdict s v t None = (v.is_bundle ≡ false) × (t ≡ s)
TellsVerdict s v t (Some c) = (v.is_bundle ≡ true) × IsChange s t c

-- the change that led from the state before the last entry to this document
abbrev pub IsLast : List User → Document → List Entry → Document → Option LastChange → Type 0
IsLast users start es t last =
    (before : List Entry) (e : Entry) → es ≡ before ++ e ∷ []
    → TellsVerdict (run users (opening start) before).document
    (verdicts users (run users (opening start) before) e) t last
