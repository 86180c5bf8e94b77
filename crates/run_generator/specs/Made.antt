-- An entry that was made of a script.
use Rattle.std.specs.Prelude.{◌≡◌, ◌≤◌, ◌∷◌, ℕ, true}
use Rattle.doc_model.specs.WellFormed.{asks_well_formed}
use Rattle.doc_model.specs.declared.request.Request.TheVariants.{Gone}
use Rattle.run_generator.specs.Left.{left_from}
use Rattle.run_generator.specs.Stages.{IsAtStage}
use Rattle.run_generator.specs.declared.generator.Made.{Made}
use Rattle.run_generator.specs.declared.stage.Stage.{Stage}

-- it is the first that was left at the stage, and the script goes on behind it
pub record IsMade (rows : ℕ) (stage : Stage) (m : Made) : Type 0 where
  pub left : left_from rows stage ≡ m.entry ∷ left_from rows m.next
  pub number : m.number ≤ 2147483648
  pub next : IsAtStage rows m.number m.next
  pub well_formed : asks_well_formed m.entry.request ≡ true
  pub kept : m.entry.kept ≡ true
  pub stays : m.entry.request ≡ Gone → ⊥
