-- What actions and their inverses keep.
use Rattle.std.specs.Prelude.{true, List, ◌≡◌}
use Rattle.doc_model.specs.declared.action.DocAction.{DocAction}
use Rattle.doc_model.specs.Document.{Document}
use Rattle.doc_model.specs.Schema.{SchemaAgrees}
use Rattle.doc_model.specs.Sound.{IsSound}
use Rattle.doc_model.specs.Valid.{valid}
use Rattle.doc_model.specs.Apply.{apply, apply_all, all_valid}
use Rattle.doc_model.specs.Inverse.{inverse, inverse_all}
use Rattle.doc_model.specs.NewDocument.{new_document}

-- a sound document that agrees with its schema
pub record IsWhole (s : Document) : Type 0 where
  pub agrees : SchemaAgrees s
  pub sound : IsSound s

-- the new document is such a one
abbrev pub NewDocumentLaw : Type 0
NewDocumentLaw = IsWhole new_document

-- a valid action leaves such a document
abbrev pub KeptLaw : Type 0
KeptLaw = (s : Document) (a : DocAction) → IsWhole s → valid s a ≡ true → IsWhole (apply s a)

-- the inverse of a valid action gives the document before it, and each of its actions is valid at
-- its index
abbrev pub InverseLaw : Type 0
InverseLaw =
    (s : Document) (a : DocAction) → IsWhole s → valid s a ≡ true
    → (all_valid (apply s a) (inverse s a) ≡ true) × (apply_all (apply s a) (inverse s a) ≡ s)

-- the same of a list of actions
abbrev pub InverseAllLaw : Type 0
InverseAllLaw =
    (s : Document) (actions : List DocAction) → IsWhole s → all_valid s actions ≡ true
    → (all_valid (apply_all s actions) (inverse_all s actions) ≡ true)
    × (apply_all (apply_all s actions) (inverse_all s actions) ≡ s)
