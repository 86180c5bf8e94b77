-- What changes and patch are to one another.
use Rattle.std.specs.Prelude.{List, [], ◌≡◌, ◌↔◌, None}
use Rattle.doc_model.specs.declared.view.ViewTable.{ViewTable}
use Rattle.doc_model.specs.Changes.{IsView, changes}
use Rattle.doc_model.specs.Patch.{patch, unfit_at}

-- patching a view with the changes to another gives the other
abbrev pub PatchLaw : Type 0
PatchLaw = (v w : List ViewTable) → IsView v → IsView w → patch v (changes v w) ≡ w

-- each of the changes fits where it stands
abbrev pub ChangesFitLaw : Type 0
ChangesFitLaw = (v w : List ViewTable) → IsView v → IsView w → unfit_at v (changes v w) ≡ None

-- there are no changes exactly where nothing differs
abbrev pub NoChangesLaw : Type 0
NoChangesLaw = (v w : List ViewTable) → IsView v → IsView w → (changes v w ≡ []) ↔ (v ≡ w)
