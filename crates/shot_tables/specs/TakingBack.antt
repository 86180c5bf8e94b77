-- What takes back actions that were put one after another.
use Rattle.std.specs.Prelude.{List, [], ◌∷◌, ⊤}
use Rattle.doc_model.specs.Document.{Document}

module _ {B : Type 0} (undone : B → Document → Document) (fits : B → Document → Type 0) where
  -- the document after all are taken back, the last one first
  abbrev pub taken_back : List B → Document → Document
  taken_back [] s = s
  taken_back (b ∷ bs) s = undone b (taken_back bs s)

  -- each may be taken back where those behind it are
  abbrev pub AllFit : List B → Document → Type 0
  AllFit [] s = ⊤
  AllFit (b ∷ bs) s = fits b (taken_back bs s) × AllFit bs s
