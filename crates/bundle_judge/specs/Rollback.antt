-- What takes back actions that were done one after another.
use Rattle.std.specs.Prelude.{List, [], ◌∷◌, ⊤}
use Rattle.doc_model.specs.Document.{Document}
use Rattle.evaluated_doc.specs.WayBack.{Changed, IsWayBack}

module _ {B : Type 0} (undone : B → Document → Document) (fits : B → Document → Type 0) where
  -- the document after all are taken back, the last one first
  abbrev pub rolled_back : List B → Document → Document
  rolled_back [] s = s
  rolled_back (b ∷ bs) s = undone b (rolled_back bs s)

  -- each may be taken back where those behind it are
  abbrev pub AllFit : List B → Document → Type 0
  AllFit [] s = ⊤
  AllFit (b ∷ bs) s = fits b (rolled_back bs s) × AllFit bs s

module _ {B : Type 0} (fits : B → Document → Type 0) (undone : B → Document → Document) where
  -- the document to which the trace of a change leads back
  abbrev pub led_back : Changed B → Document → Document
  led_back trace s = undone trace.back s

  -- the document after all changes are gone back over, the last one first
  abbrev pub gone_back : List (Changed B) → Document → Document
  gone_back traces s = rolled_back led_back (IsWayBack fits undone) traces s

  -- each trace leads back where those behind it do
  abbrev pub AllLeadBack : List (Changed B) → Document → Type 0
  AllLeadBack traces s = AllFit led_back (IsWayBack fits undone) traces s
