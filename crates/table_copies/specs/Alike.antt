-- What is shown of a copy.
use Rattle.std.specs.Prelude.{ℕ, true, List, [], ◌∷◌, Some, None, ◌≡◌}
use Rattle.std.specs.Option.{option_map}
use Rattle.std.specs.Str.{bytes_eq}
use Rattle.doc_model.specs.declared.view.ViewTable.{ViewTable}
use Rattle.doc_model.specs.ByIds.{find_id}
use Rattle.doc_model.specs.Document.{Document, Table, table_id}
use Rattle.doc_model.specs.LaidOut.{IsLaidOut}
use Rattle.plain_view.specs.PartsOfViews.{part_of}
use Rattle.censored_view.specs.Readable.{Readable}
use Rattle.censored_view.specs.View.{view}
use Rattle.table_copies.specs.Copies.{without_row}

-- the table of this id in a view, with all its rows, alone
abbrev pub alone : List ℕ → List ViewTable → List ViewTable
alone table v = part_of (λ c. bytes_eq c table) (λ c r. true) v

-- a context shows the same of a copied table as of the table in its document
abbrev pub ShownAlike : Type 0
ShownAlike =
    (x : List ℕ → Readable) (s : Document) (table : List ℕ) (t : Table) → IsLaidOut s
    → option_map without_row (find_id table_id table s) ≡ Some t
    → alone table (view x (t ∷ [])) ≡ alone table (view x s)

-- it shows nothing of a table that is not there
abbrev pub NothingShown : Type 0
NothingShown =
    (x : List ℕ → Readable) (s : Document) (table : List ℕ) → IsLaidOut s
    → find_id table_id table s ≡ None → alone table (view x s) ≡ []
