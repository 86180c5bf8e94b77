-- The tables of a new document, as the store by rows tells them.
use Rattle.std.specs.Prelude.{ℕ, List, [], ◌∷◌, None, Some}
use Rattle.doc_model.specs.declared.column.ColDef.{ColDef}
use Rattle.doc_model.specs.ByIds.{find_id}
use Rattle.doc_model.specs.Document.{Document, Table, table_id}
use Rattle.doc_model.specs.NewDocument.{new_document, no_rows}
use Rattle.doc_model.specs.Readers.{table_at}

-- the columns of a table, none where it is not there
abbrev pub columns_in : Document → List ℕ → List ColDef
columns_in s id = elim (find_id table_id id s) [ None ↦ [] | Some t ↦ t.grid.columns ]

-- the id of the table at an index
abbrev pub id_at : Document → ℕ → List ℕ
id_at s index = elim (table_at s index) [ None ↦ [] | Some id ↦ id ]

-- the table at an index, described by a row, without rows
abbrev pub bare : ℕ → ℕ → Table
bare index row = record {
  id = id_at new_document index;
  row = row;
  grid = no_rows (columns_in new_document (id_at new_document index));
}

-- all of them
abbrev pub bare_tables : List Table
bare_tables = bare 0 0 ∷ bare 1 0 ∷ bare 2 0 ∷ bare 3 0 ∷ bare 4 1 ∷ []
