-- One table of a document.
use Rattle.std.specs.Prelude.{ℕ, List, Some, None}
use Rattle.doc_model.specs.declared.column.ColDef.{ColDef}
use Rattle.doc_model.specs.ByIds.{find_id}
use Rattle.doc_model.specs.Document.{Document, table_id}
use Rattle.doc_model.specs.Grid.{Grid}
use Rattle.doc_model.specs.Schema.{no_grid}

-- the columns, rows and cells of a table, none where it is not there
abbrev pub grid_at : Document → List ℕ → Grid ColDef
grid_at s table = elim (find_id table_id table s) [ None ↦ no_grid | Some t ↦ t.grid ]
