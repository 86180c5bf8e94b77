-- Rows of a document, read cell by cell.
use Rattle.std.specs.Prelude.{ℕ, List, map}
use Rattle.doc_model.specs.Document.{Document}
use Rattle.doc_readers.specs.Parts.{grid_at}
use Rattle.acl_formula.specs.RuleRow.{RuleRow}
use Rattle.censored_view.specs.declared.document_row.DocumentRow.{DocumentRow}
use Rattle.censored_view.specs.Readable.{row_of}

-- the row, where the tables are seen as a document
abbrev pub row_told : {D : Type 0} → (D → Document) → DocumentRow D → RuleRow
row_told document w = row_of (grid_at (document w.tables.now) w.table.now) w.row

-- the rows of a table with these ids
abbrev pub rows_at : Document → List ℕ → List ℕ → List RuleRow
rows_at s table rows = map (row_of (grid_at s table)) rows
