-- The steps by which the resources of rules say what is renamed by its new id, so that a rename
-- frees nothing from its rules.
use Rattle.std.specs.Prelude.{ℕ, List, filter, codes}
use Rattle.doc_model.specs.declared.action.Step.{Step}
use Rattle.doc_model.specs.declared.column.ColDef.{ColDef}
use Rattle.doc_model.specs.Column.{column_id}
use Rattle.doc_model.specs.Document.{Document}
use Rattle.doc_model.specs.Grid.{Grid, cell}
use Rattle.doc_model.specs.MetadataIds.{resources_id}
use Rattle.doc_readers.specs.Parts.{grid_at}
use Rattle.renamed_resources.specs.Renamed.{columns_renamed, names_table, table_renamed}
use Rattle.user_actions.specs.CellUpdates.{update_changed}

-- the rows of resources that are about a table, whatever columns they say
abbrev pub rows_about : Grid ColDef → List ℕ → List ℕ
rows_about g table = filter (λ r. names_table table (cell column_id g (codes "tableId") r)) g.rows

-- resources name a table by its new id
abbrev pub tables_moved : Document → List ℕ → List ℕ → List Step
tables_moved s old new =
    update_changed resources_id (grid_at s resources_id) (codes "tableId") (table_renamed old new)
    (grid_at s resources_id).rows

-- resources of a table list a column by its new id
abbrev pub columns_moved : Document → List ℕ → List ℕ → List ℕ → List Step
columns_moved s table old new =
    update_changed resources_id (grid_at s resources_id) (codes "colIds") (columns_renamed old new)
    (rows_about (grid_at s resources_id) table)
