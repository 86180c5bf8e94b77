use Rattle.std.proofs.Common.{◌≡◌, ◌++◌, filter, drop, codes}
use Rattle.doc_model.specs.Column.{column_id}
use Rattle.doc_model.specs.Grid.{cell}
use Rattle.doc_model.specs.MetadataIds.{resources_id}
use Rattle.doc_readers.specs.Parts.{grid_at}
use Rattle.renamed_resources.specs.Renamed.{names_table}
use Rattle.user_actions.proofs.resource_steps.rows_about.Given as goal

-- the rows so far, and those that are to come
abbrev pub invariant-loop-row : goal.invariant-loop-row
invariant-loop-row g l =
    l.found.items ++ filter (λ r. names_table l.table (cell column_id (grid_at (g.D.DocReader.document l.tables) resources_id) (codes "tableId") r)) (drop l.row-index l.rows)
    ≡ filter (λ r. names_table l.table (cell column_id (grid_at (g.D.DocReader.document l.tables) resources_id) (codes "tableId") r)) l.rows
