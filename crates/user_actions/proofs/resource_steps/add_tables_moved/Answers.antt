use Rattle.std.proofs.Common.{ℕ, List, ◌≡◌, ◌∙◌, ◌++◌, ap, codes, subst, rules}
use Rattle.std.specs.Result.{IfOk}
use Rattle.doc_model.specs.MetadataIds.{resources_id}
use Rattle.doc_readers.specs.Parts.{grid_at}
use Rattle.renamed_resources.specs.Renamed.{table_renamed}
use Rattle.user_actions.specs.CellUpdates.{update_changed}
use Rattle.user_actions.proofs.resource_steps.add_tables_moved.Goals as goal

pub returns : goal.returns
returns g c =
    let s = g.D.DocReader.document c.args.tables.now in
    let f = table_renamed c.args.old.now c.args.new.now in
    let made : List ℕ → List ℕ → List ℕ → Type 0 = λ table column rows. IfOk c.add_update.result (λ _. c.add_update.new.steps ≡ c.args.steps.now ++ update_changed table (grid_at s table) column f rows) in
    subst (made resources_id (codes "tableId")) (c.rows_in-rows.ensures.value ∙ ap (λ t. (grid_at s t).rows) c.resources_table-table.ensures)
    (subst (λ n. made resources_id n c.rows_in-rows.result.now) c.table_column-column.ensures
    (subst (λ t. made t c.table_column-column.result.now c.rows_in-rows.result.now) c.resources_table-table.ensures (c.add_update.ensures f (λ x y e. search rules))))
