use Rattle.std.proofs.Common.{ℕ, List, ◌≡◌, ◌∙◌, ◌++◌, codes, subst, rules}
use Rattle.std.specs.Result.{IfOk}
use Rattle.doc_model.specs.MetadataIds.{resources_id}
use Rattle.doc_readers.specs.Parts.{grid_at}
use Rattle.renamed_resources.specs.Renamed.{columns_renamed}
use Rattle.user_actions.specs.CellUpdates.{update_changed}
use Rattle.user_actions.proofs.resource_steps.add_columns_moved.Goals as goal

pub returns : goal.returns
returns g c =
    let s = g.D.DocReader.document c.args.tables.now in
    let f = columns_renamed c.args.old.now c.args.new.now in
    let made : List ℕ → List ℕ → List ℕ → Type 0 = λ table column rows. IfOk c.add_update.result (λ _. c.add_update.new.steps ≡ c.args.steps.now ++ update_changed table (grid_at s table) column f rows) in
    subst (made resources_id (codes "colIds")) (c.deref.ensures.value ∙ c.in_ok-rows.ensures)
    (subst (λ n. made resources_id n c.deref.result.now) c.list_column-column.ensures
    (subst (λ t. made t c.list_column-column.result.now c.deref.result.now) c.resources_table-resources.ensures (c.add_update.ensures f (λ x y e. search rules))))
