use Rattle.doc_model.specs.Changes.{grid}
use Rattle.view_patch.proofs.GivenIndexes.{rebuilt_table}
use Rattle.view_patch.proofs.rebuilding.rebuilt.Goals as goal

pub returns : goal.returns
returns c =
    rebuilt_table (grid c.args.table.now) c.args.table.now.id c.in_ok-name_copy.field-0 c.args.columns c.as_slice.result.now c.args.rows c.as_slice-2.result.now c.args.given_rows.now c.args.given.now c.in_ok-cells.cells
    c.in_ok-name_copy.ensures c.as_slice.ensures c.as_slice-2.ensures c.in_ok-cells.ensures
