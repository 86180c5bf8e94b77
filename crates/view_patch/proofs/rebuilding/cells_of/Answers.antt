use Rattle.doc_model.specs.Changes.{grid}
use Rattle.view_patch.proofs.GivenIndexes.{cells_made}
use Rattle.view_patch.proofs.rebuilding.cells_of.Goals as goal

pub returns : goal.returns
returns c =
    cells_made c.sourced_rows.result (grid c.args.table.now) c.args.columns.now c.args.rows.now c.args.given_rows.now c.args.given.now c.as_slice.result.now c.in_ok-sources.sources.items c.deref.result.now
    c.requires.given c.as_slice.ensures c.in_ok-sources.ensures c.deref.ensures.value c.sourced_rows.ensures
