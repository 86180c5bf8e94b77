use Rattle.doc_model.specs.Rows.{has}
use Rattle.std.proofs.Common.{◌≡◌, true}
use Rattle.doc_model.specs.Indexes.{row_index}
use Rattle.doc_model.proofs.RowIndexLaws.{search_ok, search_err}
use Rattle.column_store.proofs.PlaceLaws.{row_there}
use Rattle.column_store.proofs.look.row_place.Goals as goal

pub returns-in-Ok : goal.returns-in-Ok
returns-in-Ok c =
    let there : (has c.args.rows.now c.args.row ≡ true) × (c.in-Ok.index ≡ row_index c.args.row c.args.rows.now) = search_ok c.args.row c.in-Ok.index c.args.rows.now c.in-Ok.ensures in
    row_there c.args.row c.in-Ok.index c.args.rows.now c.requires there.0 there.1

pub returns-in-Err : goal.returns-in-Err
returns-in-Err c = search_err c.args.row c.in-Err.field-0 c.args.rows.now c.in-Err.ensures
