use Rattle.std.proofs.Common.{◌≡◌, true, [], sym, ap, ◌∙◌, unwrap_or, slice_get, nat_eq}
use Rattle.doc_model.specs.Rows.{has}
use Rattle.doc_model.specs.Indexes.{row_index}
use Rattle.row_tables.proofs.BesideLaws.{beside_at, beside_index}
use Rattle.row_tables.proofs.KeptLaws.{beside_absent}
use Rattle.doc_model.proofs.RowIndexLaws.{search_ok, search_err}
use Rattle.row_tables.proofs.look.search_cells.Goals as goal

pub returns-then-stands_at : goal.returns-then-stands_at
returns-then-stands_at c =
    c.cells_at.ensures ∙ sym (beside_at c.args.row c.dense_index-dense.result c.args.rows.now c.args.cells.now [] c.requires (c.stands_at.ensures c.if-stands_at.true))

pub returns-in-Ok : goal.returns-in-Ok
returns-in-Ok c =
    let there : (has c.args.rows.now c.args.row ≡ true) × (c.in-Ok.index ≡ row_index c.args.row c.args.rows.now) = search_ok c.args.row c.in-Ok.index c.args.rows.now c.in-Ok.ensures in
    c.cells_at-in-Ok.ensures ∙ sym (beside_index c.args.row c.args.rows.now c.args.cells.now [] c.requires there.0 ∙ ap (λ i. unwrap_or (slice_get c.args.cells.now i) []) (sym there.1))

pub returns-in-Err : goal.returns-in-Err
returns-in-Err c = sym (beside_absent (λ q. nat_eq q c.args.row) c.args.rows.now c.args.cells.now [] (search_err c.args.row c.in-Err.field-0 c.args.rows.now c.in-Err.ensures))
