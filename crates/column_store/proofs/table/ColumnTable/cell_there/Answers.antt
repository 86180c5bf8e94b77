use Rattle.std.proofs.Common.{ℕ, List, [], Some, false, ◌≡◌, sym, ap, subst, ◌∙◌, nat_eq, slice_get}
use Rattle.std.specs.Option.{option_copied}
use Rattle.cell_types.specs.declared.value.CellValue.{CellValue}
use Rattle.doc_model.specs.Document.{Table}
use Rattle.doc_model.specs.Rows.{IsAscending, has}
use Rattle.column_store.specs.Kept.{kept_at}
use Rattle.row_tables.proofs.BesideLaws.{beside_at}
use Rattle.row_tables.proofs.KeptLaws.{beside_absent}
use Rattle.column_store.proofs.PlaceLaws.{get_or_slice}
use Rattle.column_store.proofs.table.ColumnTable.cell_there.Goals as goal

pub returns : goal.returns
returns c =
    let rows : List ℕ = c.self.inside.rows.items in
    let cells : List (List CellValue) = c.self.inside.cells.rows in
    let ascends : IsAscending rows = subst (λ (t : Table). IsAscending t.grid.rows) (sym c.self.view_is) c.requires in
    let there : slice_get rows c.in_ok-index.index ≡ Some c.args.row = ap (λ rs. slice_get rs c.in_ok-index.index) (sym c.deref.ensures.value) ∙ c.in_ok-index.ensures in
    c.get.ensures
    ∙ ap (λ row. slice_get row c.args.place) (sym (beside_at c.args.row c.in_ok-index.index rows cells [] ascends there ∙ get_or_slice cells c.in_ok-index.index []))
    ∙ ap (λ (t : Table). kept_at t.grid c.args.place c.args.row) c.self.view_is

pub returns-in_err-index : goal.returns-in_err-index
returns-in_err-index c =
    let rows : List ℕ = c.self.inside.rows.items in
    let cells : List (List CellValue) = c.self.inside.cells.rows in
    let absent : has rows c.args.row ≡ false = ap (λ rs. has rs c.args.row) (sym c.deref.ensures.value) ∙ c.in_err-index.ensures in
    ap option_copied c.from_residual.ensures
    ∙ ap (λ row. slice_get row c.args.place) (sym (beside_absent (λ q. nat_eq q c.args.row) rows cells [] absent))
    ∙ ap (λ (t : Table). kept_at t.grid c.args.place c.args.row) c.self.view_is
