use Rattle.std.proofs.Common.{◌≡◌, ◌∙◌, Some, IfOk, ap, sym, subst, map}
use Rattle.std.specs.Option.{option_copied}
use Rattle.doc_model.specs.ByIds.{find_id, AreDistinct}
use Rattle.doc_model.specs.Document.{Table, table_id}
use Rattle.doc_model.specs.Readers.{cell_at}
use Rattle.doc_model.specs.Sound.{IsSoundGrid}
use Rattle.doc_model.proofs.ByIdsLaws.{found_all}
use Rattle.row_tables.specs.Kept.{kept}
use Rattle.row_tables.proofs.AddedLaws.{map_same}
use Rattle.row_tables.proofs.KeptLaws.{cell-found}
use Rattle.column_store.proofs.tables.ColumnTablesDocReader.cells.Goals as goal

pub column_cells-requires : goal.column_cells-requires
column_cells-requires c =
    let found : find_id table_id c.args.table.now c.self.inside.tables.items ≡ Some c.in-Some.found.now = sym (c.in-Some.ensures ∙ ap (find_id table_id c.args.table.now) c.deref.ensures.value) in
    let grid : IsSoundGrid c.in-Some.found.now.grid = found_all table_id (λ (t : Table). IsSoundGrid t.grid) c.args.table.now c.self.inside.tables.items c.in-Some.found.now c.self.invariant.sound.grids found in
    grid.is_grid

pub returns-in-Some : goal.returns-in-Some
returns-in-Some c =
    let found : find_id table_id c.args.table.now c.self.inside.tables.items ≡ Some c.in-Some.found.now = sym (c.in-Some.ensures ∙ ap (find_id table_id c.args.table.now) c.deref.ensures.value) in
    subst (λ told. IfOk c.column_cells.result (λ cells. map option_copied cells.items ≡ told))
    (map_same (kept c.in-Some.found.now.grid c.args.column.now) (cell_at c.args.self.now c.args.table.now c.args.column.now) c.args.rows.now
    (λ r. cell-found c.self.inside.tables.items c.args.table.now c.args.column.now r c.in-Some.found.now c.self.invariant.sound found ∙ ap (λ s. cell_at s c.args.table.now c.args.column.now r) c.self.view_is))
    c.column_cells.ensures

pub find_table-requires : goal.find_table-requires
find_table-requires c = subst (AreDistinct table_id) (sym c.deref.ensures.value) c.self.invariant.sound.distinct
