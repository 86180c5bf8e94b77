use Rattle.std.proofs.Common.{◌≡◌, Some, sym, ap, ◌∙◌, subst}
use Rattle.doc_model.specs.ByIds.{find_id, AreDistinct}
use Rattle.doc_model.specs.Document.{Table, table_id}
use Rattle.doc_model.specs.Readers.{cell_at}
use Rattle.doc_model.specs.Sound.{IsSoundGrid}
use Rattle.doc_model.proofs.ByIdsLaws.{found_all}
use Rattle.row_tables.proofs.KeptLaws.{told_by, cell-found}
use Rattle.column_store.proofs.tables.ColumnTablesDocReader.cell.Goals as goal

pub cell-requires : goal.cell-requires
cell-requires c =
    let found : find_id table_id c.args.table.now c.self.inside.tables.items ≡ Some c.in_ok-find_table.field-0.now = sym (c.in_ok-find_table.ensures ∙ ap (find_id table_id c.args.table.now) c.deref.ensures.value) in
    let grid : IsSoundGrid c.in_ok-find_table.field-0.now.grid = found_all table_id (λ (t : Table). IsSoundGrid t.grid) c.args.table.now c.self.inside.tables.items c.in_ok-find_table.field-0.now c.self.invariant.sound.grids found in
    grid.is_grid

pub returns : goal.returns
returns c =
    told_by c.cell.result (cell_at c.args.self.now c.args.table.now c.args.column.now c.args.row)
    (c.cell.ensures
    ∙ cell-found c.self.inside.tables.items c.args.table.now c.args.column.now c.args.row c.in_ok-find_table.field-0.now c.self.invariant.sound
    (sym (c.in_ok-find_table.ensures ∙ ap (find_id table_id c.args.table.now) c.deref.ensures.value))
    ∙ ap (λ s. cell_at s c.args.table.now c.args.column.now c.args.row) c.self.view_is)

pub find_table-requires : goal.find_table-requires
find_table-requires c = subst (AreDistinct table_id) (sym c.deref.ensures.value) c.self.invariant.sound.distinct
