use Rattle.std.proofs.Common.{◌≡◌, Some, sym, ap, subst, ◌∙◌}
use Rattle.doc_model.specs.ByIds.{find_id, AreDistinct}
use Rattle.doc_model.specs.Document.{Table, table_id}
use Rattle.doc_model.specs.Rows.{IsAscending}
use Rattle.doc_model.specs.Sound.{IsSoundGrid}
use Rattle.doc_model.proofs.ByIdsLaws.{found_all}
use Rattle.column_store.proofs.tables.ColumnTablesDocReader.rows.Goals as goal

pub returns-clause-ascending : goal.returns-clause-ascending
returns-clause-ascending c =
    let found : find_id table_id c.args.table.now c.self.inside.tables.items ≡ Some c.in_ok-find_table.field-0.now = sym (c.in_ok-find_table.ensures ∙ ap (find_id table_id c.args.table.now) c.deref.ensures.value) in
    let grid : IsSoundGrid c.in_ok-find_table.field-0.now.grid = found_all table_id (λ (t : Table). IsSoundGrid t.grid) c.args.table.now c.self.inside.tables.items c.in_ok-find_table.field-0.now c.self.invariant.sound.grids found in
    subst IsAscending (sym c.rows.ensures) grid.is_grid.ascending

pub find_table-requires : goal.find_table-requires
find_table-requires c = subst (AreDistinct table_id) (sym c.deref.ensures.value) c.self.invariant.sound.distinct
