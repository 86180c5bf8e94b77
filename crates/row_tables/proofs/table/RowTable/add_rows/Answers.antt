use Rattle.std.proofs.Common.{ℕ, ◌≡◌, List, length, map, unwrap_or, sym, ap, subst, ◌∙◌}
use Rattle.doc_model.specs.declared.column.ColDef.{ColDef}
use Rattle.doc_model.specs.Column.{column_id, start_of}
use Rattle.doc_model.specs.Document.{Table, on_grid}
use Rattle.doc_model.specs.Grid.{IsGrid}
use Rattle.doc_model.specs.Records.{add_rows, given}
use Rattle.doc_model.proofs.Choices.{length_map}
use Rattle.row_tables.specs.contracts.table.RowTable.{the_view}
use Rattle.row_tables.specs.InPlace.{on_rows}
use Rattle.row_tables.specs.RowIndexes.{AreNew, AreWithin, new_indexes, put_at, taken_out}
use Rattle.row_tables.proofs.AddedLaws.{with_rows, added_table, added_back, new_within, length-new_indexes, noted_from}
use Rattle.row_tables.proofs.table.RowTable.add_rows.Goals as goal

pub insert_cells-requires-clause-within : goal.insert_cells-requires-clause-within
insert_cells-requires-clause-within c =
    let grid : IsGrid column_id (the_view c.self.inside).grid = subst (λ (t : Table). IsGrid column_id t.grid) (sym c.self.view_is) c.requires.grid in
    let noted : c.insert_rows.new.indexes.items ≡ new_indexes c.args.new.now c.self.inside.rows.items
    = noted_from c.args.new.now c.self.inside.rows.items c.reserve.new.self.items c.in_ok-indexes.indexes.items c.insert_rows.new.indexes.items c.insert_rows.ensures.indexes c.in_ok-indexes.ensures.items c.in_ok-reserve.ensures.items in
    subst (λ n. AreWithin c.deref-2.result.now n) (sym (ap length c.in_ok-reserve-2.ensures.items ∙ grid.height))
    (subst (λ ps. AreWithin ps (length c.self.inside.rows.items)) (sym (c.deref-2.ensures.value ∙ noted)) (new_within c.args.new.now c.self.inside.rows.items))

pub insert_cells-requires-clause-each : goal.insert_cells-requires-clause-each
insert_cells-requires-clause-each c =
    let noted : c.insert_rows.new.indexes.items ≡ new_indexes c.args.new.now c.self.inside.rows.items
    = noted_from c.args.new.now c.self.inside.rows.items c.reserve.new.self.items c.in_ok-indexes.indexes.items c.insert_rows.new.indexes.items c.insert_rows.ensures.indexes c.in_ok-indexes.ensures.items c.in_ok-reserve.ensures.items in
    ap length c.in_ok-lists.ensures ∙ length_map (λ r. map (λ (d : ColDef). unwrap_or (given c.args.new.now c.args.values.now d.id r) (start_of d)) c.deref.result.now) c.args.new.now
    ∙ sym (ap length (c.deref-2.ensures.value ∙ noted) ∙ length-new_indexes c.args.new.now c.self.inside.rows.items)

-- what the laws of added rows take
both : (c : goal.After-insert_cells) → (with_rows (the_view c.self.inside) c.insert_rows.new.rows.items c.insert_cells.new.cells.items ≡ on_grid (add_rows column_id start_of c.args.new.now c.args.values.now) (the_view c.self.inside))
    × (on_grid (on_rows (taken_out c.insert_rows.new.indexes.items) (taken_out c.insert_rows.new.indexes.items)) (with_rows (the_view c.self.inside) c.insert_rows.new.rows.items c.insert_cells.new.cells.items) ≡ the_view c.self.inside)
both c =
    let t : Table = the_view c.self.inside in
    let new : List ℕ = c.args.new.now in
    let grid : IsGrid column_id t.grid = subst (λ (t : Table). IsGrid column_id t.grid) (sym c.self.view_is) c.requires.grid in
    let apart : AreNew new t.grid.rows = subst (λ (t : Table). AreNew new t.grid.rows) (sym c.self.view_is) c.requires.new in
    let made : c.in_ok-lists.lists.items ≡ map (λ r. map (λ (d : ColDef). unwrap_or (given new c.args.values.now d.id r) (start_of d)) t.grid.columns) new
    = c.in_ok-lists.ensures ∙ ap (λ cs. map (λ r. map (λ (d : ColDef). unwrap_or (given new c.args.values.now d.id r) (start_of d)) cs) new) c.deref.ensures.value in
    let noted : c.insert_rows.new.indexes.items ≡ new_indexes new t.grid.rows
    = noted_from new t.grid.rows c.reserve.new.self.items c.in_ok-indexes.indexes.items c.insert_rows.new.indexes.items c.insert_rows.ensures.indexes c.in_ok-indexes.ensures.items c.in_ok-reserve.ensures.items in
    let put : c.insert_rows.new.rows.items ≡ put_at (new_indexes new t.grid.rows) new t.grid.rows
    = c.insert_rows.ensures.rows ∙ ap (λ rs. put_at (new_indexes new rs) new rs) c.in_ok-reserve.ensures.items in
    let beside : c.insert_cells.new.cells.items ≡ put_at c.insert_rows.new.indexes.items c.in_ok-lists.lists.items t.grid.cells
    = c.insert_cells.ensures ∙ ap (λ ps. put_at ps c.in_ok-lists.lists.items c.reserve-2.new.self.items) c.deref-2.ensures.value
    ∙ ap (put_at c.insert_rows.new.indexes.items c.in_ok-lists.lists.items) c.in_ok-reserve-2.ensures.items in (
      added_table t new c.args.values.now c.in_ok-lists.lists.items c.insert_rows.new.indexes.items c.insert_rows.new.rows.items c.insert_cells.new.cells.items grid apart made noted put beside,
      added_back t new c.args.values.now c.in_ok-lists.lists.items c.insert_rows.new.indexes.items c.insert_rows.new.rows.items c.insert_cells.new.cells.items grid apart made noted put beside,
    )

pub returns-clause-ok : goal.returns-clause-ok
returns-clause-ok c = (both c).0 ∙ ap (on_grid (add_rows column_id start_of c.args.new.now c.args.values.now)) c.self.view_is

pub returns-clause-back : goal.returns-clause-back
returns-clause-back c = (both c).1 ∙ c.self.view_is
