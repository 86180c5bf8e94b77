use Rattle.std.proofs.Common.{ℕ, List, insert, map, length, ◌≡◌, ◌≤◌, ◌+◌, subst, sym, ap, ◌∙◌, arith}
use Rattle.doc_model.specs.Column.{column_id, start_of}
use Rattle.doc_model.specs.Document.{Table, on_grid}
use Rattle.doc_model.specs.Grid.{Grid}
use Rattle.doc_model.specs.Indexes.{column_index}
use Rattle.doc_model.specs.declared.column.ColDef.{ColDef}
use Rattle.cell_types.specs.declared.value.CellValue.{CellValue}
use Rattle.row_tables.proofs.Indexes.{index_within}
use Rattle.column_store.specs.contracts.table.ColumnTable.{the_view}
use Rattle.column_store.specs.Crossed.{insert_beside}
use Rattle.column_store.specs.Reshaped.{column_in, column_out}
use Rattle.column_store.proofs.MoveLaws.{length_put}
use Rattle.column_store.proofs.ReshapeLaws.{came_back, column_added, length_all}
use Rattle.column_store.proofs.table.ColumnTable.add_column.Goals as goal

pub insert_column-requires-clause-within : goal.insert_column-requires-clause-within
insert_column-requires-clause-within c =
    let within : column_index c.args.new.now.row c.deref.result.now ≤ length c.deref.result.now = index_within c.args.new.now.row c.deref.result.now in
    let at = c.index_of_column-index.ensures in
    let same = ap length c.deref.ensures.value in
    let wide = c.self.invariant.0 in
    omega arith

-- the table of these columns and cells
abbrev with_both : Table → List ColDef → List (List CellValue) → Table
with_both t cs cells = record { id = t.id; row = t.row; grid = record { columns = cs; rows = t.grid.rows; cells = cells } }

-- where the column goes
at : (c : goal.After-insert_reserved) → c.index_of_column-index.result ≡ column_index c.args.new.now.row c.self.inside.columns.items
at c = c.index_of_column-index.ensures ∙ ap (column_index c.args.new.now.row) c.deref.ensures.value

-- the table with the column in it
put : (c : goal.After-insert_reserved) → with_both (the_view c.self.inside) c.insert_reserved.new.items.items c.insert_column.new.self.rows
    ≡ on_grid (column_in (column_index c.args.new.now.row c.args.self.now.grid.columns) c.args.new.now (map (λ _. start_of c.args.new.now) c.args.self.now.grid.rows)) c.args.self.now
put c =
    let t : Table = the_view c.self.inside in
    let d : ColDef = c.args.new.now in
    let i : ℕ = c.index_of_column-index.result in
    let j : ℕ = column_index d.row t.grid.columns in
    ap (λ cs. with_both t cs c.insert_column.new.self.rows)
    (c.insert_reserved.ensures.items ∙ ap (λ xs. insert xs i c.in_ok-column.column) c.in_ok-reserve.ensures.items
    ∙ ap (insert t.grid.columns i) c.in_ok-column.ensures ∙ ap (λ k. insert t.grid.columns k d) (at c))
    ∙ ap (with_both t (insert t.grid.columns j d))
    (c.in_ok-insert_column.ensures.rows ∙ ap (λ xs. insert_beside i xs t.grid.cells) (c.in_ok-cells.ensures ∙ ap (map (λ _. start_of d)) c.deref-2.ensures.value)
    ∙ ap (λ k. insert_beside k (map (λ _. start_of d) t.grid.rows) t.grid.cells) (at c))
    ∙ ap (λ (u : Table). on_grid (column_in (column_index d.row u.grid.columns) d (map (λ _. start_of d) u.grid.rows)) u) c.self.view_is

pub returns-clause-ok : goal.returns-clause-ok
returns-clause-ok c =
    let u : Table = c.args.self.now in
    put c ∙ ap (λ (g : Grid ColDef). let v : Table = record { id = u.id; row = u.row; grid = g } in v) (column_added u.grid c.args.new.now c.requires.grid c.requires.absent)

pub returns-clause-back : goal.returns-clause-back
returns-clause-back c =
    let u : Table = c.args.self.now in
    let d : ColDef = c.args.new.now in
    let j : ℕ = column_index d.row u.grid.columns in
    let cells : List CellValue = map (λ _. start_of d) u.grid.rows in
    ap (on_grid (column_out c.index_of_column-index.result)) (put c)
    ∙ ap (λ k. on_grid (column_out k) (on_grid (column_in j d cells) u)) (at c ∙ ap (λ (v : Table). column_index d.row v.grid.columns) c.self.view_is)
    ∙ ap (λ (g : Grid ColDef). let v : Table = record { id = u.id; row = u.row; grid = g } in v)
    (came_back u.grid j d cells c.requires.grid (index_within d.row u.grid.columns) (length_all (start_of d) u.grid.rows ∙ sym c.requires.grid.height))

pub returns-clause-fit : goal.returns-clause-fit
returns-clause-fit c =
    let at = c.index_of_column-index.ensures in
    let within : column_index c.args.new.now.row c.deref.result.now ≤ length c.deref.result.now = index_within c.args.new.now.row c.deref.result.now in
    let same = ap length c.deref.ensures.value in
    let more : length c.insert_reserved.new.items.items ≡ length c.reserve.new.self.items + 1 = ap length c.insert_reserved.ensures.items ∙ length_put c.reserve.new.self.items c.index_of_column-index.result c.in_ok-column.column in
    let kept = ap length c.in_ok-reserve.ensures.items in
    omega arith
