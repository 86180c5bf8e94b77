use Rattle.std.proofs.Common.{ℕ, List, map, length, ◌≡◌, subst, sym, ap, ◌∙◌, arith}
use Rattle.std.specs.List.{remove}
use Rattle.doc_model.specs.Column.{column_id}
use Rattle.doc_model.specs.Document.{Table, on_grid}
use Rattle.doc_model.specs.Grid.{Grid}
use Rattle.doc_model.specs.declared.column.ColDef.{ColDef}
use Rattle.column_store.specs.contracts.table.ColumnTable.{the_view}
use Rattle.column_store.specs.Reshaped.{column_out}
use Rattle.column_store.proofs.ReshapeLaws.{column_gone, place_within}
use Rattle.column_store.proofs.table.ColumnTable.drop_column.Goals as goal

pub remove-old-requires : goal.remove-old-requires
remove-old-requires c =
    place_within c.args.self.now c.args.id.now c.place_of-index.result _ c.self.inside.columns.items c.requires.there c.place_of-index.ensures (ap (λ (t : Table). t.grid.columns) c.self.view_is) c.self.inside.columns.ok.0

pub returns-clause-ok : goal.returns-clause-ok
returns-clause-ok c =
    let t : Table = the_view c.self.inside in
    let u : Table = c.args.self.now in
    ap (λ cs. let v : Table = record { id = t.id; row = t.row; grid = record { columns = cs; rows = t.grid.rows; cells = c.remove_column-cells.new.self.rows } } in v) c.remove-old.ensures.items
    ∙ ap (λ cells. let v : Table = record { id = t.id; row = t.row; grid = record { columns = remove t.grid.columns c.place_of-index.result; rows = t.grid.rows; cells = cells } } in v) c.remove_column-cells.ensures.rows
    ∙ ap (on_grid (column_out c.place_of-index.result)) c.self.view_is
    ∙ ap (λ i. on_grid (column_out i) u) c.place_of-index.ensures
    ∙ ap (λ (g : Grid ColDef). let v : Table = record { id = u.id; row = u.row; grid = g } in v) (column_gone u.grid c.args.id.now c.requires.grid c.requires.there)
