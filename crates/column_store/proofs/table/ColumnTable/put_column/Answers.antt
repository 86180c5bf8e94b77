use Rattle.std.proofs.Common.{List, set, ◌≡◌, ap, ◌∙◌}
use Rattle.std.proofs.lemmas.List.{set-set, set-get_or}
use Rattle.doc_model.specs.declared.column.ColDef.{ColDef}
use Rattle.doc_model.specs.Document.{Table}
use Rattle.column_store.specs.contracts.table.ColumnTable.{the_view}
use Rattle.column_store.proofs.table.ColumnTable.put_column.Goals as goal

pub returns-clause-back : goal.returns-clause-back
returns-clause-back c =
    let t : Table = the_view c.self.inside in
    let cs : List ColDef = c.self.inside.columns.items in
    ap (λ cs. let u : Table = record { id = t.id; row = t.row; grid = record { columns = cs; rows = t.grid.rows; cells = t.grid.cells } } in u)
    (ap (λ xs. set xs c.args.index c.swap_at.new.item) c.swap_at.ensures.items
    ∙ set-set cs c.args.index c.args.new c.swap_at.new.item
    ∙ ap (set cs c.args.index) c.swap_at.ensures.item ∙ set-get_or cs c.args.index c.args.new)
    ∙ c.self.view_is
