use Rattle.std.proofs.Common.{sym, ap, subst, ◌∙◌}
use Rattle.doc_model.specs.Column.{column_id}
use Rattle.doc_model.specs.Document.{Table, on_grid}
use Rattle.doc_model.specs.Grid.{IsGrid}
use Rattle.doc_model.specs.Records.{remove_rows}
use Rattle.row_tables.specs.contracts.table.RowTable.{the_view}
use Rattle.row_tables.proofs.TakenLaws.{taken_table}
use Rattle.row_tables.proofs.table.RowTable.take_rows.Goals as goal

pub returns-clause-ok : goal.returns-clause-ok
returns-clause-ok c =
    taken_table (the_view c.self.inside) c.args.gone.now c.take_out.new.rows.items c.take_out.new.cells.items (subst (λ (t : Table). IsGrid column_id t.grid) (sym c.self.view_is) c.requires)
    c.take_out.ensures.rows c.take_out.ensures.cells
    ∙ ap (on_grid (remove_rows column_id c.args.gone.now)) c.self.view_is
