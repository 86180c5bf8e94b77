use Rattle.std.proofs.Common.{refl}
use Rattle.doc_model.specs.Column.{column_id}
use Rattle.doc_model.specs.Grid.{cell}
use Rattle.doc_readers.specs.Parts.{grid_at}
use Rattle.user_actions.proofs.UpdateLemmas.{change_told}
use Rattle.user_actions.proofs.cell_updates.change_of.Goals as goal

pub returns : goal.returns
returns g c = λ f h.
    let t = grid_at (g.D.DocReader.document c.args.tables.now) c.args.table.now in
    change_told c.if_other.result c.in_ok-cell.cell c.in_ok-changed.changed (cell column_id t c.args.column.now c.args.row) f c.in_ok-cell.ensures
    (h c.in_ok-cell.cell c.in_ok-changed.changed (record { shown = _; shows = refl; says = record { met = c.in_ok-changed.ensures } })) c.if_other.ensures
