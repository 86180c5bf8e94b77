use Rattle.std.proofs.Common.{◌≡◌, drop, Some}
use Rattle.std.specs.List.{list_any}
use Rattle.doc_model.specs.declared.view.ViewCol.{ViewCol}
use Rattle.censored_view.specs.Ruled.{columns_in}
use Rattle.censored_view.proofs.rows.is_read_in_any.Given as goal

-- the columns that are left decide
abbrev pub invariant-loop-column : goal.invariant-loop-column
invariant-loop-column g l =
    list_any (λ (d : ViewCol). (g.X.Lets.lets l.ctx l.table).cell (Some d.id) (g.W.RowReader.told l.row)) (columns_in (drop l.column-index l.columns))
    ≡ list_any (λ (d : ViewCol). (g.X.Lets.lets l.ctx l.table).cell (Some d.id) (g.W.RowReader.told l.row)) (columns_in l.columns)
