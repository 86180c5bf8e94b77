use Rattle.std.proofs.Common.{◌≡◌, map, take}
use Rattle.censored_view.specs.Ruled.{columns_in}
use Rattle.censored_view.specs.View.{shown_value}
use Rattle.censored_view.proofs.rows.row_cells.Given as goal

-- the cells so far
abbrev pub invariant-loop-column : goal.invariant-loop-column
invariant-loop-column g l = l.values.items ≡ map (shown_value (g.X.Lets.lets l.ctx l.table) (g.W.RowReader.told l.row)) (columns_in (take l.column-index l.columns))
