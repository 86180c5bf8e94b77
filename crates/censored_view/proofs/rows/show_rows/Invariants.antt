use Rattle.std.proofs.Common.{◌≡◌, map, take}
use Rattle.censored_view.specs.View.{shown_rows}
use Rattle.censored_view.proofs.rows.show_rows.Given as goal

-- what is shown so far
abbrev pub invariant-loop-row : goal.invariant-loop-row
invariant-loop-row g l =
    (l.shown.rows.items ≡ (shown_rows (g.X.Lets.lets l.ctx l.table) l.table l.columns (map g.W.RowReader.told (take l.row-index l.rows))).rows)
    × (l.shown.cells.items ≡ (shown_rows (g.X.Lets.lets l.ctx l.table) l.table l.columns (map g.W.RowReader.told (take l.row-index l.rows))).cells)
