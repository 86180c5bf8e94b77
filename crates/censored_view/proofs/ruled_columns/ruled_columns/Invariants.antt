use Rattle.std.proofs.Common.{◌≡◌, take}
use Rattle.censored_view.specs.Ruled.{AreRuled, columns_in}
use Rattle.censored_view.proofs.ruled_columns.ruled_columns.Given as goal

-- the columns so far
abbrev pub invariant-loop-column : goal.invariant-loop-column
invariant-loop-column g l = (columns_in l.ruled.items ≡ take l.column-index l.columns) × AreRuled (g.X.Lets.lets l.ctx l.table) l.ruled.items
