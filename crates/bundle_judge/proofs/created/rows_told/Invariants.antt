use Rattle.std.proofs.Common.{◌≡◌, map, take}
use Rattle.censored_view.specs.View.{view}
use Rattle.bundle_judge.specs.Created.{row_told}
use Rattle.bundle_judge.proofs.created.rows_told.Given as goal

abbrev pub invariant-loop-row : goal.invariant-loop-row
invariant-loop-row g l = l.told.items ≡ map (row_told (view (g.X.Lets.lets l.ctx) (g.D.DocReader.document l.tables)) l.table) (take l.row-index l.rows)
