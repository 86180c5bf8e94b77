use Rattle.std.proofs.Common.{◌≡◌, take}
use Rattle.doc_model.proofs.TotalsLaws.{sum_of}
use Rattle.action_limits.specs.Capped.{capped, counted_cells}
use Rattle.action_limits.proofs.limits.all_cells.Given as goal

abbrev pub invariant-loop-index : goal.invariant-loop-index
invariant-loop-index g l = l.cells ≡ capped (sum_of counted_cells (take l.index (g.D.DocReader.document l.tables)))
