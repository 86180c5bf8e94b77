use Rattle.std.proofs.Common.{◌≡◌, ◌-◌, [], length, drop}
use Rattle.doc_model.specs.DocumentLaws.{IsWhole}
use Rattle.recalc.specs.Evaluated.{formula_cells}
use Rattle.affected_search.specs.TouchedReads.{with_cells}
use Rattle.affected_search.specs.Touches.{tells}
use Rattle.affected_search.proofs.touched_reads.reads_touched.Given as goal

-- the tables so far, and those that are to come
abbrev pub invariant-loop-table : goal.invariant-loop-table
invariant-loop-table g l = IsWhole (g.R.DocReader.document l.tables)
    → with_cells (tells l.touches) l.graph l.found (formula_cells (drop l.index (g.R.DocReader.document l.tables)))
    ≡ with_cells (tells l.touches) l.graph [] (formula_cells (g.R.DocReader.document l.tables))

abbrev pub decreases-loop-table : goal.decreases-loop-table
decreases-loop-table g l = length (g.R.DocReader.document l.tables) - l.index
