use Rattle.std.proofs.Common.{◌≡◌, ◌-◌, length, drop}
use Rattle.doc_readers.specs.Parts.{grid_at}
use Rattle.recalc.specs.Current.{has_formula}
use Rattle.recalc.proofs.current.has_formula.Given as goal

-- the rest decides
abbrev pub invariant-loop-column : goal.invariant-loop-column
invariant-loop-column g l =
    has_formula (drop l.index (grid_at (g.R.DocReader.document l.doc) l.table).columns) ≡ has_formula (grid_at (g.R.DocReader.document l.doc) l.table).columns

abbrev pub decreases-loop-column : goal.decreases-loop-column
decreases-loop-column g l = length (grid_at (g.R.DocReader.document l.doc) l.table).columns - l.index
