use Rattle.std.proofs.Common.{◌≡◌, take}
use Rattle.doc_model.specs.Counts.{formula_bytes}
use Rattle.doc_model.proofs.TotalsLaws.{sum_of}
use Rattle.doc_readers.specs.Parts.{grid_at}
use Rattle.action_limits.specs.Capped.{capped}
use Rattle.action_limits.proofs.weighing.formulas_weight.Given as goal

abbrev pub invariant-loop-index : goal.invariant-loop-index
invariant-loop-index g l =
    l.weight ≡ capped (sum_of formula_bytes (take l.index (grid_at (g.D.DocReader.document l.tables) l.table).columns))
