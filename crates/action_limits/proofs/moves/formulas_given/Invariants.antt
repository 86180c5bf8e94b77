use Rattle.std.proofs.Common.{◌≡◌, take}
use Rattle.doc_model.specs.Counts.{formula_bytes}
use Rattle.doc_model.proofs.TotalsLaws.{sum_of}
use Rattle.action_limits.specs.Capped.{capped}
use Rattle.action_limits.proofs.moves.formulas_given.Given as goal

abbrev pub invariant-loop-column : goal.invariant-loop-column
invariant-loop-column l = l.weight ≡ capped (sum_of formula_bytes (take l.column-index l.columns))
