use Rattle.std.proofs.Common.{◌≡◌, take}
use Rattle.doc_model.proofs.TotalsLaws.{sum_of}
use Rattle.action_limits.specs.Capped.{capped, counted_weight}
use Rattle.action_limits.proofs.limits.all_weight.Given as goal

abbrev pub invariant-loop-index : goal.invariant-loop-index
invariant-loop-index g l = l.weight ≡ capped (sum_of counted_weight (take l.index (g.D.DocReader.document l.tables)))
