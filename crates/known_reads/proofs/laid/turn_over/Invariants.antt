use Rattle.std.proofs.Common.{◌≡◌, ◌+◌, ◌++◌, length}
use Rattle.known_reads.specs.Laid.{all_laid, all_turned}
use Rattle.known_reads.proofs.laid.turn_over.Given as goal

-- all is there, in both orders
abbrev pub invariant-turning : goal.invariant-turning
invariant-turning l = record {
  count : length l.to + length l.from ≡ length l.initial.to + length l.initial.from;
  turned : all_turned l.to ++ all_laid l.from ≡ all_turned l.initial.to ++ all_laid l.initial.from;
  laid : all_turned l.from ++ all_laid l.to ≡ all_turned l.initial.from ++ all_laid l.initial.to;
}

abbrev pub decreases-turning : goal.decreases-turning
decreases-turning l = length l.from
