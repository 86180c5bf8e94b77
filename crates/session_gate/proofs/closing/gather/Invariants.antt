use Rattle.std.proofs.Common.{vec_len}
use Rattle.session_gate.proofs.GatherLemmas.{IsGathering}
use Rattle.session_gate.proofs.closing.gather.Given as goal

abbrev pub invariant-loop-pass : goal.invariant-loop-pass
invariant-loop-pass g l = IsGathering l.shared.table_id l.fn.passes.items l.passes.items l.all

abbrev pub decreases-loop-pass : goal.decreases-loop-pass
decreases-loop-pass g l = vec_len l.passes
