use Rattle.watched_core.proofs.TellLemmas.{ToldSoFar}
use Rattle.watched_core.proofs.telling.tell_each.Given as goal

abbrev pub invariant-loop-index : goal.invariant-loop-index
invariant-loop-index g l = ToldSoFar l.core.state l.given l.counts l.initial.watchers l.watchers l.index l.place
