use Rattle.context_changes.specs.Renewal.{AreAllSame}
use Rattle.context_changes.proofs.renewal.are_all_same.Given as goal

-- all are the same, where those that are left are, and then only
abbrev pub invariant-loop-ctx : goal.invariant-loop-ctx
invariant-loop-ctx l =
    (AreAllSame l.fields l.ctx-iterator.a.rest.now l.ctx-iterator.b.rest.now → AreAllSame l.fields l.contexts l.users)
    × (AreAllSame l.fields l.contexts l.users → AreAllSame l.fields l.ctx-iterator.a.rest.now l.ctx-iterator.b.rest.now)
