use Rattle.evaluated_doc.specs.WayBack.{IsWayBack}
use Rattle.bundle_judge.specs.Rollback.{led_back}
use Rattle.bundle_judge.proofs.RollbackLemmas.{IsUndoing}
use Rattle.bundle_judge.proofs.rollback.go_back_all.Given as goal

abbrev pub invariant-loop-trace : goal.invariant-loop-trace
invariant-loop-trace g l = IsUndoing (led_back g.D.DocTables.fits g.D.DocTables.undone) (IsWayBack g.D.DocTables.fits g.D.DocTables.undone) l.initial.traces.items (g.D.DocReader.document l.initial.doc) l.traces.items (g.D.DocReader.document l.doc)

abbrev pub decreases-loop-trace : goal.decreases-loop-trace
decreases-loop-trace g l = goal.left-loop-trace g l
