use Rattle.evaluated_doc.specs.WayBack.{IsWayBack}
use Rattle.bundle_judge.specs.Rollback.{led_back}
use Rattle.bundle_judge.proofs.RollbackLemmas.{IsDoing}
use Rattle.bundle_judge.proofs.rollback.do_again.Given as goal

abbrev pub invariant-loop-action : goal.invariant-loop-action
invariant-loop-action g l =
    IsDoing (led_back g.D.DocTables.fits g.D.DocTables.undone) (IsWayBack g.D.DocTables.fits g.D.DocTables.undone) (g.D.DocReader.document l.initial.doc) l.actions l.initial.traces.items l.action-index (g.D.DocReader.document l.doc) l.traces.items
