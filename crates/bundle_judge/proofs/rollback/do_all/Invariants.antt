use Rattle.std.proofs.Common.{map}
use Rattle.doc_model.specs.DocumentLaws.{IsWhole}
use Rattle.user_actions.specs.StepLaws.{action_of}
use Rattle.evaluated_doc.specs.WayBack.{IsWayBack}
use Rattle.bundle_judge.specs.Rollback.{led_back}
use Rattle.bundle_judge.proofs.RollbackLemmas.{IsDoing}
use Rattle.bundle_judge.proofs.ToldLemmas.{IsTelling}
use Rattle.bundle_judge.proofs.rollback.do_all.Given as goal

abbrev pub invariant-loop-step : goal.invariant-loop-step
invariant-loop-step g l =
    IsDoing (led_back g.D.DocTables.fits g.D.DocTables.undone) (IsWayBack g.D.DocTables.fits g.D.DocTables.undone) (g.D.DocReader.document l.initial.doc) (map action_of l.steps) l.initial.trail.traces.items l.step-index (g.D.DocReader.document l.doc) l.trail.traces.items
    × IsWhole (g.D.DocReader.document l.doc)
    × IsTelling (g.D.DocReader.document l.initial.doc) l.steps l.step-index (g.D.DocReader.document l.doc) l.initial.trail.traces.items l.trail.traces.items l.initial.trail.inverse l.trail.inverse
