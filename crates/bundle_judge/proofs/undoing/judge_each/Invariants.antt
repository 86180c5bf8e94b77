use Rattle.std.proofs.Common.{◌≡◌, take}
use Rattle.doc_model.specs.DocumentLaws.{IsWhole}
use Rattle.bundle_judge.specs.CarriedContexts.{carried_context, is_kept}
use Rattle.bundle_judge.specs.Losses.{AreTold}
use Rattle.bundle_judge.specs.Rollback.{AllLeadBack, gone_back}
use Rattle.bundle_judge.specs.UndoneSteps.{IsUndoAt}
use Rattle.bundle_judge.proofs.undoing.judge_each.Given as goal

abbrev pub invariant-loop-index : goal.invariant-loop-index
invariant-loop-index g l =
    IsUndoAt (carried_context l.initial.carried) (g.D.DocReader.document l.initial.doc) l.steps l.index (carried_context l.carried) (g.D.DocReader.document l.doc) l.tally
    × IsWhole (g.D.DocReader.document l.doc)
    × AllLeadBack g.D.DocTables.fits g.D.DocTables.undone l.trail.traces.items (g.D.DocReader.document l.doc)
    × (gone_back g.D.DocTables.fits g.D.DocTables.undone l.trail.traces.items (g.D.DocReader.document l.doc) ≡ g.D.DocReader.document l.initial.doc)
    × (is_kept l.carried ≡ is_kept l.initial.carried)
    × AreTold (g.D.DocReader.document l.initial.doc) (take l.index l.steps) l.initial.trail.traces.items l.trail.traces.items l.initial.trail.inverse l.trail.inverse
