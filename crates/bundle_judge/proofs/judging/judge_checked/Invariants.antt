use Rattle.std.proofs.Common.{◌≡◌, []}
use Rattle.bundle_judge.specs.CarriedContexts.{carried_context, is_kept}
use Rattle.bundle_judge.specs.JudgedActions.{IsAt}
use Rattle.bundle_judge.specs.Losses.{AreTold}
use Rattle.bundle_judge.specs.Rollback.{AllLeadBack, gone_back}
use Rattle.bundle_judge.proofs.judging.judge_checked.Given as goal

abbrev pub invariant-loop-index : goal.invariant-loop-index
invariant-loop-index g l =
    IsAt (carried_context l.initial.carried) (g.D.DocReader.document l.initial.doc) l.requested l.index (carried_context l.carried) (g.D.DocReader.document l.doc) l.steps.items [] l.created.items l.tally
    × AllLeadBack g.D.DocTables.fits g.D.DocTables.undone l.trail.traces.items (g.D.DocReader.document l.doc)
    × (gone_back g.D.DocTables.fits g.D.DocTables.undone l.trail.traces.items (g.D.DocReader.document l.doc) ≡ g.D.DocReader.document l.initial.doc)
    × (is_kept l.carried ≡ is_kept l.initial.carried)
    × AreTold (g.D.DocReader.document l.initial.doc) l.steps.items l.initial.trail.traces.items l.trail.traces.items l.initial.trail.inverse l.trail.inverse
