use Rattle.doc_model.proofs.WellFormedLaws.{has_whole_columns-is_well_formed}
use Rattle.bundle_judge.proofs.judging.judge_steps.Goals as goal

pub expand-requires-clause-allowed : goal.expand-requires-clause-allowed
expand-requires-clause-allowed g c =
    c.seen_law.ensures.allowed c.args.ctx.now (g.D.DocReader.document c.args.tables.now) c.args.action.now c.requires.whole c.requires.unopposed

pub expand-requires-clause-well_formed : goal.expand-requires-clause-well_formed
expand-requires-clause-well_formed g c = has_whole_columns-is_well_formed c.args.action.now c.requires.well_formed

pub plan_action-requires-clause-allowed : goal.plan_action-requires-clause-allowed
plan_action-requires-clause-allowed g c =
    c.seen_law.ensures.allowed c.args.ctx.now (g.D.DocReader.document c.args.tables.now) c.args.action.now c.requires.whole c.requires.unopposed
