use Rattle.user_actions.proofs.AllowedLemmas.{action_named}
use Rattle.user_actions.proofs.StepsValid.{all_valid-steps_of}
use Rattle.user_actions.proofs.expanding.steps.Goals as goal

pub table_name-requires : goal.table_name-requires
table_name-requires g c =
    action_named (g.D.DocReader.document c.args.tables.now) c.requires.whole c.args.action.now c.requires.allowed

pub returns-then-makes_rows-clause-valid : goal.returns-then-makes_rows-clause-valid
returns-then-makes_rows-clause-valid g c =
    let s = g.D.DocReader.document c.args.tables.now in
    all_valid-steps_of s c.requires.whole c.args.action.now c.requires.allowed c.requires.well_formed c.in_ok-steps.ensures.fresh

pub returns-clause-valid : goal.returns-clause-valid
returns-clause-valid g c =
    let s = g.D.DocReader.document c.args.tables.now in
    all_valid-steps_of s c.requires.whole c.args.action.now c.requires.allowed c.requires.well_formed c.in_ok-steps-2.ensures.fresh
