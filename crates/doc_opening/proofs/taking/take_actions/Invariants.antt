use Rattle.std.proofs.Common.{◌≡◌, drop}
use Rattle.doc_model.specs.Apply.{all_valid, apply_all}
use Rattle.doc_model.specs.DocumentLaws.{IsWhole}
use Rattle.doc_opening.proofs.taking.take_actions.Given as goal

-- the actions that are left lead to where all lead, and are as valid as all are
abbrev pub invariant-loop-action : goal.invariant-loop-action
invariant-loop-action g l =
    (apply_all (g.D.DocReader.document l.tables) (drop l.action-index l.actions) ≡ apply_all (g.D.DocReader.document l.initial.tables) l.actions)
    × (all_valid (g.D.DocReader.document l.tables) (drop l.action-index l.actions) ≡ all_valid (g.D.DocReader.document l.initial.tables) l.actions)
    × IsWhole (g.D.DocReader.document l.tables)
