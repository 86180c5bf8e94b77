use Rattle.std.proofs.lemmas.Result.{IfOk-weaker}
use Rattle.bundle_judge.proofs.CreatedLemmas.{created_of-first, created_of-none}
use Rattle.bundle_judge.proofs.created.created_of.Goals as goal

pub returns-in-empty : goal.returns-in-empty
returns-in-empty g c =
    IfOk-weaker c.created_alone.result _ _ (λ m e. created_of-none c.args.action.now c.args.steps.now m c.in-empty.len_below e) c.created_alone.ensures

pub returns-in-len1-up : goal.returns-in-len1-up
returns-in-len1-up g c =
    IfOk-weaker c.created_by.result _ _ (λ m e. created_of-first c.args.action.now c.args.steps.now c.step-item.result m c.in-len1-up.len_at_least c.step-item.is e) c.created_by.ensures
