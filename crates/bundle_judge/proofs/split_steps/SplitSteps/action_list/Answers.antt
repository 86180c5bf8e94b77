use Rattle.std.proofs.Common.{List, map, sym, ap, ◌∙◌}
use Rattle.doc_model.specs.declared.action.Step.{Step}
use Rattle.user_actions.specs.StepLaws.{action_of}
use Rattle.bundle_judge.proofs.StepLemmas.{joined_actions}
use Rattle.bundle_judge.proofs.split_steps.SplitSteps.action_list.Goals as goal

pub returns : goal.returns
returns c =
    sym (joined_actions c.self.inside.actions c.self.inside.marks.items c.self.invariant)
    ∙ ap (λ (xs : List Step). map action_of xs) c.self.view_is
