use Rattle.std.proofs.Common.{◌≡◌, [], ◌∷◌, ◌++◌, length, reverse, sym, ap, ◌∙◌, arith}
use Rattle.std.proofs.lemmas.List.{append_assoc, length_push, reverse-append}
use Rattle.doc_model.specs.declared.action.Step.{Step}
use Rattle.bundle_judge.specs.SplitSteps.{joined}
use Rattle.bundle_judge.proofs.StepLemmas.{joined_last}
use Rattle.bundle_judge.proofs.split_steps.SplitSteps.of.Goals as goal

pub loop-step-preserved : goal.loop-step-preserved
loop-step-preserved c =
    let l = c.loop-step in
    let x : Step = c.in-Some.step in
    let actions = l.actions.items in
    let marks = l.marks.items in
    let rest = c.pop.new.self.items in
    let more_actions : c.push.new.self.items ≡ actions ++ x.action ∷ [] = c.in_ok-push.ensures.items in
    let more_marks : c.push-in-Some.new.self.items ≡ marks ++ x.direct ∷ [] = c.in_ok-push-2.ensures.items in
    let left : l.left.items ≡ rest ++ x ∷ [] = c.in-Some.ensures.items in (
      ap (λ as'. joined as' c.push-in-Some.new.self.items ++ reverse rest) more_actions
          ∙ ap (λ ms. joined (actions ++ x.action ∷ []) ms ++ reverse rest) more_marks
          ∙ ap (λ xs. xs ++ reverse rest) (joined_last actions marks x.action x.direct l.invariant.1)
          ∙ append_assoc (joined actions marks) (x ∷ []) (reverse rest)
          ∙ ap (λ xs. joined actions marks ++ xs) (sym (reverse-append rest (x ∷ [])))
          ∙ ap (λ xs. joined actions marks ++ reverse xs) (sym left)
          ∙ l.invariant.0,
      omega (arith, ap length more_actions, ap length more_marks, length_push actions x.action, length_push marks x.direct, l.invariant.1),
    )
