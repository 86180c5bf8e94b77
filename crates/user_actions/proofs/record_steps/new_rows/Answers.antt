use Rattle.std.proofs.Common.{◌≡◌, ◌∙◌, ◌+◌, ◌-◌, ◌++◌, ◌∷◌, [], ap, sym, append_assoc}
use Rattle.user_actions.specs.Steps.{numbers_after}
use Rattle.user_actions.proofs.WalkLemmas.{numbers_next}
use Rattle.user_actions.proofs.record_steps.new_rows.Goals as goal

pub loop-index-preserved : goal.loop-index-preserved
loop-index-preserved c =
    let pushed : c.push.new.self.items ≡ c.loop-index.rows.items ++ (c.args.last + c.loop-index.index + 1) ∷ [] = c.in_ok-push.ensures.items in
    ap (λ l. l ++ numbers_after (c.args.last + (c.loop-index.index + 1)) (c.args.count - (c.loop-index.index + 1))) pushed
    ∙ append_assoc c.loop-index.rows.items ((c.args.last + c.loop-index.index + 1) ∷ []) (numbers_after (c.args.last + (c.loop-index.index + 1)) (c.args.count - (c.loop-index.index + 1)))
    ∙ ap (λ l. c.loop-index.rows.items ++ l) (sym (numbers_next c.args.last c.loop-index.index c.args.count c.loop-index-test.true))
    ∙ c.loop-index.invariant
