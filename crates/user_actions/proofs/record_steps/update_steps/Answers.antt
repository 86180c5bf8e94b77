use Rattle.std.proofs.Common.{◌∙◌, sym, ap, [], ◌∷◌}
use Rattle.user_actions.specs.Marked.{direct}
use Rattle.user_actions.proofs.WalkLemmas.{any_row}
use Rattle.user_actions.proofs.record_steps.update_steps.Goals as goal

pub returns : goal.returns
returns g c =
    c.in_ok-steps.ensures ∙ ap (λ a. direct a ∷ []) c.in_ok-action.ensures
    ∙ sym (any_row c.args.rows.now _ (sym c.is_empty.ensures ∙ c.if-is_empty.false))
