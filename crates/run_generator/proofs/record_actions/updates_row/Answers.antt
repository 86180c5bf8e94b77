use Rattle.std.proofs.Common.{rules, ap, ◌∙◌, ◌+◌, ◌*◌, ◌-◌, ◌≡◌, suc, arith, ◌∷◌, [], codes, true, pos}
use Rattle.doc_model.specs.declared.user_action.UserAction.TheVariants.{Update}
use Rattle.run_generator.specs.Draws.{drawn, drawn_after}
use Rattle.run_generator.specs.Script.{column, n_from, work}
use Rattle.run_generator.proofs.record_actions.updates_row.Goals as goal

pub returns-clause-drawn : goal.returns-clause-drawn
returns-clause-drawn c =
    let some = c.requires.some in
    let e : suc (2 * c.args.rows + c.args.row - 1) ≡ 2 * c.args.rows + c.args.row = omega (arith, some) in
    c.next_number-number.ensures.value ∙ ap drawn_after c.requires.drawn ∙ ap (drawn c.args.rows) e

pub returns-clause-action : goal.returns-clause-action
returns-clause-action c =
    let some = c.requires.some in
    let e : suc (2 * c.args.rows + c.args.row - 1) ≡ 2 * c.args.rows + c.args.row = omega (arith, some) in
    let number : c.next_number-number.result ≡ drawn c.args.rows (2 * c.args.rows + c.args.row) = c.next_number-number.ensures.value ∙ ap drawn_after c.requires.drawn ∙ ap (drawn c.args.rows) e in
    let columns : c.push-2.new.self ≡ column (codes "N") (n_from c.next_number-number.result ∷ []) ∷ [] = search rules in
    let ids : c.push.new.self ≡ pos c.args.row ∷ [] = search rules in
    ap (λ t. Update t true c.push.new.self c.push-2.new.self) (c.in_ok-copy_of.ensures)
    ∙ ap (λ i. Update work true i c.push-2.new.self) ids
    ∙ ap (Update work true (pos c.args.row ∷ [])) columns
    ∙ ap (λ x. Update work true (pos c.args.row ∷ []) (column (codes "N") (n_from x ∷ []) ∷ [])) number
