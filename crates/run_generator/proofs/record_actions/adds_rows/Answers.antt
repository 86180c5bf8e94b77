use Rattle.std.proofs.Common.{rules, ap, ◌∙◌, ◌+◌, ◌*◌, ◌≡◌, ◌∷◌, [], codes, false}
use Rattle.doc_model.specs.declared.user_action.UserAction.TheVariants.{Add}
use Rattle.run_generator.specs.Draws.{drawn}
use Rattle.run_generator.specs.Script.{column, rows_in, work}
use Rattle.run_generator.proofs.ScriptLemmas.{adds_rows_is, bundle_draws, draws_before_bundle}
use Rattle.run_generator.proofs.record_actions.adds_rows.Goals as goal

pub returns-clause-drawn : goal.returns-clause-drawn
returns-clause-drawn c =
    let rows = c.args.rows in
    let bundle = c.args.bundle in
    let made = c.in_ok-k.ensures.made rows (500 * bundle) (c.requires.drawn ∙ ap (drawn rows) (draws_before_bundle rows bundle c.requires.there)) in
    let count : c.min-count.result ≡ rows_in rows bundle = search rules in
    made.last ∙ ap (λ k. drawn rows (2 * (500 * bundle + k))) count ∙ ap (drawn rows) (bundle_draws rows bundle c.requires.there)

pub returns-clause-action : goal.returns-clause-action
returns-clause-action c =
    let rows = c.args.rows in
    let bundle = c.args.bundle in
    let made = c.in_ok-k.ensures.made rows (500 * bundle) (c.requires.drawn ∙ ap (drawn rows) (draws_before_bundle rows bundle c.requires.there)) in
    let count : c.min-count.result ≡ rows_in rows bundle = search rules in
    let columns : c.push-2.new.self ≡ column (codes "K") c.in_ok-k.field-0.k.items ∷ column (codes "N") c.in_ok-k.field-0.n.items ∷ [] = search rules in
    ap (λ t. Add t false c.min-count.result false c.push-2.new.self) (c.in_ok-copy_of.ensures)
    ∙ ap (Add work false c.min-count.result false) columns
    ∙ adds_rows_is rows bundle c.min-count.result c.in_ok-k.field-0.number c.in_ok-k.field-0.k.items c.in_ok-k.field-0.n.items made count
