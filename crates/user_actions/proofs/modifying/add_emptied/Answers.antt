use Rattle.std.proofs.Common.{ℕ, List, [], ◌++◌, ◌≡◌, ◌∙◌, sym, ap, subst, true, false, not, ◌&&◌, cond, IfOk, rules}
use Rattle.cell_types.specs.declared.value.CellValue.TheVariants.{Null}
use Rattle.doc_model.specs.declared.action.Step.{Step}
use Rattle.doc_readers.specs.Parts.{grid_at}
use Rattle.user_actions.specs.CellUpdates.{update_changed}
use Rattle.user_actions.proofs.modifying.add_emptied.Goals as goal

pub returns : goal.returns
returns g c =
    let t = grid_at (g.D.DocReader.document c.args.tables.now) c.args.table.now in
    let d = c.args.known.now in
    let emptying : List ℕ → List Step = λ rows. update_changed c.args.table.now t d.id (λ _. Null) rows in
    let formula : c.args.info.now.is_formula ≡ true = search rules in
    let data' : d.info.is_formula ≡ false = search rules in
    subst (λ l. IfOk c.add_update.result (λ _. c.add_update.new.steps ≡ c.args.steps.now ++ l))
    (ap emptying c.rows_in-rows.ensures.value
    ∙ sym (ap (λ b. cond (b && not d.info.is_formula) (emptying t.rows) []) formula ∙ ap (λ b. cond (not b) (emptying t.rows) []) data'))
    (c.add_update.ensures (λ _. Null) (λ x y e. search rules))
