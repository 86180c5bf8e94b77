use Rattle.std.proofs.Common.{ℕ, List, [], ◌++◌, ◌≡◌, ◌∙◌, sym, ap, subst, true, false, cond, IfOk, rules}
use Rattle.cell_types.specs.declared.value.CellValue.{CellValue}
use Rattle.cell_types.specs.Conversion.{default_value, fit}
use Rattle.doc_model.specs.declared.action.Step.{Step}
use Rattle.doc_readers.specs.Parts.{grid_at}
use Rattle.user_actions.specs.CellUpdates.{update_changed}
use Rattle.user_actions.proofs.modifying.add_filled.Goals as goal

pub returns-then-known : goal.returns-then-known
returns-then-known g c =
    let t = grid_at (g.D.DocReader.document c.args.tables.now) c.args.table.now in
    let d = c.args.known.now in
    let info = c.args.info.now in
    let filling : (CellValue → CellValue) → List ℕ → List Step = λ f rows. update_changed c.args.table.now t d.id f rows in
    let data' : info.is_formula ≡ false = search rules in
    let formula : d.info.is_formula ≡ true = search rules in
    subst (λ l. IfOk c.add_update.result (λ _. c.add_update.new.steps ≡ c.args.steps.now ++ l))
    (ap (filling (λ _. default_value info.ty)) c.rows_in-rows.ensures.value
    ∙ sym (ap (λ b. cond b [] (cond d.info.is_formula (filling (λ _. default_value info.ty) t.rows) (filling (fit info.ty) t.rows))) data'
    ∙ ap (λ b. cond b (filling (λ _. default_value info.ty) t.rows) (filling (fit info.ty) t.rows)) formula))
    (c.add_update.ensures (λ _. default_value info.ty) (λ x y e. search rules))

pub returns : goal.returns
returns g c =
    let t = grid_at (g.D.DocReader.document c.args.tables.now) c.args.table.now in
    let d = c.args.known.now in
    let info = c.args.info.now in
    let filling : (CellValue → CellValue) → List ℕ → List Step = λ f rows. update_changed c.args.table.now t d.id f rows in
    let data' : info.is_formula ≡ false = search rules in
    let before : d.info.is_formula ≡ false = search rules in
    subst (λ l. IfOk c.add_update-2.result (λ _. c.add_update-2.new.steps ≡ c.args.steps.now ++ l))
    (ap (filling (fit info.ty)) c.rows_in-rows.ensures.value
    ∙ sym (ap (λ b. cond b [] (cond d.info.is_formula (filling (λ _. default_value info.ty) t.rows) (filling (fit info.ty) t.rows))) data'
    ∙ ap (λ b. cond b (filling (λ _. default_value info.ty) t.rows) (filling (fit info.ty) t.rows)) before))
    (c.add_update-2.ensures (fit info.ty) (λ x y e. search rules))
