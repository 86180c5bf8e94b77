use Rattle.std.proofs.Common.{[], ◌∷◌, ◌≡◌, ◌∙◌, ◌+◌, ◌<◌, ◌≤◌, ap, arith}
use Rattle.doc_model.specs.declared.action.DocAction.TheVariants.{AddColumn}
use Rattle.doc_model.specs.MetadataIds.{columns_id}
use Rattle.user_actions.specs.Marked.{direct}
use Rattle.user_actions.specs.Steps.{column_ids, column_said, last_row, new_column}
use Rattle.user_actions.proofs.LoopLemmas.{otherwise}
use Rattle.user_actions.proofs.schema_steps.add_column_steps.Goals as goal

pub returns-clause-made : goal.returns-clause-made
returns-clause-made g c =
    let s = g.D.DocReader.document c.args.tables.now in
    let table = c.args.table.now in
    let last : c.last_row-last.result ≡ last_row s columns_id = c.last_row-last.ensures ∙ ap (last_row s) c.columns_table.ensures in
    otherwise c.unless_past.result (4294967295 < c.last_row-last.result + 1) _ (λ l. (c.last_row-last.result + 1 ≤ 4294967295) × (l ≡ c.in_ok-steps.steps)) (λ l. l ≡ direct (AddColumn table (column_said s table c.args.column.now)) ∷ [])
    (λ past. omega (arith, last, past))
    (λ l made.
    let fits : c.last_row-last.result + 1 ≤ 4294967295 = made.0 in
    let row : c.saturating_add.result ≡ last_row s columns_id + 1 = omega (arith, last, fits, c.saturating_add.ensures) in
    made.1 ∙ c.in_ok-steps.ensures ∙ ap (λ a. direct a ∷ []) c.in_ok-action.ensures.made
    ∙ ap (λ r. direct (AddColumn table (new_column (column_ids s table) r c.args.column.now)) ∷ []) row)
    c.unless_past.ensures
