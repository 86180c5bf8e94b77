use Rattle.std.proofs.Common.{[], ◌∷◌, ◌≡◌, ◌∙◌, ◌+◌, ◌<◌, ◌≤◌, ap, length, arith}
use Rattle.doc_model.specs.declared.action.DocAction.TheVariants.{AddTable}
use Rattle.doc_model.specs.MetadataIds.{columns_id, tables_id}
use Rattle.name_rules.specs.FreeName.{free_name}
use Rattle.user_actions.specs.Marked.{direct}
use Rattle.user_actions.specs.Steps.{last_row, new_columns, table_ids, table_said}
use Rattle.user_actions.proofs.LoopLemmas.{otherwise}
use Rattle.user_actions.proofs.schema_steps.add_table_steps.Goals as goal

pub returns-clause-made : goal.returns-clause-made
returns-clause-made g c =
    let s = g.D.DocReader.document c.args.tables.now in
    let table = c.args.table.now in
    let cs = c.args.columns.now in
    let row : c.last_row-row.result ≡ last_row s tables_id = c.last_row-row.ensures ∙ ap (last_row s) c.tables_table.ensures in
    let last : c.last_row-last.result ≡ last_row s columns_id = c.last_row-last.ensures ∙ ap (last_row s) c.columns_table.ensures in
    otherwise c.unless_past.result (4294967295 < c.max-greatest.result) _ (λ l. (c.max-greatest.result ≤ 4294967295) × (l ≡ c.in_ok-steps.steps)) (λ l. l ≡ direct (table_said s table cs) ∷ [])
    (λ past. omega (arith, row, last, past, c.max-greatest.ensures, c.saturating_add.ensures))
    (λ l made.
    let fits : c.max-greatest.result ≤ 4294967295 = made.0 in
    let within : c.last_row-last.result + length cs ≤ 4294967295 = omega (arith, fits, c.max-greatest.ensures, c.saturating_add.ensures) in
    let next : c.saturating_add-2.result ≡ last_row s tables_id + 1 = omega (arith, row, fits, c.max-greatest.ensures, c.saturating_add-2.ensures) in
    made.1 ∙ c.in_ok-steps.ensures ∙ ap (λ a. direct a ∷ []) (c.in_ok-action.ensures.made within)
    ∙ ap (λ r. direct (AddTable (free_name (table_ids s) table) r (new_columns [] c.last_row-last.result cs)) ∷ []) next
    ∙ ap (λ n. direct (AddTable (free_name (table_ids s) table) (last_row s tables_id + 1) (new_columns [] n cs)) ∷ []) last)
    c.unless_past.ensures
