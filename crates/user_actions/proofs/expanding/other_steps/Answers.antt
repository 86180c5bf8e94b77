use Rattle.std.proofs.Common.{◌∙◌, sym, ap, ℕ, ℤ, List}
use Rattle.std.specs.List.{list_all}
use Rattle.cell_types.specs.NameRule.{is_name}
use Rattle.user_actions.specs.Allowed.{is_allowed, may_give, may_name}
use Rattle.doc_model.specs.declared.action.DocAction.TheVariants.{BulkUpdate}
use Rattle.doc_model.specs.declared.action.Step.{Step}
use Rattle.doc_model.specs.declared.user_action.UserColumn.{UserColumn}
use Rattle.doc_model.specs.Document.{Document}
use Rattle.doc_model.specs.ViewEdits.{if_any}
use Rattle.doc_readers.specs.Parts.{grid_at}
use Rattle.user_actions.specs.Columns.{may_become}
use Rattle.user_actions.specs.Kinds.{table_of}
use Rattle.user_actions.specs.Marked.{direct}
use Rattle.user_actions.specs.Steps.{all_fitted, row_ids, steps_of}
use Rattle.user_actions.proofs.AllowedLemmas.{columns_given, column_named, only_column_named, known_column_named, new_name}
use Rattle.user_actions.proofs.expanding.other_steps.Goals as goal

pub update_steps-requires : goal.update_steps-requires
update_steps-requires g c =
    let s = g.D.DocReader.document c.args.tables.now in
    ap (λ ks. list_all (may_give (grid_at s c.args.table.now)) ks) c.as_slice.ensures
    ∙ ap (λ id. list_all (may_give (grid_at s id)) c.in-Update.columns) (c.requires.named ∙ ap table_of c.in-Update.is)
    ∙ columns_given s c.in-Update.table (λ t. may_name t.grid.rows c.in-Update.rows) c.in-Update.columns (sym (ap (is_allowed s) c.in-Update.is) ∙ c.requires.allowed)

pub remove_column_steps-requires : goal.remove_column_steps-requires
remove_column_steps-requires g c =
    let s = g.D.DocReader.document c.args.tables.now in
    ap is_name c.as_str-in-RemoveColumn.ensures
    ∙ only_column_named s c.requires.whole c.in-RemoveColumn.table c.in-RemoveColumn.column (sym (ap (is_allowed s) c.in-RemoveColumn.is) ∙ c.requires.allowed)

pub rename_column_steps-requires-clause-old : goal.rename_column_steps-requires-clause-old
rename_column_steps-requires-clause-old g c =
    let s = g.D.DocReader.document c.args.tables.now in
    ap is_name c.as_str-in-RenameColumn.ensures
    ∙ column_named s c.requires.whole c.in-RenameColumn.table c.in-RenameColumn.column (λ t. is_name c.in-RenameColumn.new) (sym (ap (is_allowed s) c.in-RenameColumn.is) ∙ c.requires.allowed)

pub rename_column_steps-requires-clause-name : goal.rename_column_steps-requires-clause-name
rename_column_steps-requires-clause-name g c =
    let s = g.D.DocReader.document c.args.tables.now in
    ap is_name c.as_str-in-RenameColumn-2.ensures
    ∙ new_name s c.in-RenameColumn.table c.in-RenameColumn.column c.in-RenameColumn.new (sym (ap (is_allowed s) c.in-RenameColumn.is) ∙ c.requires.allowed)

pub modify_steps-requires-clause-name : goal.modify_steps-requires-clause-name
modify_steps-requires-clause-name g c =
    let s = g.D.DocReader.document c.args.tables.now in
    known_column_named s c.requires.whole c.in-ModifyColumn.table c.in-ModifyColumn.column.id (λ d. may_become d.info.is_formula c.in-ModifyColumn.column) (sym (ap (is_allowed s) c.in-ModifyColumn.is) ∙ c.requires.allowed)

pub returns-in_ok-steps-in-Update-clause-made : goal.returns-in_ok-steps-in-Update-clause-made
returns-in_ok-steps-in-Update-clause-made g c =
    let s : Document = g.D.DocReader.document c.args.tables.now in
    let made : List ℕ → List ℤ → List UserColumn → List Step = λ table rows ks. if_any (row_ids rows) (direct (BulkUpdate table (row_ids rows) (all_fitted s table ks))) in
    c.in_ok-steps-in-Update.ensures
    ∙ ap (λ t. made t c.as_slice-rows.result.now c.as_slice.result.now) (c.requires.named ∙ ap table_of c.in-Update.is)
    ∙ ap (λ rows. made c.in-Update.table rows c.as_slice.result.now) c.as_slice-rows.ensures
    ∙ ap (λ ks. made c.in-Update.table c.in-Update.rows ks) c.as_slice.ensures
    ∙ sym (ap (steps_of s) c.in-Update.is)
