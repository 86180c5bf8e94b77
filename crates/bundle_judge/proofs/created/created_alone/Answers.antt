use Rattle.std.proofs.Common.{◌≡◌, true, ◌&&◌, ap, subst, ◌∙◌}
use Rattle.std.proofs.lemmas.Bool.{and_parts}
use Rattle.cell_types.specs.NameRule.{is_name}
use Rattle.doc_model.specs.declared.user_action.UserAction.{UserAction}
use Rattle.doc_model.specs.ByIds.{has_id}
use Rattle.doc_model.specs.Column.{column_id}
use Rattle.doc_model.specs.Document.{Table}
use Rattle.doc_model.specs.Valid.{schema_table}
use Rattle.doc_model.proofs.DocumentParts.{passes_parts}
use Rattle.user_actions.specs.Allowed.{is_allowed}
use Rattle.user_actions.proofs.AllowedLemmas.{table_named}
use Rattle.bundle_judge.proofs.created.created_alone.Goals as goal

pub name_of-requires-in-RenameColumn : goal.name_of-requires-in-RenameColumn
name_of-requires-in-RenameColumn g c =
    let s = g.D.DocReader.document c.args.tables.now in
    let P : UserAction → Type 0 = λ a. is_allowed s a ≡ true in
    ap is_name c.as_str-in-RenameColumn.ensures
    ∙ table_named s c.requires.whole c.in-RenameColumn.table (λ t. has_id column_id t.grid.columns c.in-RenameColumn.column && is_name c.in-RenameColumn.new) (subst P c.in-RenameColumn.is c.requires.allowed)

pub name_of-requires-in-RenameColumn-2 : goal.name_of-requires-in-RenameColumn-2
name_of-requires-in-RenameColumn-2 g c =
    let s = g.D.DocReader.document c.args.tables.now in
    let P : UserAction → Type 0 = λ a. is_allowed s a ≡ true in
    let test : Table → _ = λ t. has_id column_id t.grid.columns c.in-RenameColumn.column && is_name c.in-RenameColumn.new in
    let p = passes_parts (schema_table s c.in-RenameColumn.table) test (subst P c.in-RenameColumn.is c.requires.allowed) in
    ap is_name c.as_str-in-RenameColumn-2.ensures
    ∙ (and_parts (has_id column_id p.0.grid.columns c.in-RenameColumn.column) (is_name c.in-RenameColumn.new) p.1.1).1
