-- What an action that is allowed names: names, and what the document has.
use Rattle.std.proofs.Common.{ℕ, Bool, true, false, cond, not, ◌&&◌, ◌||◌, List, [], ◌∷◌, ◌≡◌, refl, sym, ap, ◌∙◌, Option, Some, None}
use Rattle.std.proofs.lemmas.Bool.{and_parts, true≢false, false≢true}
use Rattle.std.specs.List.{list_all}
use Rattle.std.specs.Option.{is_some}
use Rattle.cell_types.specs.NameLength.{HasNameLength}
use Rattle.cell_types.specs.NameRule.{is_name}
use Rattle.doc_model.specs.declared.column.ColDef.{ColDef}
use Rattle.doc_model.specs.declared.user_action.UserAction.{UserAction}
use Rattle.doc_model.specs.declared.user_action.UserAction.TheVariants.{Add, Update, Remove, AddTable, RemoveTable, RenameTable, AddColumn, RemoveColumn, RenameColumn, ModifyColumn}
use Rattle.doc_model.specs.declared.user_action.UserColumn.{UserColumn}
use Rattle.doc_model.specs.ByIds.{find_id, has_id}
use Rattle.doc_model.specs.Column.{column_id}
use Rattle.doc_model.specs.Document.{Table, Document, table_id}
use Rattle.doc_model.specs.DocumentLaws.{IsWhole}
use Rattle.doc_model.specs.Grid.{Grid}
use Rattle.doc_model.specs.MetadataIds.{is_metadata_id, is_schema_id}
use Rattle.doc_model.specs.Schema.{no_grid}
use Rattle.doc_model.specs.Sound.{has_names}
use Rattle.doc_model.specs.Valid.{passes, record_table, schema_table}
use Rattle.doc_model.proofs.ByIdsLaws.{found_all, found_id, has_id-find}
use Rattle.doc_model.proofs.Choices.{each_true}
use Rattle.doc_model.proofs.DocumentParts.{passes_parts}
use Rattle.doc_readers.specs.Parts.{grid_at}
use Rattle.user_actions.specs.Allowed.{is_allowed, may_give, may_name}
use Rattle.user_actions.specs.Columns.{may_be_new, may_become}
use Rattle.user_actions.specs.Kinds.{table_of}
use Rattle.user_actions.specs.Given.{has_good_id}
use Rattle.user_actions.proofs.NameLengths.{found_length, name_length}

-- the table of a schema action
plain_found : (s : Document) (id : List ℕ) (t : Table) → schema_table s id ≡ Some t → (is_metadata_id id ≡ false) × (find_id table_id id s ≡ Some t)
plain_found s id t h =
    elim (is_metadata_id id) as (λ b. is_metadata_id id ≡ b → cond b None (find_id table_id id s) ≡ Some t → (is_metadata_id id ≡ false) × (find_id table_id id s ≡ Some t)) [
      | true ↦ λ is e. absurd (cc)
      | false ↦ λ is e. (is, e)
    ] refl h

-- it and its columns have names
plain_names : (s : Document) → IsWhole s → (id : List ℕ) (t : Table) → schema_table s id ≡ Some t → (t.id ≡ id) × (has_names t ≡ true)
plain_names s w id t h =
    let found : (is_metadata_id id ≡ false) × (find_id table_id id s ≡ Some t) = plain_found s id t h in
    let same : t.id ≡ id = found_id table_id id s t found.1 in
    let named : (is_metadata_id t.id || has_names t) ≡ true = found_all table_id (λ t. (is_metadata_id t.id || has_names t) ≡ true) id s t w.sound.names found.1 in
    (same, sym (ap (λ b. b || has_names t) (ap is_metadata_id same ∙ found.0)) ∙ named)

pub table_named : (s : Document) → IsWhole s → (id : List ℕ) (test : Table → Bool) → passes (schema_table s id) test ≡ true → is_name id ≡ true
table_named s w id test h =
    let p : (t : Table) × ((schema_table s id ≡ Some t) × (test t ≡ true)) = passes_parts (schema_table s id) test h in
    let n : (p.0.id ≡ id) × (has_names p.0 ≡ true) = plain_names s w id p.0 p.1.0 in
    ap is_name (sym n.0) ∙ (and_parts (is_name p.0.id) (list_all (λ (d : ColDef). is_name d.id) p.0.grid.columns) n.1).0

-- a column that is there has a name
column_there : (t : Table) → has_names t ≡ true → (c : List ℕ) (d : ColDef) → find_id column_id c t.grid.columns ≡ Some d → is_name c ≡ true
column_there t n c d found =
    let names : list_all (λ (d : ColDef). is_name d.id) t.grid.columns ≡ true = (and_parts (is_name t.id) (list_all (λ (d : ColDef). is_name d.id) t.grid.columns) n).1 in
    ap is_name (sym (found_id column_id c t.grid.columns d found))
    ∙ found_all column_id (λ d. is_name d.id ≡ true) c t.grid.columns d (each_true (λ d. is_name d.id) t.grid.columns names) found

-- the table of a record action
record_found : (s : Document) (id : List ℕ) (test : Table → Bool) → passes (record_table s id) test ≡ true → (t : Table) × ((find_id table_id id s ≡ Some t) × (test t ≡ true))
record_found s id test h =
    elim (is_schema_id id) as (λ b. passes (cond b None (find_id table_id id s)) test ≡ true → (t : Table) × ((find_id table_id id s ≡ Some t) × (test t ≡ true))) [
      | true ↦ λ e. absurd (false≢true e)
      | false ↦ λ e. passes_parts (find_id table_id id s) test e
    ] h

-- the columns that are given values are data columns of it
pub columns_given : (s : Document) (id : List ℕ) (before : Table → Bool) (ks : List UserColumn) → passes (record_table s id) (λ t. before t && list_all (may_give t.grid) ks) ≡ true → list_all (may_give (grid_at s id)) ks ≡ true
columns_given s id before ks h =
    let p : (t : Table) × ((find_id table_id id s ≡ Some t) × ((before t && list_all (may_give t.grid) ks) ≡ true)) = record_found s id (λ t. before t && list_all (may_give t.grid) ks) h in
    ap (λ (o : Option Table). list_all (may_give (elim o as (λ _. Grid ColDef) [ None ↦ no_grid | Some t ↦ t.grid ])) ks) p.1.0
    ∙ (and_parts (before p.0) (list_all (may_give p.0.grid) ks) p.1.1).1

there_named : (t : Table) → has_names t ≡ true → (c : List ℕ) → has_id column_id t.grid.columns c ≡ true → is_name c ≡ true
there_named t n c there =
    elim (find_id column_id c t.grid.columns) as (λ (o : Option ColDef). find_id column_id c t.grid.columns ≡ o → is_name c ≡ true) [
      | None ↦ λ none. absurd (true≢false (sym there ∙ has_id-find column_id c t.grid.columns ∙ ap is_some none))
      | Some d ↦ λ found. column_there t n c d found
    ] refl

pub column_named : (s : Document) → IsWhole s → (id c : List ℕ) (more : Table → Bool) → passes (schema_table s id) (λ t. has_id column_id t.grid.columns c && more t) ≡ true → is_name c ≡ true
column_named s w id c more h =
    let p : (t : Table) × ((schema_table s id ≡ Some t) × ((has_id column_id t.grid.columns c && more t) ≡ true)) = passes_parts (schema_table s id) (λ t. has_id column_id t.grid.columns c && more t) h in
    there_named p.0 (plain_names s w id p.0 p.1.0).1 c (and_parts (has_id column_id p.0.grid.columns c) (more p.0) p.1.1).0

pub known_column_named : (s : Document) → IsWhole s → (id c : List ℕ) (more : ColDef → Bool) → passes (schema_table s id) (λ t. passes (find_id column_id c t.grid.columns) more) ≡ true → is_name c ≡ true
known_column_named s w id c more h =
    let p : (t : Table) × ((schema_table s id ≡ Some t) × (passes (find_id column_id c t.grid.columns) more ≡ true)) = passes_parts (schema_table s id) (λ t. passes (find_id column_id c t.grid.columns) more) h in
    let d : (d : ColDef) × ((find_id column_id c p.0.grid.columns ≡ Some d) × (more d ≡ true)) = passes_parts (find_id column_id c p.0.grid.columns) more p.1.1 in
    column_there p.0 (plain_names s w id p.0 p.1.0).1 c d.0 d.1.0

pub only_column_named : (s : Document) → IsWhole s → (id c : List ℕ) → passes (schema_table s id) (λ t. has_id column_id t.grid.columns c) ≡ true → is_name c ≡ true
only_column_named s w id c h =
    let p : (t : Table) × ((schema_table s id ≡ Some t) × (has_id column_id t.grid.columns c ≡ true)) = passes_parts (schema_table s id) (λ t. has_id column_id t.grid.columns c) h in
    there_named p.0 (plain_names s w id p.0 p.1.0).1 c p.1.1

-- the new id of a column
pub new_name : (s : Document) (id c new : List ℕ) → passes (schema_table s id) (λ t. has_id column_id t.grid.columns c && is_name new) ≡ true → is_name new ≡ true
new_name s id c new h =
    let p : (t : Table) × ((schema_table s id ≡ Some t) × ((has_id column_id t.grid.columns c && is_name new) ≡ true)) = passes_parts (schema_table s id) (λ t. has_id column_id t.grid.columns c && is_name new) h in
    (and_parts (has_id column_id p.0.grid.columns c) (is_name new) p.1.1).1

-- the table of an action that is allowed has an id of the length of a name
record_length : (s : Document) → IsWhole s → (id : List ℕ) (test : Table → Bool) → passes (record_table s id) test ≡ true → HasNameLength id
record_length s w id test h = let p : (t : Table) × ((find_id table_id id s ≡ Some t) × (test t ≡ true)) = record_found s id test h in found_length s w.sound.names id p.0 p.1.0

schema_length : (s : Document) → IsWhole s → (id : List ℕ) (test : Table → Bool) → passes (schema_table s id) test ≡ true → HasNameLength id
schema_length s w id test h = name_length id (table_named s w id test h)

pub action_named : (s : Document) → IsWhole s → (a : UserAction) → is_allowed s a ≡ true → HasNameLength (table_of a)
action_named s w (Add table single count has_row_ids ks) h = record_length s w table (λ t. list_all (may_give t.grid) ks) h
action_named s w (Update table single rows ks) h = record_length s w table (λ t. may_name t.grid.rows rows && list_all (may_give t.grid) ks) h
action_named s w (Remove table single rows) h = record_length s w table (λ t. may_name t.grid.rows rows) h
action_named s w (AddTable table cs) h = name_length table (and_parts (is_name table) (list_all has_good_id cs) (and_parts (is_name table && list_all has_good_id cs) (list_all may_be_new cs) h).0).0
action_named s w (RemoveTable table) h = schema_length s w table (λ t. true) h
action_named s w (RenameTable table new) h = schema_length s w table (λ t. is_name new) h
action_named s w (AddColumn table c) h = schema_length s w table (λ t. is_name c.id && may_be_new c) h
action_named s w (RemoveColumn table column) h = schema_length s w table (λ t. has_id column_id t.grid.columns column) h
action_named s w (RenameColumn table column new) h = schema_length s w table (λ t. has_id column_id t.grid.columns column && is_name new) h
action_named s w (ModifyColumn table c) h = schema_length s w table (λ t. passes (find_id column_id c.id t.grid.columns) (λ d. may_become d.info.is_formula c)) h
