-- The steps of schema actions are valid.
use Rattle.std.proofs.Common.{ℕ, ◌+◌, Bool, true, false, cond, not, ◌&&◌, ◌||◌, List, [], ◌∷◌, ◌++◌, map, length, ◌≡◌, refl, sym, ap, ◌∙◌, Option, Some, None, arith}
use Rattle.std.proofs.lemmas.Bool.{and_parts, true≢false}
use Rattle.std.proofs.lemmas.List.Folds.{list_any-append}
use Rattle.std.proofs.lemmas.Slice.Eq.{bytes_eq-Decides}
use Rattle.std.specs.List.{list_all}
use Rattle.std.specs.Str.{bytes_eq}
use Rattle.cell_types.specs.NameRule.{is_name}
use Rattle.doc_model.specs.declared.action.DocAction.TheVariants.{RemoveTable, RenameTable, AddColumn, RemoveColumn, RenameColumn}
use Rattle.doc_model.specs.declared.column.ColDef.{ColDef}
use Rattle.doc_model.specs.declared.user_action.UserCol.{UserCol}
use Rattle.doc_model.specs.ByIds.{are_distinct, find_id, has_id}
use Rattle.doc_model.specs.Column.{column_id, column_row, is_sound_info}
use Rattle.doc_model.specs.Document.{Table, Document, table_id}
use Rattle.doc_model.specs.Grid.{Grid}
use Rattle.doc_model.specs.MetadataIds.{is_metadata_id, tables_id, columns_id}
use Rattle.doc_model.specs.Rows.{has, none_in}
use Rattle.doc_model.specs.Schema.{no_grid}
use Rattle.doc_model.specs.Valid.{are_free, is_new_column, is_new_table, passes, rows_of, schema_table, valid}
use Rattle.doc_model.proofs.ByIdsLaws.{bytes_apart, bytes_itself}
use Rattle.doc_model.proofs.Choices.{both_true}
use Rattle.doc_model.proofs.DocumentParts.{passes_parts}
use Rattle.doc_model.proofs.TableSteps.{free_from, one_free}
use Rattle.doc_model.proofs.TimesLaws.{once_ascending}
use Rattle.doc_readers.specs.Parts.{grid_at}
use Rattle.name_rules.specs.FreeName.{free_name, is_taken}
use Rattle.user_actions.specs.Columns.{info_said, may_be_new, new_info}
use Rattle.user_actions.specs.StepLaws.{AreFresh}
use Rattle.user_actions.specs.Steps.{column_ids, column_said, last_row, new_columns, numbers_after, table_ids, table_said}
use Rattle.user_actions.proofs.ColumnLemmas.{new_sound}
use Rattle.user_actions.proofs.RecordStepLemmas.{above_from_one, above_none_in, has_greater, numbers_above, numbers_ascend}

-- ---- ids

pub bytes_symm : (c e : List ℕ) → bytes_eq c e ≡ bytes_eq e c
bytes_symm c e =
    elim (bytes_eq c e) as (λ b. bytes_eq c e ≡ b → b ≡ bytes_eq e c) [
      | true ↦ λ is. let same : c ≡ e = (bytes_eq-Decides c e).0 is in sym (ap (λ x. bytes_eq x c) (sym same) ∙ bytes_itself c)
      | false ↦ λ isnt. sym (bytes_apart c e isnt)
    ] refl

-- an id is taken where something has it
pub is_taken-ids : {X : Type 0} (id : X → List ℕ) (xs : List X) (n : List ℕ) → is_taken (map id xs) n ≡ has_id id xs n
is_taken-ids id [] n = refl
is_taken-ids id (x ∷ xs) n = ap (λ b. b || is_taken (map id xs) n) (bytes_symm n (id x)) ∙ ap (λ b. bytes_eq (id x) n || b) (is_taken-ids id xs n)

new_id : {X : Type 0} (id : X → List ℕ) (xs : List X) (n : List ℕ) → is_taken (map id xs) n ≡ false → is_name n ≡ true → (not (has_id id xs n) && is_name n) ≡ true
new_id id xs n free named = both_true (not (has_id id xs n)) (is_name n) (ap not (sym (is_taken-ids id xs n) ∙ free)) named

-- ---- tables

passes_weaker : {X : Type 0} (o : Option X) (test holds : X → Bool) → ((x : X) → o ≡ Some x → test x ≡ true → holds x ≡ true) → passes o test ≡ true → passes o holds ≡ true
passes_weaker o test holds each h =
    let p = passes_parts o test h in
    ap (λ q. passes q holds) p.1.0 ∙ each p.0 p.1.0 p.1.1

pub plain_grid : (s : Document) (id : List ℕ) (t : Table) → schema_table s id ≡ Some t → grid_at s id ≡ t.grid
plain_grid s id t h =
    elim (is_metadata_id id) as (λ b. cond b None (find_id table_id id s) ≡ Some t → grid_at s id ≡ t.grid) [
      | true ↦ λ e. absurd (cc)
      | false ↦ λ e. ap (λ (o : Option Table). elim o as (λ _. Grid ColDef) [ None ↦ no_grid | Some t ↦ t.grid ]) e
    ] h

rows_of-grid : (s : Document) (id : List ℕ) → rows_of s id ≡ (grid_at s id).rows
rows_of-grid s id =
    elim (find_id table_id id s) as (λ (o : Option Table). elim o as (λ _. List ℕ) [ None ↦ [] | Some t ↦ t.grid.rows ] ≡ (elim o as (λ _. Grid ColDef) [ None ↦ no_grid | Some t ↦ t.grid ]).rows) [
      | None ↦ refl
      | Some t ↦ refl
    ]

next_free : (s : Document) (id : List ℕ) → are_free s id ((last_row s id + 1) ∷ []) ≡ true
next_free s id =
    one_free s id (last_row s id + 1) (omega arith)
    (ap (λ rows. has rows (last_row s id + 1)) (rows_of-grid s id) ∙ has_greater (grid_at s id).rows (last_row s id + 1) (omega arith))

pub valid-rename_table : (s : Document) (table n : List ℕ) (test : Table → Bool) → passes (schema_table s table) test ≡ true → is_taken (table_ids s) n ≡ false → is_name n ≡ true → valid s (RenameTable table n) ≡ true
valid-rename_table s table n test h free named = passes_weaker (schema_table s table) test (λ _. is_new_table s n) (λ t found _. new_id table_id s n free named) h

pub valid-remove_table : (s : Document) (table : List ℕ) (test : Table → Bool) → passes (schema_table s table) test ≡ true → valid s (RemoveTable table) ≡ true
valid-remove_table s table test h = passes_weaker (schema_table s table) test (λ _. true) (λ t found _. refl) h

new_in : (s : Document) (table n : List ℕ) (t : Table) → schema_table s table ≡ Some t → is_taken (column_ids s table) n ≡ false → is_name n ≡ true → is_new_column t.grid n ≡ true
new_in s table n t found free named = new_id column_id t.grid.columns n (ap (λ (g : Grid ColDef). is_taken (map column_id g.columns) n) (sym (plain_grid s table t found)) ∙ free) named

pub valid-rename_column : (s : Document) (table column new n : List ℕ) → passes (schema_table s table) (λ t. has_id column_id t.grid.columns column && is_name new) ≡ true → is_taken (column_ids s table) n ≡ false → is_name n ≡ true
    → valid s (RenameColumn table column n) ≡ true
valid-rename_column s table column new n h free named =
    passes_weaker (schema_table s table) (λ t. has_id column_id t.grid.columns column && is_name new) (λ t. has_id column_id t.grid.columns column && is_new_column t.grid n)
    (λ t found test. both_true (has_id column_id t.grid.columns column) (is_new_column t.grid n) (and_parts (has_id column_id t.grid.columns column) (is_name new) test).0 (new_in s table n t found free named)) h

-- ---- what is said of columns

pub valid-add_column : (s : Document) (table : List ℕ) (c : UserCol) (test : Table → Bool) → passes (schema_table s table) test ≡ true → may_be_new c ≡ true
    → is_taken (column_ids s table) (column_said s table c).id ≡ false → is_name (column_said s table c).id ≡ true → valid s (AddColumn table (column_said s table c)) ≡ true
valid-add_column s table c test h new free named =
    let d : ColDef = column_said s table c in
    passes_weaker (schema_table s table) test (λ t. is_new_column t.grid d.id && are_free s columns_id (d.row ∷ []) && is_sound_info d.info)
    (λ t found _. both_true (is_new_column t.grid d.id && are_free s columns_id (d.row ∷ [])) (is_sound_info d.info)
    (both_true (is_new_column t.grid d.id) (are_free s columns_id (d.row ∷ [])) (new_in s table d.id t found free named) (next_free s columns_id)) (new_sound c new)) h

-- ---- the columns of a new table

rows-new_columns : (taken : List (List ℕ)) (row : ℕ) (cs : List UserCol) → map column_row (new_columns taken row cs) ≡ numbers_after row (length cs)
rows-new_columns taken row [] = refl
rows-new_columns taken row (c ∷ cs) = ap (λ l. (row + 1) ∷ l) (rows-new_columns (taken ++ free_name taken c.id ∷ []) (row + 1) cs)

-- no new column has an id that was taken
apart : (taken : List (List ℕ)) (row : ℕ) (cs : List UserCol) → AreFresh taken cs → (e : List ℕ) → is_taken taken e ≡ true → has_id column_id (new_columns taken row cs) e ≡ false
apart taken row [] fresh e h = refl
apart taken row (c ∷ cs) fresh e h =
    let n : List ℕ = free_name taken c.id in
    let differs : bytes_eq n e ≡ false =
    elim (bytes_eq n e) as (λ b. bytes_eq n e ≡ b → b ≡ false) [
      | true ↦ λ is. absurd (true≢false (sym h ∙ ap (is_taken taken) (sym ((bytes_eq-Decides n e).0 is)) ∙ fresh.0.0))
      | false ↦ λ _. refl
    ] refl in
    ap (λ b. b || has_id column_id (new_columns (taken ++ n ∷ []) (row + 1) cs) e) differs
    ∙ apart (taken ++ n ∷ []) (row + 1) cs fresh.1 e (list_any-append (λ name. bytes_eq e name) taken (n ∷ []) ∙ ap (λ b. b || is_taken (n ∷ []) e) h)

distinct-new_columns : (taken : List (List ℕ)) (row : ℕ) (cs : List UserCol) → AreFresh taken cs → are_distinct column_id (new_columns taken row cs) ≡ true
distinct-new_columns taken row [] fresh = refl
distinct-new_columns taken row (c ∷ cs) fresh =
    let n : List ℕ = free_name taken c.id in
    let here : is_taken (taken ++ n ∷ []) n ≡ true = list_any-append (λ name. bytes_eq n name) taken (n ∷ []) ∙ or_last (is_taken taken n) (bytes_eq n n) (bytes_itself n) in
    both_true (not (has_id column_id (new_columns (taken ++ n ∷ []) (row + 1) cs) n)) (are_distinct column_id (new_columns (taken ++ n ∷ []) (row + 1) cs))
    (ap not (apart (taken ++ n ∷ []) (row + 1) cs fresh.1 n here)) (distinct-new_columns (taken ++ n ∷ []) (row + 1) cs fresh.1)
  where
    or_last : (a b : Bool) → b ≡ true → (a || (b || false)) ≡ true
    or_last true b h = refl
    or_last false b h = ap (λ x. x || false) h

names-new_columns : (taken : List (List ℕ)) (row : ℕ) (cs : List UserCol) → AreFresh taken cs → list_all (λ (d : ColDef). is_name d.id) (new_columns taken row cs) ≡ true
names-new_columns taken row [] fresh = refl
names-new_columns taken row (c ∷ cs) fresh =
    both_true (is_name (free_name taken c.id)) (list_all (λ (d : ColDef). is_name d.id) (new_columns (taken ++ free_name taken c.id ∷ []) (row + 1) cs)) fresh.0.1
    (names-new_columns (taken ++ free_name taken c.id ∷ []) (row + 1) cs fresh.1)

infos-new_columns : (taken : List (List ℕ)) (row : ℕ) (cs : List UserCol) → list_all may_be_new cs ≡ true → list_all (λ (d : ColDef). is_sound_info d.info) (new_columns taken row cs) ≡ true
infos-new_columns taken row [] h = refl
infos-new_columns taken row (c ∷ cs) h =
    let parts : (may_be_new c ≡ true) × (list_all may_be_new cs ≡ true) = and_parts (may_be_new c) (list_all may_be_new cs) h in
    both_true (is_sound_info (info_said (new_info c) c)) (list_all (λ (d : ColDef). is_sound_info d.info) (new_columns (taken ++ free_name taken c.id ∷ []) (row + 1) cs)) (new_sound c parts.0)
    (infos-new_columns (taken ++ free_name taken c.id ∷ []) (row + 1) cs parts.1)

columns_free : (s : Document) (cs : List UserCol) → are_free s columns_id (map column_row (new_columns [] (last_row s columns_id) cs)) ≡ true
columns_free s cs =
    let last : ℕ = last_row s columns_id in
    ap (are_free s columns_id) (rows-new_columns [] last cs)
    ∙ free_from s columns_id (numbers_after last (length cs)) (above_from_one last (numbers_after last (length cs)) (numbers_above last (length cs)))
    (once_ascending (numbers_after last (length cs)) (numbers_ascend last (length cs)))
    (ap (λ rows. none_in (numbers_after last (length cs)) rows) (rows_of-grid s columns_id) ∙ above_none_in (numbers_after last (length cs)) (grid_at s columns_id).rows (numbers_above last (length cs)))

pub valid-add_table : (s : Document) (table : List ℕ) (cs : List UserCol) → is_taken (table_ids s) (free_name (table_ids s) table) ≡ false → is_name (free_name (table_ids s) table) ≡ true → AreFresh [] cs
    → list_all may_be_new cs ≡ true → valid s (table_said s table cs) ≡ true
valid-add_table s table cs free named fresh new =
    let n : List ℕ = free_name (table_ids s) table in
    let row : ℕ = last_row s tables_id + 1 in
    let columns : List ColDef = new_columns [] (last_row s columns_id) cs in
    both_true ((((is_new_table s n && are_free s tables_id (row ∷ [])) && are_distinct column_id columns) && list_all (λ (d : ColDef). is_name d.id) columns) && are_free s columns_id (map column_row columns)) (list_all (λ (d : ColDef). is_sound_info d.info) columns)
    (both_true (((is_new_table s n && are_free s tables_id (row ∷ [])) && are_distinct column_id columns) && list_all (λ (d : ColDef). is_name d.id) columns) (are_free s columns_id (map column_row columns))
    (both_true ((is_new_table s n && are_free s tables_id (row ∷ [])) && are_distinct column_id columns) (list_all (λ (d : ColDef). is_name d.id) columns)
    (both_true (is_new_table s n && are_free s tables_id (row ∷ [])) (are_distinct column_id columns)
    (both_true (is_new_table s n) (are_free s tables_id (row ∷ [])) (new_id table_id s n free named) (next_free s tables_id))
    (distinct-new_columns [] (last_row s columns_id) cs fresh)) (names-new_columns [] (last_row s columns_id) cs fresh)) (columns_free s cs)) (infos-new_columns [] (last_row s columns_id) cs new)

pub valid-remove_column : (s : Document) (table column : List ℕ) → passes (schema_table s table) (λ t. has_id column_id t.grid.columns column) ≡ true → valid s (RemoveColumn table column) ≡ true
valid-remove_column s table column h = h
