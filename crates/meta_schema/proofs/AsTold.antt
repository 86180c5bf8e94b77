-- A document with other metadata rows tells a store the same.
use Rattle.std.proofs.Common.{ℕ, zero, suc, Bool, true, false, cond, ◌&&◌, nat_lt, nat_eq, ◌+◌, List, [], ◌∷◌, map, drop, length, slice_get, codes, ◌≡◌, refl, sym, ap, ◌∙◌, Option, Some, None, arith, not, ◌||◌}
use Rattle.std.specs.List.{AllByRecursion}
use Rattle.std.specs.Str.{bytes_eq}
use Rattle.std.proofs.lemmas.Bool.{and_parts, false≢true}
use Rattle.cell_types.specs.declared.value.CellValue.{CellValue}
use Rattle.cell_types.specs.declared.value.CellValue.TheVariants as value
use Rattle.doc_model.specs.declared.column.ColDef.{ColDef}
use Rattle.doc_model.specs.ByIds.{AreDistinct, find_id}
use Rattle.doc_model.specs.Column.{column_id, is_empty}
use Rattle.doc_model.specs.Document.{Document, Table, table_id, table_row}
use Rattle.doc_model.specs.Grid.{Grid, cell}
use Rattle.doc_model.specs.MetadataIds.{tables_id, columns_id, resources_id, rules_id, is_metadata_id}
use Rattle.doc_model.specs.Readers.{table_at, column_at}
use Rattle.doc_model.specs.Schema.{SchemaAgrees, no_grid, type_text}
use Rattle.doc_model.specs.Sound.{IsSound, IsSoundGrid, has_names}
use Rattle.doc_readers.specs.Parts.{grid_at}
use Rattle.meta_schema.specs.Agreement.{agrees, are_said, cell_beside, column_count, ends_at, has_column, has_columns_table, has_deciding_columns, has_further_columns, has_resources_table, has_rules_table, has_table_at, has_tables_table, has_text, has_truth, has_type, is_said, plain_ids, tables_agree, tables_said}
use Rattle.meta_schema.specs.AgreementLaw.{ToldAgreesLaw, as_told, with_rows}
use Rattle.meta_schema.specs.Decoding.{holds}
use Rattle.meta_schema.proofs.AgreementExact.{agrees_exactly}
use Rattle.meta_schema.proofs.WholeAgrees.{whole_agrees}

-- ---- what a store tells

ids_same : (rows : List ℕ) (ts : List Table) → map table_id (with_rows rows ts) ≡ map table_id ts
ids_same [] ts = refl
ids_same (r ∷ rows) [] = refl
ids_same (r ∷ rows) (t ∷ ts) = ap (λ l. t.id ∷ l) (ids_same rows ts)

told_same : {X : Type 0} (none : X) (f : Grid ColDef → X) (id : List ℕ) (rows : List ℕ) (ts : List Table)
    → elim (find_id table_id id (with_rows rows ts)) as (λ _. X) [ None ↦ none | Some t ↦ f t.grid ] ≡ elim (find_id table_id id ts) as (λ _. X) [ None ↦ none | Some t ↦ f t.grid ]
told_same none f id [] ts = refl
told_same none f id (r ∷ rows) [] = refl
told_same {X} none f id (r ∷ rows) (t ∷ ts) =
    elim (bytes_eq t.id id) as (λ b. elim (cond b (Some (let u : Table = record { id = t.id; row = r; grid = t.grid } in u)) (find_id table_id id (with_rows rows ts))) as (λ _. X) [ None ↦ none | Some t ↦ f t.grid ]
    ≡ elim (cond b (Some t) (find_id table_id id ts)) as (λ _. X) [ None ↦ none | Some t ↦ f t.grid ]) [
      | true ↦ refl
      | false ↦ told_same none f id rows ts
    ]

tables_same : (rows : List ℕ) (ts : List Table) (i : ℕ) → table_at (with_rows rows ts) i ≡ table_at ts i
tables_same [] ts i = refl
tables_same (r ∷ rows) [] i = refl
tables_same (r ∷ rows) (t ∷ ts) zero = refl
tables_same (r ∷ rows) (t ∷ ts) (suc i) = tables_same rows ts i

-- ---- agreement rests on it alone

both : (a b a' b' : Bool) → a ≡ a' → b ≡ b' → (a && b) ≡ (a' && b')
both a b a' b' e f = ap (λ x. x && b) e ∙ ap (λ x. a' && x) f

module _ (s s' : Document) (grids : (id : List ℕ) → grid_at s' id ≡ grid_at s id) (columns : (id : List ℕ) (i : ℕ) → column_at s' id i ≡ column_at s id i) (tables : (i : ℕ) → table_at s' i ≡ table_at s i) (ids : map table_id s' ≡ map table_id s) where
  beside_same : (t : List ℕ) (i r : ℕ) → cell_beside s' t i r ≡ cell_beside s t i r
  beside_same t i r =
      ap (λ (o : Option ColDef). elim o as (λ _. CellValue) [ None ↦ value.Null | Some d ↦ cell column_id (grid_at s' t) d.id r ]) (columns t i)
      ∙ ap (λ (g : Grid ColDef). elim (column_at s t i) as (λ _. CellValue) [ None ↦ value.Null | Some d ↦ cell column_id g d.id r ]) (grids t)

  is_said-same : (parent : ℕ) (d : ColDef) → is_said s' parent d ≡ is_said s parent d
  is_said-same parent d =
      both _ _ _ _ (both _ _ _ _ (both _ _ _ _ (both _ _ _ _
      (ap (λ v. holds v parent) (beside_same columns_id 0 d.row))
      (ap (λ v. has_text v d.id) (beside_same columns_id 1 d.row)))
      (ap (λ v. has_type v d.info.ty) (beside_same columns_id 2 d.row)))
      (ap (λ v. has_truth v d.info.is_formula) (beside_same columns_id 3 d.row)))
      (ap (λ v. has_text v d.info.formula) (beside_same columns_id 4 d.row))

  are_said-same : (parent low : ℕ) (ds : List ColDef) → are_said s' parent low ds ≡ are_said s parent low ds
  are_said-same parent low [] = refl
  are_said-same parent low (d ∷ ds) = both _ _ _ _ (ap (λ b. nat_lt low d.row && b) (is_said-same parent d)) (are_said-same parent d.row ds)

  tables_said-same : (rows : List ℕ) (is : List (List ℕ)) → tables_said s' rows is ≡ tables_said s rows is
  tables_said-same [] [] = refl
  tables_said-same [] (id ∷ is) = refl
  tables_said-same (r ∷ rows) [] = refl
  tables_said-same (r ∷ rows) (id ∷ is) =
      both _ _ _ _ (both _ _ _ _ (ap (λ v. has_text v id) (beside_same tables_id 0 r))
      (ap (λ (g : Grid ColDef). are_said s' r 0 g.columns) (grids id) ∙ are_said-same r 0 (grid_at s id).columns))
      (tables_said-same rows is)

  count_same : (is : List (List ℕ)) → column_count s' is ≡ column_count s is
  count_same [] = refl
  count_same (id ∷ is) = ap (λ (g : Grid ColDef). length g.columns + column_count s' is) (grids id) ∙ ap (λ n. length (grid_at s id).columns + n) (count_same is)

  table_same : (i : ℕ) (id : List ℕ) → has_table_at s' i id ≡ has_table_at s i id
  table_same i id = ap (λ (o : Option (List ℕ)). elim o as (λ _. Bool) [ None ↦ false | Some t ↦ bytes_eq t id ]) (tables i)

  column_same : (t : List ℕ) (i : ℕ) (id ty : List ℕ) → has_column s' t i id ty ≡ has_column s t i id ty
  column_same t i id ty = ap (λ (o : Option ColDef). elim o as (λ _. Bool) [
    | None ↦ false
    | Some d ↦ bytes_eq d.id id && bytes_eq ty (type_text d.info.ty) && not d.info.is_formula && is_empty d.info.formula && nat_eq d.row 0
  ]) (columns t i)

  end_same : (t : List ℕ) (i : ℕ) → ends_at s' t i ≡ ends_at s t i
  end_same t i = ap (λ (o : Option ColDef). elim o as (λ _. Bool) [ None ↦ true | Some d ↦ false ]) (columns t i)

  tables_agree-same : tables_agree s' ≡ tables_agree s
  tables_agree-same =
      both _ _ _ _
      (ap (λ (g : Grid ColDef). tables_said s' g.rows (plain_ids s')) (grids tables_id) ∙ ap (λ is. tables_said s' (grid_at s tables_id).rows (drop 4 is)) ids ∙ tables_said-same (grid_at s tables_id).rows (plain_ids s))
      (ap (λ (g : Grid ColDef). nat_eq (length g.rows) (column_count s' (plain_ids s'))) (grids columns_id) ∙ ap (λ is. nat_eq (length (grid_at s columns_id).rows) (column_count s' (drop 4 is))) ids
      ∙ ap (nat_eq (length (grid_at s columns_id).rows)) (count_same (plain_ids s)))

  agrees-same : agrees s' ≡ agrees s
  agrees-same =
      both _ _ _ _ (both _ _ _ _ (both _ _ _ _ (both _ _ _ _
      (both _ _ _ _ (both _ _ _ _ (table_same 0 tables_id) (column_same tables_id 0 (codes "tableId") (codes "Text"))) (end_same tables_id 1))
      (both _ _ _ _ (table_same 1 columns_id) (both _ _ _ _
      (both _ _ _ _ (both _ _ _ _ (column_same columns_id 0 (codes "parentId") (codes "Ref:_grist_Tables")) (column_same columns_id 1 (codes "colId") (codes "Text"))) (column_same columns_id 2 (codes "type") (codes "Text")))
      (both _ _ _ _ (both _ _ _ _ (column_same columns_id 3 (codes "isFormula") (codes "Bool")) (column_same columns_id 4 (codes "formula") (codes "Text"))) (end_same columns_id 5)))))
      (both _ _ _ _ (both _ _ _ _ (both _ _ _ _ (table_same 2 resources_id) (column_same resources_id 0 (codes "tableId") (codes "Text"))) (column_same resources_id 1 (codes "colIds") (codes "Text"))) (end_same resources_id 2)))
      (both _ _ _ _ (table_same 3 rules_id) (both _ _ _ _
      (both _ _ _ _ (both _ _ _ _ (column_same rules_id 0 (codes "resource") (codes "Ref:_grist_ACLResources")) (column_same rules_id 1 (codes "aclFormula") (codes "Text"))) (column_same rules_id 2 (codes "permissionsText") (codes "Text")))
      (both _ _ _ _ (both _ _ _ _ (both _ _ _ _ (column_same rules_id 3 (codes "rulePos") (codes "Int")) (column_same rules_id 4 (codes "userAttributes") (codes "Text"))) (column_same rules_id 5 (codes "memo") (codes "Text"))) (end_same rules_id 6)))))
      tables_agree-same

-- ---- a sound document stays one

module _ (P : List ℕ → Grid ColDef → Type 0) where
  each_kept : (rows : List ℕ) (ts : List Table) → AllByRecursion (λ t. P t.id t.grid) ts → AllByRecursion (λ t. P t.id t.grid) (with_rows rows ts)
  each_kept [] ts h = h
  each_kept (r ∷ rows) [] h = h
  each_kept (r ∷ rows) (t ∷ ts) h = (h.0, each_kept rows ts h.1)

distinct_kept : (rows : List ℕ) (ts : List Table) → AreDistinct table_id ts → AreDistinct table_id (with_rows rows ts)
distinct_kept [] ts h = h
distinct_kept (r ∷ rows) [] h = h
distinct_kept (r ∷ rows) (t ∷ ts) h = (each_kept (λ id g. bytes_eq t.id id ≡ false) rows ts h.0, distinct_kept rows ts h.1)

abbrev named : List ℕ → Grid ColDef → Type 0
named id g = let t : Table = record { id = id; row = 0; grid = g } in (is_metadata_id id || has_names t) ≡ true

IsSound-with_rows : (rows : List ℕ) (s : Document) → IsSound s → IsSound (with_rows rows s)
IsSound-with_rows rows s sound = record {
  distinct = distinct_kept rows s sound.distinct;
  grids = each_kept (λ id g. IsSoundGrid g) rows s sound.grids;
  names = each_kept named rows s sound.names;
}

-- ---- and has the rows that the table of tables has

rows_had : (rows : List ℕ) (ts : List Table) → length rows ≡ length ts → map table_row (with_rows rows ts) ≡ rows
rows_had [] [] e = refl
rows_had [] (t ∷ ts) e = absurd (omega (arith, e))
rows_had (r ∷ rows) [] e = absurd (omega (arith, e))
rows_had (r ∷ rows) (t ∷ ts) e = ap (λ l. r ∷ l) (rows_had rows ts (omega (arith, e)))

as_many : (s : Document) (rows : List ℕ) (is : List (List ℕ)) → tables_said s rows is ≡ true → length rows ≡ length is
as_many s [] [] h = refl
as_many s [] (id ∷ is) h = absurd (cc)
as_many s (r ∷ rows) [] h = absurd (cc)
as_many s (r ∷ rows) (id ∷ is) h = ap suc (as_many s rows is (and_parts (has_text (cell_beside s tables_id 0 r) id && are_said s r 0 (grid_at s id).columns) (tables_said s rows is) h).1)

length-ids : (ts : List Table) → length (map table_id ts) ≡ length ts
length-ids [] = refl
length-ids (t ∷ ts) = ap suc (length-ids ts)

rules_there : (s : Document) → agrees s ≡ true → has_table_at s 3 rules_id ≡ true
rules_there s h =
    let front : (has_tables_table s && has_columns_table s && has_resources_table s && has_rules_table s) ≡ true = (and_parts (has_tables_table s && has_columns_table s && has_resources_table s && has_rules_table s) (tables_agree s) h).0 in
    (and_parts (has_table_at s 3 rules_id) (has_deciding_columns s && has_further_columns s) (and_parts (has_tables_table s && has_columns_table s && has_resources_table s) (has_rules_table s) front).1).0

-- a document that agrees has four tables more than are said
rows_enough : (s : Document) → agrees s ≡ true → length (0 ∷ 0 ∷ 0 ∷ 0 ∷ (grid_at s tables_id).rows) ≡ length s
rows_enough [] h = absurd (false≢true (rules_there [] h))
rows_enough (a ∷ []) h = absurd (false≢true (rules_there (a ∷ []) h))
rows_enough (a ∷ b ∷ []) h = absurd (false≢true (rules_there (a ∷ b ∷ []) h))
rows_enough (a ∷ b ∷ c ∷ []) h = absurd (false≢true (rules_there (a ∷ b ∷ c ∷ []) h))
rows_enough (a ∷ b ∷ c ∷ d ∷ p) h =
    let s : Document = a ∷ b ∷ c ∷ d ∷ p in
    let said : tables_agree s ≡ true = (and_parts (has_tables_table s && has_columns_table s && has_resources_table s && has_rules_table s) (tables_agree s) h).1 in
    let many : length (grid_at s tables_id).rows ≡ length (map table_id p) = as_many s (grid_at s tables_id).rows (map table_id p) (and_parts (tables_said s (grid_at s tables_id).rows (plain_ids s)) (nat_eq (length (grid_at s columns_id).rows) (column_count s (plain_ids s))) said).0 in
    let all : length (map table_id p) ≡ length p = length-ids p in
    omega (arith, many, all)

module _ (s : Document) (sound : IsSound s) where
  grids_told : (id : List ℕ) → grid_at (as_told s) id ≡ grid_at s id
  grids_told id = told_same no_grid (λ g. g) id (0 ∷ 0 ∷ 0 ∷ 0 ∷ (grid_at s tables_id).rows) s

  agrees_told : agrees (as_told s) ≡ agrees s
  agrees_told = agrees-same s (as_told s) grids_told (λ id i. told_same None (λ g. slice_get g.columns i) id (0 ∷ 0 ∷ 0 ∷ 0 ∷ (grid_at s tables_id).rows) s) (tables_same (0 ∷ 0 ∷ 0 ∷ 0 ∷ (grid_at s tables_id).rows) s) (ids_same (0 ∷ 0 ∷ 0 ∷ 0 ∷ (grid_at s tables_id).rows) s)

  sound_told : IsSound (as_told s)
  sound_told = IsSound-with_rows (0 ∷ 0 ∷ 0 ∷ 0 ∷ (grid_at s tables_id).rows) s sound

  told_agrees : SchemaAgrees (as_told s) → agrees s ≡ true
  told_agrees h = sym agrees_told ∙ (whole_agrees (as_told s) (record { agrees = h; sound = sound_told })).0

  agrees_as_told : agrees s ≡ true → SchemaAgrees (as_told s)
  agrees_as_told h =
      agrees_exactly (as_told s) sound_told (agrees_told ∙ h)
      (rows_had (0 ∷ 0 ∷ 0 ∷ 0 ∷ (grid_at s tables_id).rows) s (rows_enough s h) ∙ ap (λ (g : Grid ColDef). 0 ∷ 0 ∷ 0 ∷ 0 ∷ g.rows) (sym (grids_told tables_id)))

pub agrees-as_told : ToldAgreesLaw
agrees-as_told s sound = (told_agrees s sound, agrees_as_told s sound)
