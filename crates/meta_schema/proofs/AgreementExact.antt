-- A sound document that agrees as far as a store tells it agrees with its schema.
use Rattle.std.proofs.Common.{ℕ, Bool, true, false, cond, ◌&&◌, ◌||◌, ◌<◌, nat_eq, List, [], ◌∷◌, ◌++◌, map, length, slice_get, ◌≡◌, refl, sym, ap, subst, ◌∙◌, codes, Option, Some, None, arith}
use Rattle.std.proofs.lemmas.Bool.{and_parts, eqb-true}
use Rattle.std.specs.Prelude.{pos}
use Rattle.std.specs.List.{AllByRecursion}
use Rattle.std.specs.Str.{bytes_eq, chars}
use Rattle.cell_types.specs.declared.column_type.ColType.{ColType}
use Rattle.cell_types.specs.declared.column_type.ColType.TheVariants as type
use Rattle.cell_types.specs.declared.value.CellValue.{CellValue}
use Rattle.cell_types.specs.declared.value.CellValue.TheVariants as value
use Rattle.doc_model.specs.declared.column.ColDef.{ColDef}
use Rattle.doc_model.specs.MetadataIds.{tables_id, columns_id, resources_id, rules_id, is_metadata_id}
use Rattle.doc_model.specs.ByIds.{find_id, has_id}
use Rattle.doc_model.specs.Grid.{Grid, cell}
use Rattle.doc_model.specs.Rows.{has, has_no_duplicates, IsAscending}
use Rattle.doc_model.specs.Column.{column_id, column_row, is_sound_info}
use Rattle.doc_model.specs.Document.{Table, Document, table_id, table_row}
use Rattle.doc_model.specs.DocumentLaws.{IsWhole}
use Rattle.doc_model.specs.Readers.{column_at, cell_at}
use Rattle.doc_model.specs.Schema.{Described, described_row, describe, all_columns, in_order, metadata_column, tables_columns, columns_columns, resources_columns, rules_columns, tables_grid, columns_grid, metadata_table, with_schema, no_grid, type_text, SchemaAgrees}
use Rattle.doc_model.specs.Sound.{IsSound, has_names}
use Rattle.doc_model.proofs.Choices.{each_weaker, each_both, each_mapped, length_map}
use Rattle.doc_model.proofs.ByIdsLaws.{each_found, found_all}
use Rattle.doc_model.proofs.GridLaws.{same_grid}
use Rattle.doc_model.proofs.RowsLaws.{each_at}
use Rattle.doc_model.proofs.SchemaLaws.{IsAscending-in_order, each_in_order}
use Rattle.doc_model.proofs.TotalsLaws.{sum_of, length-total}
use Rattle.doc_model.proofs.MaximaSums.{total-described, over_columns}
use Rattle.doc_model.proofs.WholeLaws.{IsGood, whole_from, column_rows, metadata_from}
use Rattle.doc_readers.specs.Parts.{grid_at}
use Rattle.doc_readers.proofs.CellLemmas.{cell_absent}
use Rattle.meta_schema.specs.Decoding.{type_of, told, holds}
use Rattle.meta_schema.specs.Agreement.{has_text, has_type, has_truth, cell_beside, has_column, ends_at, has_table_at, has_tables_table, has_columns_table, has_naming_columns, has_formula_columns, has_resources_table, has_rules_table, has_deciding_columns, has_further_columns, is_said, are_said, tables_said, column_count, tables_agree, agrees}
use Rattle.meta_schema.specs.AgreementLaw.{HasToldRows}
use Rattle.meta_schema.proofs.LookupLemmas.{Stands, each_stands}
use Rattle.meta_schema.proofs.DescribedLemmas.{described}
use Rattle.meta_schema.proofs.SchemaLawLemmas.{sound_type, tables_part, columns_part, told_table_id, told_parent, told_id, told_type, told_is_formula, told_formula}
use Rattle.meta_schema.proofs.AgreementWalks.{drop_here, drop_past, first_id}
use Rattle.meta_schema.proofs.SaidLemmas.{held, text_held, truth_held, column_is, each_slice, ended, AreSaid, said_columns, said_tables, IsMarked, once_marked, same_among}

-- ---- one table that is found under its id

module _ (s : Document) (id : List ℕ) (t : Table) (found : find_id table_id id s ≡ Some t) where
  grid_found : grid_at s id ≡ t.grid
  grid_found = ap (λ o. elim o as (λ _. Grid ColDef) [ None ↦ no_grid | Some t ↦ t.grid ]) found

  column_found : (i : ℕ) → column_at s id i ≡ slice_get t.grid.columns i
  column_found i = ap (λ o. elim o as (λ _. Option ColDef) [ None ↦ None | Some t ↦ slice_get t.grid.columns i ]) found

  module _ (infos : AllByRecursion (λ d. is_sound_info d.info ≡ true) t.grid.columns) where
    slice_is : (i : ℕ) (name ty : List ℕ) (type : ColType) → type_of ty ≡ Some type → has_column s id i name ty ≡ true → slice_get t.grid.columns i ≡ Some (metadata_column name type)
    slice_is i name ty type reads e =
        sym (column_found i)
        ∙ column_is (column_at s id i) name ty type reads (λ d is. sound_type d (each_slice (λ d. is_sound_info d.info ≡ true) t.grid.columns i d infos (sym (column_found i) ∙ is))) e

    slice_ends : (i : ℕ) → ends_at s id i ≡ true → slice_get t.grid.columns i ≡ None
    slice_ends i e = sym (column_found i) ∙ ended (column_at s id i) e

  -- a cell that holds a row stands in a row
  row_there : (c : List ℕ) (q row : ℕ) → told s id c q ≡ value.Int (pos row) → has t.grid.rows q ≡ true
  row_there c q row e =
      elim (has t.grid.rows q) as (λ b. has t.grid.rows q ≡ b → b ≡ true) [
        | true ↦ λ _. refl
        | false ↦ λ isnt.
            let none : cell_at s id c q ≡ None
            = ap (λ o. elim o as (λ _. Option CellValue) [ None ↦ None | Some t ↦ cond (has_id column_id t.grid.columns c && has t.grid.rows q) (Some (cell column_id t.grid c q)) None ]) found
            ∙ ap (λ b. cond (has_id column_id t.grid.columns c && b) (Some (cell column_id t.grid c q)) None) isnt
            ∙ neither (has_id column_id t.grid.columns c) (cell column_id t.grid c q) in
            let null : value.Null ≡ told s id c q = cell_absent s id c q none in
            absurd (cc)
      ] refl
    where
      neither : (b : Bool) (v : CellValue) → cond (b && false) (Some v) None ≡ None
      neither true v = refl
      neither false v = refl

-- ---- how many columns there are

counted : (s : Document) (q : List Table) → AllByRecursion (λ t. grid_at s t.id ≡ t.grid) q → column_count s (map table_id q) ≡ sum_of (over_columns (λ _. 1)) q
counted s [] h = refl
counted s (t ∷ q) h =
    let here : length (grid_at s t.id).columns ≡ over_columns (λ _. 1) t = ap (λ g. length g.columns) h.0 ∙ sym (length_map column_row t.grid.columns) ∙ sym (length-total (map column_row t.grid.columns)) in
    let later : column_count s (map table_id q) ≡ sum_of (over_columns (λ _. 1)) q = counted s q h.1 in
    omega arith

plain_each : (p : List Table) → AllByRecursion (λ t. bytes_eq tables_id (table_id t) ≡ false) p → AllByRecursion (λ t. bytes_eq columns_id (table_id t) ≡ false) p
    → AllByRecursion (λ t. bytes_eq resources_id (table_id t) ≡ false) p → AllByRecursion (λ t. bytes_eq rules_id (table_id t) ≡ false) p → AllByRecursion (λ t. is_metadata_id t.id ≡ false) p
plain_each [] a b c d = tt
plain_each (t ∷ p) a b c d = (metadata_from t.id (record { tables = a.0; columns = b.0; resources = c.0; rules = d.0 }), plain_each p a.1 b.1 c.1 d.1)

name_each : (p : List Table) → AllByRecursion (λ t. is_metadata_id t.id ≡ false) p → AllByRecursion (λ t. (is_metadata_id t.id || has_names t) ≡ true) p → AllByRecursion (λ t. has_names t ≡ true) p
name_each [] a h = tt
name_each (t ∷ p) a h = (ap (λ b. b || has_names t) (sym a.0) ∙ h.0, name_each p a.1 h.1)

each_append : {X : Type 0} (P : X → Type 0) (xs ys : List X) → AllByRecursion P xs → AllByRecursion P ys → AllByRecursion P (xs ++ ys)
each_append P [] ys h k = k
each_append P (x ∷ xs) ys h k = (h.0, each_append P xs ys h.1 k)

each_described : (P : Described → Type 0) (p : List Table) → AllByRecursion (λ t. AllByRecursion (λ d. P (described t.row d)) t.grid.columns) p → AllByRecursion P (all_columns p)
each_described P [] h = tt
each_described P (t ∷ p) h = each_append P (map (described t.row) t.grid.columns) (all_columns p) (each_mapped P (described t.row) t.grid.columns h.0) (each_described P p h.1)

-- ---- the types of metadata columns

text_type : type_of (codes "Text") ≡ Some type.Text
text_type = refl

bool_type : type_of (codes "Bool") ≡ Some type.Bool
bool_type = refl

int_type : type_of (codes "Int") ≡ Some type.Int
int_type = refl

parent_type : type_of (codes "Ref:_grist_Tables") ≡ Some (type.Ref tables_id)
unfolding tables_id chars
parent_type = refl

resource_type : type_of (codes "Ref:_grist_ACLResources") ≡ Some (type.Ref resources_id)
unfolding resources_id chars
resource_type = refl

-- ---- the document

module _ (a b c d : Table) (p : List Table) where
  abbrev s : Document
  s = a ∷ b ∷ c ∷ d ∷ p

  -- what the test says
  record Yes : Type 0 where
    tables : has_tables_table s ≡ true
    columns : has_columns_table s ≡ true
    resources : has_resources_table s ≡ true
    rules : has_rules_table s ≡ true
    said : tables_said s (grid_at s tables_id).rows (map table_id p) ≡ true
    count : nat_eq (length (grid_at s columns_id).rows) (column_count s (map table_id p)) ≡ true

  yes_parts : agrees s ≡ true → Yes
  yes_parts e =
      let e5 : ((((has_tables_table s && has_columns_table s) && has_resources_table s) && has_rules_table s) ≡ true) × (tables_agree s ≡ true) = and_parts _ _ e in
      let e4 : (tables_said s (grid_at s tables_id).rows (map table_id p) ≡ true) × (nat_eq (length (grid_at s columns_id).rows) (column_count s (map table_id p)) ≡ true) = and_parts _ _ e5.1 in
      let e3 : ((has_tables_table s && has_columns_table s) && has_resources_table s ≡ true) × (has_rules_table s ≡ true) = and_parts _ _ e5.0 in
      let e2 : (has_tables_table s && has_columns_table s ≡ true) × (has_resources_table s ≡ true) = and_parts _ _ e3.0 in
      let e1 : (has_tables_table s ≡ true) × (has_columns_table s ≡ true) = and_parts _ _ e2.0 in
      record { tables = e1.0; columns = e1.1; resources = e2.1; rules = e3.1; said = e4.0; count = e4.1 }

  module _ (sound : IsSound s) (yes : Yes) (rows_told : HasToldRows s) where
    finds : AllByRecursion (λ t. find_id table_id t.id s ≡ Some t) s
    finds = each_found table_id (λ t. find_id table_id t.id s ≡ Some t) s sound.distinct (λ t e. e)

    -- the ids of the metadata tables
    t2 : (has_table_at s 0 tables_id && has_column s tables_id 0 (codes "tableId") (codes "Text") ≡ true) × (ends_at s tables_id 1 ≡ true)
    t2 = and_parts _ _ yes.tables

    t1 : (has_table_at s 0 tables_id ≡ true) × (has_column s tables_id 0 (codes "tableId") (codes "Text") ≡ true)
    t1 = and_parts _ _ t2.0

    c2 : (has_table_at s 1 columns_id ≡ true) × (has_naming_columns s && has_formula_columns s ≡ true)
    c2 = and_parts _ _ yes.columns

    c3 : (has_naming_columns s ≡ true) × (has_formula_columns s ≡ true)
    c3 = and_parts _ _ c2.1

    r3 : ((has_table_at s 2 resources_id && has_column s resources_id 0 (codes "tableId") (codes "Text")) && has_column s resources_id 1 (codes "colIds") (codes "Text") ≡ true) × (ends_at s resources_id 2 ≡ true)
    r3 = and_parts _ _ yes.resources

    r2 : (has_table_at s 2 resources_id && has_column s resources_id 0 (codes "tableId") (codes "Text") ≡ true) × (has_column s resources_id 1 (codes "colIds") (codes "Text") ≡ true)
    r2 = and_parts _ _ r3.0

    r1 : (has_table_at s 2 resources_id ≡ true) × (has_column s resources_id 0 (codes "tableId") (codes "Text") ≡ true)
    r1 = and_parts _ _ r2.0

    u2 : (has_table_at s 3 rules_id ≡ true) × (has_deciding_columns s && has_further_columns s ≡ true)
    u2 = and_parts _ _ yes.rules

    u3 : (has_deciding_columns s ≡ true) × (has_further_columns s ≡ true)
    u3 = and_parts _ _ u2.1

    a_id : a.id ≡ tables_id
    a_id = first_id s 0 tables_id a.id t1.0 refl

    b_id : b.id ≡ columns_id
    b_id = first_id s 1 columns_id b.id c2.0 refl

    c_id : c.id ≡ resources_id
    c_id = first_id s 2 resources_id c.id r1.0 refl

    d_id : d.id ≡ rules_id
    d_id = first_id s 3 rules_id d.id u2.0 refl

    a_found : find_id table_id tables_id s ≡ Some a
    a_found = ap (λ id. find_id table_id id s) (sym a_id) ∙ finds.0

    b_found : find_id table_id columns_id s ≡ Some b
    b_found = ap (λ id. find_id table_id id s) (sym b_id) ∙ finds.1.0

    c_found : find_id table_id resources_id s ≡ Some c
    c_found = ap (λ id. find_id table_id id s) (sym c_id) ∙ finds.1.1.0

    d_found : find_id table_id rules_id s ≡ Some d
    d_found = ap (λ id. find_id table_id id s) (sym d_id) ∙ finds.1.1.1.0

    -- their columns
    a_columns : a.grid.columns ≡ tables_columns
    a_columns =
        drop_here a.grid.columns 0 (metadata_column (codes "tableId") type.Text) (slice_is s tables_id a a_found sound.grids.0.infos 0 (codes "tableId") (codes "Text") type.Text text_type t1.1)
        ∙ ap (λ ds. metadata_column (codes "tableId") type.Text ∷ ds) (drop_past a.grid.columns 1 (slice_ends s tables_id a a_found sound.grids.0.infos 1 t2.1))

    b_at : (i : ℕ) (name ty : List ℕ) (type : ColType) → type_of ty ≡ Some type → has_column s columns_id i name ty ≡ true → slice_get b.grid.columns i ≡ Some (metadata_column name type)
    b_at = slice_is s columns_id b b_found sound.grids.1.0.infos

    n3 : (has_column s columns_id 0 (codes "parentId") (codes "Ref:_grist_Tables") && has_column s columns_id 1 (codes "colId") (codes "Text") ≡ true) × (has_column s columns_id 2 (codes "type") (codes "Text") ≡ true)
    n3 = and_parts _ _ c3.0

    n2 : (has_column s columns_id 0 (codes "parentId") (codes "Ref:_grist_Tables") ≡ true) × (has_column s columns_id 1 (codes "colId") (codes "Text") ≡ true)
    n2 = and_parts _ _ n3.0

    f3 : (has_column s columns_id 3 (codes "isFormula") (codes "Bool") && has_column s columns_id 4 (codes "formula") (codes "Text") ≡ true) × (ends_at s columns_id 5 ≡ true)
    f3 = and_parts _ _ c3.1

    f2 : (has_column s columns_id 3 (codes "isFormula") (codes "Bool") ≡ true) × (has_column s columns_id 4 (codes "formula") (codes "Text") ≡ true)
    f2 = and_parts _ _ f3.0

    b_columns : b.grid.columns ≡ columns_columns
    b_columns =
        drop_here b.grid.columns 0 (metadata_column (codes "parentId") (type.Ref tables_id)) (b_at 0 (codes "parentId") (codes "Ref:_grist_Tables") (type.Ref tables_id) parent_type n2.0)
        ∙ ap (λ ds. metadata_column (codes "parentId") (type.Ref tables_id) ∷ ds) (drop_here b.grid.columns 1 (metadata_column (codes "colId") type.Text) (b_at 1 (codes "colId") (codes "Text") type.Text text_type n2.1)
        ∙ ap (λ ds. metadata_column (codes "colId") type.Text ∷ ds) (drop_here b.grid.columns 2 (metadata_column (codes "type") type.Text) (b_at 2 (codes "type") (codes "Text") type.Text text_type n3.1)
        ∙ ap (λ ds. metadata_column (codes "type") type.Text ∷ ds) (drop_here b.grid.columns 3 (metadata_column (codes "isFormula") type.Bool) (b_at 3 (codes "isFormula") (codes "Bool") type.Bool bool_type f2.0)
        ∙ ap (λ ds. metadata_column (codes "isFormula") type.Bool ∷ ds) (drop_here b.grid.columns 4 (metadata_column (codes "formula") type.Text) (b_at 4 (codes "formula") (codes "Text") type.Text text_type f2.1)
        ∙ ap (λ ds. metadata_column (codes "formula") type.Text ∷ ds) (drop_past b.grid.columns 5 (slice_ends s columns_id b b_found sound.grids.1.0.infos 5 f3.1))))))

    c_columns : c.grid.columns ≡ resources_columns
    c_columns =
        drop_here c.grid.columns 0 (metadata_column (codes "tableId") type.Text) (slice_is s resources_id c c_found sound.grids.1.1.0.infos 0 (codes "tableId") (codes "Text") type.Text text_type r1.1)
        ∙ ap (λ ds. metadata_column (codes "tableId") type.Text ∷ ds) (drop_here c.grid.columns 1 (metadata_column (codes "colIds") type.Text) (slice_is s resources_id c c_found sound.grids.1.1.0.infos 1 (codes "colIds") (codes "Text") type.Text text_type r2.1)
        ∙ ap (λ ds. metadata_column (codes "colIds") type.Text ∷ ds) (drop_past c.grid.columns 2 (slice_ends s resources_id c c_found sound.grids.1.1.0.infos 2 r3.1)))

    d_at : (i : ℕ) (name ty : List ℕ) (type : ColType) → type_of ty ≡ Some type → has_column s rules_id i name ty ≡ true → slice_get d.grid.columns i ≡ Some (metadata_column name type)
    d_at = slice_is s rules_id d d_found sound.grids.1.1.1.0.infos

    k3 : (has_column s rules_id 0 (codes "resource") (codes "Ref:_grist_ACLResources") && has_column s rules_id 1 (codes "aclFormula") (codes "Text") ≡ true) × (has_column s rules_id 2 (codes "permissionsText") (codes "Text") ≡ true)
    k3 = and_parts _ _ u3.0

    k2 : (has_column s rules_id 0 (codes "resource") (codes "Ref:_grist_ACLResources") ≡ true) × (has_column s rules_id 1 (codes "aclFormula") (codes "Text") ≡ true)
    k2 = and_parts _ _ k3.0

    m4 : ((has_column s rules_id 3 (codes "rulePos") (codes "Int") && has_column s rules_id 4 (codes "userAttributes") (codes "Text")) && has_column s rules_id 5 (codes "memo") (codes "Text") ≡ true) × (ends_at s rules_id 6 ≡ true)
    m4 = and_parts _ _ u3.1

    m3 : (has_column s rules_id 3 (codes "rulePos") (codes "Int") && has_column s rules_id 4 (codes "userAttributes") (codes "Text") ≡ true) × (has_column s rules_id 5 (codes "memo") (codes "Text") ≡ true)
    m3 = and_parts _ _ m4.0

    m2 : (has_column s rules_id 3 (codes "rulePos") (codes "Int") ≡ true) × (has_column s rules_id 4 (codes "userAttributes") (codes "Text") ≡ true)
    m2 = and_parts _ _ m3.0

    d_columns : d.grid.columns ≡ rules_columns
    d_columns =
        drop_here d.grid.columns 0 (metadata_column (codes "resource") (type.Ref resources_id)) (d_at 0 (codes "resource") (codes "Ref:_grist_ACLResources") (type.Ref resources_id) resource_type k2.0)
        ∙ ap (λ ds. metadata_column (codes "resource") (type.Ref resources_id) ∷ ds) (drop_here d.grid.columns 1 (metadata_column (codes "aclFormula") type.Text) (d_at 1 (codes "aclFormula") (codes "Text") type.Text text_type k2.1)
        ∙ ap (λ ds. metadata_column (codes "aclFormula") type.Text ∷ ds) (drop_here d.grid.columns 2 (metadata_column (codes "permissionsText") type.Text) (d_at 2 (codes "permissionsText") (codes "Text") type.Text text_type k3.1)
        ∙ ap (λ ds. metadata_column (codes "permissionsText") type.Text ∷ ds) (drop_here d.grid.columns 3 (metadata_column (codes "rulePos") type.Int) (d_at 3 (codes "rulePos") (codes "Int") type.Int int_type m2.0)
        ∙ ap (λ ds. metadata_column (codes "rulePos") type.Int ∷ ds) (drop_here d.grid.columns 4 (metadata_column (codes "userAttributes") type.Text) (d_at 4 (codes "userAttributes") (codes "Text") type.Text text_type m2.1)
        ∙ ap (λ ds. metadata_column (codes "userAttributes") type.Text ∷ ds) (drop_here d.grid.columns 5 (metadata_column (codes "memo") type.Text) (d_at 5 (codes "memo") (codes "Text") type.Text text_type m3.1)
        ∙ ap (λ ds. metadata_column (codes "memo") type.Text ∷ ds) (drop_past d.grid.columns 6 (slice_ends s rules_id d d_found sound.grids.1.1.1.0.infos 6 m4.1)))))))

    -- ---- the rows

    a_grid : grid_at s tables_id ≡ a.grid
    a_grid = grid_found s tables_id a a_found

    b_grid : grid_at s columns_id ≡ b.grid
    b_grid = grid_found s columns_id b b_found

    row_parts : (w x y z : ℕ) (rows others : List ℕ) → w ∷ x ∷ y ∷ z ∷ rows ≡ 0 ∷ 0 ∷ 0 ∷ 0 ∷ others → (w ≡ 0) × (x ≡ 0) × (y ≡ 0) × (z ≡ 0) × (rows ≡ others)
    row_parts w x y z rows others e = (cc, cc, cc, cc, cc)

    zeros : (a.row ≡ 0) × (b.row ≡ 0) × (c.row ≡ 0) × (d.row ≡ 0) × (map table_row p ≡ (grid_at s tables_id).rows)
    zeros = row_parts a.row b.row c.row d.row (map table_row p) (grid_at s tables_id).rows rows_told

    plain_rows : map table_row p ≡ a.grid.rows
    plain_rows = zeros.4 ∙ ap (λ g. g.rows) a_grid

    plain_grids : AllByRecursion (λ t. grid_at s t.id ≡ t.grid) p
    plain_grids = each_weaker (λ t. find_id table_id t.id s ≡ Some t) (λ t. grid_at s t.id ≡ t.grid) (λ t e. grid_found s t.id t e) p finds.1.1.1.1

    abbrev SaidAt : Table → Type 0
    SaidAt t = (has_text (cell_beside s tables_id 0 t.row) t.id ≡ true) × AreSaid s t.row 0 t.grid.columns

    each_said : AllByRecursion SaidAt p
    each_said =
        each_weaker (λ t. ((has_text (cell_beside s tables_id 0 t.row) t.id ≡ true) × (are_said s t.row 0 (grid_at s t.id).columns ≡ true)) × (grid_at s t.id ≡ t.grid)) SaidAt
        (λ t h. (h.0.0, said_columns s t.row 0 t.grid.columns (ap (λ g. are_said s t.row 0 g.columns) (sym h.1) ∙ h.0.1))) p
        (each_both (λ t. (has_text (cell_beside s tables_id 0 t.row) t.id ≡ true) × (are_said s t.row 0 (grid_at s t.id).columns ≡ true)) (λ t. grid_at s t.id ≡ t.grid) p
        (said_tables s (grid_at s tables_id).rows p yes.said (sym zeros.4)) plain_grids)

    -- ---- what the cells say

    beside_is : (id name : List ℕ) (t : Table) (ty : ColType) (i q : ℕ) → find_id table_id id s ≡ Some t → slice_get t.grid.columns i ≡ Some (metadata_column name ty) → cell_beside s id i q ≡ told s id name q
    beside_is id name t ty i q found at = ap (λ o. elim o as (λ _. CellValue) [ None ↦ value.Null | Some d ↦ told s id d.id q ]) (column_found s id t found i ∙ at)

    record IsTold (e : Described) : Type 0 where
      parent : told s columns_id (codes "parentId") e.column.row ≡ value.Int (pos e.parent)
      id : told s columns_id (codes "colId") e.column.row ≡ value.Text e.column.id
      ty : told s columns_id (codes "type") e.column.row ≡ value.Text (type_text e.column.info.ty)
      is_formula : told s columns_id (codes "isFormula") e.column.row ≡ value.Bool e.column.info.is_formula
      formula : told s columns_id (codes "formula") e.column.row ≡ value.Text e.column.info.formula

    told_from : (parent : ℕ) (k : ColDef) → is_said s parent k ≡ true → IsTold (described parent k)
    told_from parent k e =
        let p4 : (((holds' && text') && type') && truth' ≡ true) × (has_text (cell_beside s columns_id 4 k.row) k.info.formula ≡ true) = and_parts _ _ e in
        let p3 : ((holds' && text') && type' ≡ true) × (truth' ≡ true) = and_parts _ _ p4.0 in
        let p2 : (holds' && text' ≡ true) × (type' ≡ true) = and_parts _ _ p3.0 in
        let p1 : (holds' ≡ true) × (text' ≡ true) = and_parts _ _ p2.0 in
        record {
          parent = sym (beside_is columns_id (codes "parentId") b (type.Ref tables_id) 0 k.row b_found (b_at 0 (codes "parentId") (codes "Ref:_grist_Tables") (type.Ref tables_id) parent_type n2.0)) ∙ held (cell_beside s columns_id 0 k.row) parent p1.0;
          id = sym (beside_is columns_id (codes "colId") b type.Text 1 k.row b_found (b_at 1 (codes "colId") (codes "Text") type.Text text_type n2.1)) ∙ text_held (cell_beside s columns_id 1 k.row) k.id p1.1;
          ty = sym (beside_is columns_id (codes "type") b type.Text 2 k.row b_found (b_at 2 (codes "type") (codes "Text") type.Text text_type n3.1)) ∙ text_held (cell_beside s columns_id 2 k.row) (type_text k.info.ty) p2.1;
          is_formula = sym (beside_is columns_id (codes "isFormula") b type.Bool 3 k.row b_found (b_at 3 (codes "isFormula") (codes "Bool") type.Bool bool_type f2.0)) ∙ truth_held (cell_beside s columns_id 3 k.row) k.info.is_formula p3.1;
          formula = sym (beside_is columns_id (codes "formula") b type.Text 4 k.row b_found (b_at 4 (codes "formula") (codes "Text") type.Text text_type f2.1)) ∙ text_held (cell_beside s columns_id 4 k.row) k.info.formula p4.1;
        }
      where
        holds' : Bool
        holds' = holds (cell_beside s columns_id 0 k.row) parent

        text' : Bool
        text' = has_text (cell_beside s columns_id 1 k.row) k.id

        type' : Bool
        type' = has_type (cell_beside s columns_id 2 k.row) k.info.ty

        truth' : Bool
        truth' = has_truth (cell_beside s columns_id 3 k.row) k.info.is_formula

    all_told : AllByRecursion IsTold (all_columns p)
    all_told = each_described IsTold p (each_weaker SaidAt (λ t. AllByRecursion (λ k. IsTold (described t.row k)) t.grid.columns) (λ t h. each_weaker (λ k. is_said s t.row k ≡ true) (λ k. IsTold (described t.row k)) (told_from t.row) t.grid.columns h.1.said) p each_said)

    abbrev mark : ℕ → CellValue
    mark q = told s columns_id (codes "parentId") q

    all_marked : AllByRecursion (IsMarked mark) p
    all_marked = each_weaker SaidAt (IsMarked mark) (λ t h. each_mapped (λ q. mark q ≡ value.Int (pos t.row)) column_row t.grid.columns (each_weaker (λ k. is_said s t.row k ≡ true) (λ k. mark k.row ≡ value.Int (pos t.row)) (λ k e. (told_from t.row k e).parent) t.grid.columns h.1.said)) p each_said

    ascend_each : AllByRecursion (λ t. IsAscending (map column_row t.grid.columns)) p
    ascend_each = each_weaker SaidAt (λ t. IsAscending (map column_row t.grid.columns)) (λ t h. h.1.ascend) p each_said

    tables_ascend : IsAscending (map table_row p)
    tables_ascend = subst IsAscending (sym plain_rows) sound.grids.0.is_grid.ascending

    once : has_no_duplicates (column_rows p) ≡ true
    once = once_marked mark p all_marked ascend_each tables_ascend

    plains : AllByRecursion (λ t. is_metadata_id t.id ≡ false) p
    plains =
        plain_each p
        (subst (λ id. AllByRecursion (λ t. bytes_eq id (table_id t) ≡ false) p) a_id sound.distinct.0.1.1.1)
        (subst (λ id. AllByRecursion (λ t. bytes_eq id (table_id t) ≡ false) p) b_id sound.distinct.1.0.1.1)
        (subst (λ id. AllByRecursion (λ t. bytes_eq id (table_id t) ≡ false) p) c_id sound.distinct.1.1.0.1)
        (subst (λ id. AllByRecursion (λ t. bytes_eq id (table_id t) ≡ false) p) d_id sound.distinct.1.1.1.0)

    good : IsGood c.grid d.grid p
    good = record {
      resources_sound = sound.grids.1.1.0;
      rules_sound = sound.grids.1.1.1.0;
      resources_have = c_columns;
      rules_have = d_columns;
      distinct = sound.distinct.1.1.1.1;
      plain = plains;
      grids = sound.grids.1.1.1.1;
      names = name_each p plains sound.names.1.1.1.1;
      once = once;
      tables_ascend = tables_ascend;
      columns_ascend = ascend_each;
      table_rows = subst (AllByRecursion (λ q. 0 < q)) (sym plain_rows) sound.grids.0.from_one;
      columns_from_one = each_weaker SaidAt (λ t. AllByRecursion (λ q. 0 < q) (map column_row t.grid.columns)) (λ t h. h.1.above) p each_said;
    }

    whole : IsWhole (with_schema c.grid d.grid p)
    whole = whole_from c.grid d.grid p good

    -- ---- the table of tables

    id_cells : AllByRecursion (λ t. cell column_id a.grid (codes "tableId") t.row ≡ cell column_id (tables_grid p) (codes "tableId") t.row) p
    id_cells =
        each_weaker (λ t. SaidAt t × Stands table_row (λ (t : Table). value.Text t.id ∷ []) p [] t) (λ t. cell column_id a.grid (codes "tableId") t.row ≡ cell column_id (tables_grid p) (codes "tableId") t.row)
        (λ t h.
        ap (λ g. cell column_id g (codes "tableId") t.row) (sym a_grid)
        ∙ sym (beside_is tables_id (codes "tableId") a type.Text 0 t.row a_found (slice_is s tables_id a a_found sound.grids.0.infos 0 (codes "tableId") (codes "Text") type.Text text_type t1.1))
        ∙ text_held (cell_beside s tables_id 0 t.row) t.id h.0.0
        ∙ sym (told_table_id c.grid d.grid p t h.1)
        ∙ ap (λ g. cell column_id g (codes "tableId") t.row) (tables_part c.grid d.grid p)) p
        (each_both SaidAt (Stands table_row (λ (t : Table). value.Text t.id ∷ []) p []) p each_said (each_stands table_row (λ (t : Table). value.Text t.id ∷ []) p [] tables_ascend))

    tables_same : a.grid ≡ tables_grid p
    tables_same =
        same_grid column_id (tables_grid p) whole.sound.grids.0.is_grid a.grid sound.grids.0.is_grid a_columns (sym plain_rows)
        (λ k q found here. found_all column_id (λ k. (q : ℕ) → has (map table_row p) q ≡ true → cell column_id a.grid k.id q ≡ cell column_id (tables_grid p) k.id q) k.id tables_columns k
        (λ q here. each_at (λ q. cell column_id a.grid (codes "tableId") q ≡ cell column_id (tables_grid p) (codes "tableId") q) (map table_row p) q (each_mapped (λ q. cell column_id a.grid (codes "tableId") q ≡ cell column_id (tables_grid p) (codes "tableId") q) table_row p id_cells) here, tt) found q here)

    -- ---- the table of columns

    abbrev es : List Described
    es = in_order (all_columns p)

    all_there : AllByRecursion (λ q. has b.grid.rows q ≡ true) (map described_row es)
    all_there = each_mapped (λ q. has b.grid.rows q ≡ true) described_row es (each_in_order (λ e. has b.grid.rows e.column.row ≡ true) (all_columns p) (each_weaker IsTold (λ e. has b.grid.rows e.column.row ≡ true) (λ e h. row_there s columns_id b b_found (codes "parentId") e.column.row e.parent h.parent) (all_columns p) all_told))

    as_many : length (map described_row es) ≡ length b.grid.rows
    as_many =
        sym (length-total (map described_row es)) ∙ total-described (λ _. 1) p once ∙ sym (counted s p plain_grids)
        ∙ sym (eqb-true (length (grid_at s columns_id).rows) (column_count s (map table_id p)) yes.count) ∙ ap (λ g. length g.rows) b_grid

    columns_rows : b.grid.rows ≡ map described_row es
    columns_rows = sym (same_among (map described_row es) b.grid.rows (IsAscending-in_order (all_columns p)) sound.grids.1.0.is_grid.ascending all_there as_many)

    abbrev SameCell : List ℕ → ℕ → Type 0
    SameCell name q = cell column_id b.grid name q ≡ cell column_id (columns_grid p) name q

    same_cell : (name : List ℕ) (q : ℕ) (v : CellValue) → told s columns_id name q ≡ v → told (with_schema c.grid d.grid p) columns_id name q ≡ v → SameCell name q
    same_cell name q v e f = ap (λ g. cell column_id g name q) (sym b_grid) ∙ e ∙ sym f ∙ ap (λ g. cell column_id g name q) (columns_part c.grid d.grid p)

    abbrev SameCells : ℕ → Type 0
    SameCells q = SameCell (codes "parentId") q × SameCell (codes "colId") q × SameCell (codes "type") q × SameCell (codes "isFormula") q × SameCell (codes "formula") q

    cells_same : (e : Described) → IsTold e × Stands described_row describe es [] e → SameCells e.column.row
    cells_same e h = (
      same_cell (codes "parentId") e.column.row (value.Int (pos e.parent)) h.0.parent (told_parent c.grid d.grid p e h.1),
      same_cell (codes "colId") e.column.row (value.Text e.column.id) h.0.id (told_id c.grid d.grid p e h.1),
      same_cell (codes "type") e.column.row (value.Text (type_text e.column.info.ty)) h.0.ty (told_type c.grid d.grid p e h.1),
      same_cell (codes "isFormula") e.column.row (value.Bool e.column.info.is_formula) h.0.is_formula (told_is_formula c.grid d.grid p e h.1),
      same_cell (codes "formula") e.column.row (value.Text e.column.info.formula) h.0.formula (told_formula c.grid d.grid p e h.1),
    )

    all_cells : (q : ℕ) → has (map described_row es) q ≡ true → SameCells q
    all_cells q here =
        each_at SameCells (map described_row es) q (each_mapped SameCells described_row es (each_weaker (λ e. IsTold e × Stands described_row describe es [] e) (λ e. SameCells e.column.row) cells_same es
        (each_both IsTold (Stands described_row describe es []) es (each_in_order IsTold (all_columns p) all_told) (each_stands described_row describe es [] (IsAscending-in_order (all_columns p)))))) here

    columns_same : b.grid ≡ columns_grid p
    columns_same =
        same_grid column_id (columns_grid p) whole.sound.grids.1.0.is_grid b.grid sound.grids.1.0.is_grid b_columns columns_rows
        (λ k q found here. found_all column_id (λ k. (q : ℕ) → has (map described_row es) q ≡ true → SameCell k.id q) k.id columns_columns k
        (λ q here. (all_cells q here).0, (λ q here. (all_cells q here).1, (λ q here. (all_cells q here).2, (λ q here. (all_cells q here).3, (λ q here. (all_cells q here).4, tt))))) found q here)

    -- ---- the whole

    table_is : (t : Table) (id : List ℕ) (g : Grid ColDef) → t.id ≡ id → t.row ≡ 0 → t.grid ≡ g → t ≡ metadata_table id g
    table_is t id g i r e =
        ap (λ x. let y : Table = record { id = x; row = t.row; grid = t.grid } in y) i
        ∙ ap (λ x. let y : Table = record { id = id; row = x; grid = t.grid } in y) r
        ∙ ap (λ x. let y : Table = record { id = id; row = 0; grid = x } in y) e

    same : s ≡ with_schema c.grid d.grid p
    same =
        ap (λ t. t ∷ b ∷ c ∷ d ∷ p) (table_is a tables_id (tables_grid p) a_id zeros.0 tables_same)
        ∙ ap (λ t. metadata_table tables_id (tables_grid p) ∷ t ∷ c ∷ d ∷ p) (table_is b columns_id (columns_grid p) b_id zeros.1 columns_same)
        ∙ ap (λ t. metadata_table tables_id (tables_grid p) ∷ metadata_table columns_id (columns_grid p) ∷ t ∷ d ∷ p) (table_is c resources_id c.grid c_id zeros.2 refl)
        ∙ ap (λ t. metadata_table tables_id (tables_grid p) ∷ metadata_table columns_id (columns_grid p) ∷ metadata_table resources_id c.grid ∷ t ∷ p) (table_is d rules_id d.grid d_id zeros.3 refl)

    schema_agrees : SchemaAgrees s
    schema_agrees = subst SchemaAgrees (sym same) whole.agrees

-- what agrees and has the rows agrees with its schema
pub agrees_exactly : (s : Document) → IsSound s → agrees s ≡ true → HasToldRows s → SchemaAgrees s
agrees_exactly [] sound told rows = absurd (cc)
agrees_exactly (a ∷ []) sound told rows = absurd (cc)
agrees_exactly (a ∷ b ∷ []) sound told rows = absurd (cc)
agrees_exactly (a ∷ b ∷ c ∷ []) sound told rows = absurd (cc)
agrees_exactly (a ∷ b ∷ c ∷ d ∷ p) sound told rows = schema_agrees a b c d p sound (yes_parts a b c d p told) rows
