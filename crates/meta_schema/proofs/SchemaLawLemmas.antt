-- What the schema tables of a whole document tell.
use Rattle.std.proofs.Common.{ℕ, true, cond, ◌&&◌, ◌||◌, List, [], ◌∷◌, ◌++◌, map, filter, ◌≡◌, ap, ◌∙◌, eqb, codes, Some, None}
use Rattle.std.proofs.lemmas.Bool.{and_parts}
use Rattle.std.specs.Prelude.{pos, option_map, filter_map}
use Rattle.std.specs.List.{AllByRecursion}
use Rattle.std.specs.Str.{bytes_eq}
use Rattle.cell_types.specs.NameRule.{is_name}
use Rattle.cell_types.specs.declared.value.CellValue.{CellValue}
use Rattle.cell_types.specs.declared.value.CellValue.TheVariants as value
use Rattle.doc_model.specs.declared.column.ColDef.{ColDef}
use Rattle.doc_model.specs.MetadataIds.{tables_id, columns_id, resources_id, rules_id}
use Rattle.doc_model.specs.ByIds.{find_id}
use Rattle.doc_model.specs.Grid.{Grid, beside, cell}
use Rattle.doc_model.specs.Rows.{has_no_duplicates, IsAscending}
use Rattle.doc_model.specs.Column.{column_id, column_row, is_empty, is_short, is_sound_type, is_sound_info}
use Rattle.doc_model.specs.Document.{Table, Document, table_id, table_row}
use Rattle.doc_model.specs.Schema.{Described, described_row, describe, all_columns, in_order, columns_columns, tables_grid, columns_grid, metadata_table, with_schema, resources, rules, plain_tables, type_text, no_grid}
use Rattle.doc_model.specs.Sound.{IsSoundGrid, has_names}
use Rattle.doc_model.proofs.Choices.{cond_true, cond_false, each_weaker, each_both}
use Rattle.doc_model.proofs.ByIdsLaws.{bytes_itself}
use Rattle.doc_model.proofs.SchemaLaws.{IsAscending-in_order, each_in_order}
use Rattle.doc_model.proofs.WholeLaws.{IsGood, good_from, described_rows, names_parts, tables_columns_apart}
use Rattle.doc_readers.specs.Parts.{grid_at}
use Rattle.meta_schema.specs.declared.schema_table.SchemaTable.{SchemaTable}
use Rattle.meta_schema.specs.Decoding.{name_of, type_of, name_in, type_in, truth_in, text_in, holds, column_of, told, column_in, column_under, columns_under, table_in, schema_of}
use Rattle.meta_schema.specs.SchemaLaw.{told_table, SchemaOfLaw}
use Rattle.meta_schema.proofs.TextLemmas.{name_of-name, type_of-type_text}
use Rattle.meta_schema.proofs.LookupLemmas.{Stands, each_stands, filter_map_found, filter_map_passed}
use Rattle.meta_schema.proofs.DescribedLemmas.{described, is_under, column_part, each_own, columns_chosen}

-- a column whose id and type are read back
record IsReadBack (d : ColDef) : Type 0 where
  id : name_of d.id ≡ Some d.id
  ty : type_of (type_text d.info.ty) ≡ Some d.info.ty

pub sound_type : (d : ColDef) → is_sound_info d.info ≡ true → is_sound_type d.info.ty ≡ true
sound_type d e =
    let one : ((is_sound_type d.info.ty && is_short d.info.formula) ≡ true) × _ = and_parts (is_sound_type d.info.ty && is_short d.info.formula) (d.info.is_formula || is_empty d.info.formula) e in
    (and_parts (is_sound_type d.info.ty) (is_short d.info.formula) one.0).0

read_back : (row : ℕ) (ds : List ColDef) → AllByRecursion (λ d. is_name d.id ≡ true) ds → AllByRecursion (λ d. is_sound_info d.info ≡ true) ds → AllByRecursion (λ (e : Described). IsReadBack e.column) (map (described row) ds)
read_back row [] n s = tt
read_back row (d ∷ ds) n s = (record { id = name_of-name d.id n.0; ty = type_of-type_text d.info.ty (sound_type d s.0) }, read_back row ds n.1 s.1)

each_append : {X : Type 0} (P : X → Type 0) (xs ys : List X) → AllByRecursion P xs → AllByRecursion P ys → AllByRecursion P (xs ++ ys)
each_append P [] ys h k = k
each_append P (x ∷ xs) ys h k = (h.0, each_append P xs ys h.1 k)

all_read_back : (p : List Table) → AllByRecursion (λ t. IsSoundGrid t.grid) p → AllByRecursion (λ t. has_names t ≡ true) p → AllByRecursion (λ (e : Described). IsReadBack e.column) (all_columns p)
all_read_back [] g n = tt
all_read_back (t ∷ p) g n =
    each_append (λ (e : Described). IsReadBack e.column) (map (described t.row) t.grid.columns) (all_columns p)
    (read_back t.row t.grid.columns (names_parts t n.0).1 g.0.infos) (all_read_back p g.1 n.1)

module _ (r u : Grid ColDef) (p : List Table) where
  abbrev whole : Document
  whole = with_schema r u p

  pub tables_part : grid_at whole tables_id ≡ tables_grid p
  tables_part =
      ap (λ o. elim o as (λ _. Grid ColDef) [ None ↦ no_grid | Some t ↦ t.grid ])
      (cond_true (bytes_eq tables_id tables_id) (Some (metadata_table tables_id (tables_grid p))) (find_id table_id tables_id (metadata_table columns_id (columns_grid p) ∷ metadata_table resources_id r ∷ metadata_table rules_id u ∷ p)) (bytes_itself tables_id))

  pub columns_part : grid_at whole columns_id ≡ columns_grid p
  columns_part =
      ap (λ o. elim o as (λ _. Grid ColDef) [ None ↦ no_grid | Some t ↦ t.grid ])
      (cond_false (bytes_eq tables_id columns_id) (Some (metadata_table tables_id (tables_grid p))) (find_id table_id columns_id (metadata_table columns_id (columns_grid p) ∷ metadata_table resources_id r ∷ metadata_table rules_id u ∷ p)) tables_columns_apart
      ∙ cond_true (bytes_eq columns_id columns_id) (Some (metadata_table columns_id (columns_grid p))) (find_id table_id columns_id (metadata_table resources_id r ∷ metadata_table rules_id u ∷ p)) (bytes_itself columns_id))

  -- the cell of a column in a row of which the cells are known
  cell_in : (g : Grid ColDef) (c : List ℕ) (row : ℕ) (cells : List CellValue) → beside (λ q. eqb q row) g.rows g.cells [] ≡ cells
      → cell column_id g c row ≡ beside (λ d. bytes_eq (column_id d) c) g.columns cells value.Null
  cell_in g c row cells h = ap (λ vs. beside (λ d. bytes_eq (column_id d) c) g.columns vs value.Null) h

  pub told_table_id : (t : Table) → Stands table_row (λ (t : Table). value.Text t.id ∷ []) p [] t → told whole tables_id (codes "tableId") t.row ≡ value.Text t.id
  told_table_id t h =
      ap (λ g. cell column_id g (codes "tableId") t.row) tables_part
      ∙ cell_in (tables_grid p) (codes "tableId") t.row (value.Text t.id ∷ []) h

  module _ (e : Described) (stands : Stands described_row describe (in_order (all_columns p)) [] e) where
    told_column : (c : List ℕ) → told whole columns_id c e.column.row ≡ beside (λ d. bytes_eq (column_id d) c) columns_columns (describe e) value.Null
    told_column c =
        ap (λ g. cell column_id g c e.column.row) columns_part
        ∙ cell_in (columns_grid p) c e.column.row (describe e) stands

    pub told_parent : told whole columns_id (codes "parentId") e.column.row ≡ value.Int (pos e.parent)
    told_parent = told_column (codes "parentId")

    pub told_id : told whole columns_id (codes "colId") e.column.row ≡ value.Text e.column.id
    told_id = told_column (codes "colId")

    pub told_type : told whole columns_id (codes "type") e.column.row ≡ value.Text (type_text e.column.info.ty)
    told_type = told_column (codes "type")

    pub told_is_formula : told whole columns_id (codes "isFormula") e.column.row ≡ value.Bool e.column.info.is_formula
    told_is_formula = told_column (codes "isFormula")

    pub told_formula : told whole columns_id (codes "formula") e.column.row ≡ value.Text e.column.info.formula
    told_formula = told_column (codes "formula")

    column_found : IsReadBack e.column → column_in whole e.column.row ≡ Some e.column
    column_found back =
        ap (λ v. column_of (name_in v) (type_in (told whole columns_id (codes "type") e.column.row)) (truth_in (told whole columns_id (codes "isFormula") e.column.row)) (text_in (told whole columns_id (codes "formula") e.column.row)) e.column.row) told_id
        ∙ ap (λ v. column_of (name_of e.column.id) (type_in v) (truth_in (told whole columns_id (codes "isFormula") e.column.row)) (text_in (told whole columns_id (codes "formula") e.column.row)) e.column.row) told_type
        ∙ ap (λ v. column_of (name_of e.column.id) (type_of (type_text e.column.info.ty)) (truth_in v) (text_in (told whole columns_id (codes "formula") e.column.row)) e.column.row) told_is_formula
        ∙ ap (λ v. column_of (name_of e.column.id) (type_of (type_text e.column.info.ty)) (Some e.column.info.is_formula) (text_in v) e.column.row) told_formula
        ∙ ap (λ o. column_of o (type_of (type_text e.column.info.ty)) (Some e.column.info.is_formula) (Some e.column.info.formula) e.column.row) back.id
        ∙ ap (λ o. column_of (Some e.column.id) o (Some e.column.info.is_formula) (Some e.column.info.formula) e.column.row) back.ty

    column_found_under : (parent : ℕ) → IsReadBack e.column → column_under whole parent e.column.row ≡ cond (is_under parent e) (Some (column_part e)) None
    column_found_under parent back =
        ap (λ v. cond (holds v parent) (column_in whole e.column.row) None) told_parent
        ∙ ap (λ o. cond (is_under parent e) o None) (column_found back)

  module _ (good : IsGood r u p) where
    columns_found : (t : Table) → filter (is_under t.row) (all_columns p) ≡ map (described t.row) t.grid.columns → IsAscending (map column_row t.grid.columns) → columns_under whole t.row ≡ t.grid.columns
    columns_found t own ascend =
        let es : List Described = in_order (all_columns p) in
        ap (λ g. filter_map (column_under whole t.row) g.rows) columns_part
        ∙ filter_map_passed (column_under whole t.row) described_row column_part (is_under t.row) es
        (each_weaker (λ (e : Described). Stands described_row describe es [] e × IsReadBack e.column) (λ e. column_under whole t.row e.column.row ≡ cond (is_under t.row e) (Some (column_part e)) None) (λ e h. column_found_under e h.0 t.row h.1) es
        (each_both (Stands described_row describe es []) (λ (e : Described). IsReadBack e.column) es (each_stands described_row describe es [] (IsAscending-in_order (all_columns p))) (each_in_order (λ (e : Described). IsReadBack e.column) (all_columns p) (all_read_back p good.grids good.names))))
        ∙ columns_chosen p t (ap has_no_duplicates (described_rows p) ∙ good.once) own ascend

    table_found : (t : Table) → Stands table_row (λ (t : Table). value.Text t.id ∷ []) p [] t → has_names t ≡ true → columns_under whole t.row ≡ t.grid.columns → table_in whole t.row ≡ Some (told_table t)
    table_found t stands names columns =
        ap (λ v. option_map (λ id. let x : SchemaTable = record { id = id; row = t.row; columns = columns_under whole t.row } in x) (name_in v)) (told_table_id t stands)
        ∙ ap (option_map (λ id. let x : SchemaTable = record { id = id; row = t.row; columns = columns_under whole t.row } in x)) (name_of-name t.id (names_parts t names).0)
        ∙ ap (λ ds. Some (let x : SchemaTable = record { id = t.id; row = t.row; columns = ds } in x)) columns

    tables_found : schema_of whole ≡ map told_table p
    tables_found =
        ap (λ g. filter_map (table_in whole) g.rows) tables_part
        ∙ filter_map_found (table_in whole) table_row told_table p
        (each_weaker (λ t. (Stands table_row (λ (t : Table). value.Text t.id ∷ []) p [] t × (has_names t ≡ true)) × ((filter (is_under t.row) (all_columns p) ≡ map (described t.row) t.grid.columns) × IsAscending (map column_row t.grid.columns)))
        (λ t. table_in whole t.row ≡ Some (told_table t)) (λ t h. table_found t h.0.0 h.0.1 (columns_found t h.1.0 h.1.1)) p
        (each_both (λ t. Stands table_row (λ (t : Table). value.Text t.id ∷ []) p [] t × (has_names t ≡ true)) (λ t. (filter (is_under t.row) (all_columns p) ≡ map (described t.row) t.grid.columns) × IsAscending (map column_row t.grid.columns)) p
        (each_both (Stands table_row (λ (t : Table). value.Text t.id ∷ []) p []) (λ t. has_names t ≡ true) p (each_stands table_row (λ (t : Table). value.Text t.id ∷ []) p [] good.tables_ascend) good.names)
        (each_both (λ t. filter (is_under t.row) (all_columns p) ≡ map (described t.row) t.grid.columns) (λ t. IsAscending (map column_row t.grid.columns)) p (each_own p good.tables_ascend) good.columns_ascend)))

-- of a whole document the schema tables tell the plain tables
pub schema_of-whole : SchemaOfLaw
schema_of-whole s whole =
    ap schema_of whole.agrees.schema ∙ tables_found (resources s) (rules s) (plain_tables s) (good_from s whole)
