-- Whether a document agrees with its schema, as far as a store tells it.
use Rattle.std.specs.Prelude.{ℕ, Bool, true, false, cond, not, ◌&&◌, nat_eq, nat_le, nat_lt, List, [], ◌∷◌, ◌+◌, ◌-◌, length, drop, map, codes, Option, Some, None}
use Rattle.std.specs.Str.{bytes_eq}
use Rattle.cell_types.specs.declared.column_type.ColType.{ColType}
use Rattle.cell_types.specs.declared.value.CellValue.{CellValue}
use Rattle.cell_types.specs.declared.value.CellValue.TheVariants as value
use Rattle.doc_model.specs.declared.column.ColDef.{ColDef}
use Rattle.doc_model.specs.MetadataIds.{tables_id, columns_id, resources_id, rules_id}
use Rattle.doc_model.specs.Column.{is_empty}
use Rattle.doc_model.specs.Document.{Document, table_id}
use Rattle.doc_model.specs.Readers.{table_at, column_at}
use Rattle.doc_model.specs.Schema.{type_text}
use Rattle.doc_readers.specs.Parts.{grid_at}
use Rattle.meta_schema.specs.Decoding.{holds, text_in, truth_in, told}

-- whether a cell holds that text, that type, that truth value
abbrev pub has_text : CellValue → List ℕ → Bool
has_text v text = elim (text_in v) [ None ↦ false | Some t ↦ bytes_eq t text ]

abbrev pub has_type : CellValue → ColType → Bool
has_type v ty = has_text v (type_text ty)

abbrev pub has_truth : CellValue → Bool → Bool
has_truth v truth = elim (truth_in v) [ None ↦ false | Some b ↦ cond b truth (not truth) ]

-- the cell of a row in the column at an index, Null where there is none
abbrev pub cell_beside : Document → List ℕ → ℕ → ℕ → CellValue
cell_beside s table index row =
    elim (column_at s table index) [ None ↦ value.Null | Some d ↦ told s table d.id row ]

-- whether the column at an index is a data column of that id and type that nothing describes
abbrev pub has_column : Document → List ℕ → ℕ → List ℕ → List ℕ → Bool
has_column s table index id ty = elim (column_at s table index) [
  | None ↦ false
  | Some d ↦
      bytes_eq d.id id && bytes_eq ty (type_text d.info.ty) && not d.info.is_formula
      && is_empty d.info.formula && nat_eq d.row 0
]

-- whether a table has no column at an index
abbrev pub ends_at : Document → List ℕ → ℕ → Bool
ends_at s table index = elim (column_at s table index) [ None ↦ true | Some d ↦ false ]

-- whether the table at an index has that id
abbrev pub has_table_at : Document → ℕ → List ℕ → Bool
has_table_at s index id = elim (table_at s index) [ None ↦ false | Some t ↦ bytes_eq t id ]

-- whether the four metadata tables stand first, with their columns
abbrev pub has_tables_table : Document → Bool
has_tables_table s =
    has_table_at s 0 tables_id && has_column s tables_id 0 (codes "tableId") (codes "Text")
    && ends_at s tables_id 1

abbrev pub has_naming_columns : Document → Bool
has_naming_columns s =
    has_column s columns_id 0 (codes "parentId") (codes "Ref:_grist_Tables")
    && has_column s columns_id 1 (codes "colId") (codes "Text")
    && has_column s columns_id 2 (codes "type") (codes "Text")

abbrev pub has_formula_columns : Document → Bool
has_formula_columns s =
    has_column s columns_id 3 (codes "isFormula") (codes "Bool")
    && has_column s columns_id 4 (codes "formula") (codes "Text") && ends_at s columns_id 5

abbrev pub has_columns_table : Document → Bool
has_columns_table s =
    has_table_at s 1 columns_id && (has_naming_columns s && has_formula_columns s)

abbrev pub has_resources_table : Document → Bool
has_resources_table s =
    has_table_at s 2 resources_id && has_column s resources_id 0 (codes "tableId") (codes "Text")
    && has_column s resources_id 1 (codes "colIds") (codes "Text") && ends_at s resources_id 2

abbrev pub has_deciding_columns : Document → Bool
has_deciding_columns s =
    has_column s rules_id 0 (codes "resource") (codes "Ref:_grist_ACLResources")
    && has_column s rules_id 1 (codes "aclFormula") (codes "Text")
    && has_column s rules_id 2 (codes "permissionsText") (codes "Text")

abbrev pub has_further_columns : Document → Bool
has_further_columns s =
    has_column s rules_id 3 (codes "rulePos") (codes "Int")
    && has_column s rules_id 4 (codes "userAttributes") (codes "Text")
    && has_column s rules_id 5 (codes "memo") (codes "Text") && ends_at s rules_id 6

abbrev pub has_rules_table : Document → Bool
has_rules_table s =
    has_table_at s 3 rules_id && (has_deciding_columns s && has_further_columns s)

-- whether the row of a column says it, as one of the table of that row
abbrev pub is_said : Document → ℕ → ColDef → Bool
is_said s parent d =
    holds (cell_beside s columns_id 0 d.row) parent
    && has_text (cell_beside s columns_id 1 d.row) d.id
    && has_type (cell_beside s columns_id 2 d.row) d.info.ty
    && has_truth (cell_beside s columns_id 3 d.row) d.info.is_formula
    && has_text (cell_beside s columns_id 4 d.row) d.info.formula

-- whether each column is said, and their rows ascend above a number
abbrev pub are_said : Document → ℕ → ℕ → List ColDef → Bool
are_said s parent low [] = true
are_said s parent low (d ∷ ds) =
    (nat_lt low d.row && is_said s parent d) && are_said s parent d.row ds

-- whether the rows of the table of tables say the tables of these ids, one for one
abbrev pub tables_said : Document → List ℕ → List (List ℕ) → Bool
tables_said s [] [] = true
tables_said s (r ∷ rows) (id ∷ ids) =
    (has_text (cell_beside s tables_id 0 r) id && are_said s r 0 (grid_at s id).columns)
    && tables_said s rows ids
tables_said s _ _ = false

-- how many columns the tables of these ids have
abbrev pub column_count : Document → List (List ℕ) → ℕ
column_count s [] = 0
column_count s (id ∷ ids) = length (grid_at s id).columns + column_count s ids

-- the ids of the tables behind the metadata tables
abbrev pub plain_ids : Document → List (List ℕ)
plain_ids s = drop 4 (map table_id s)

-- how many rows are left of some when each column of a table has taken one; nothing where the
-- columns are not said, or are too many
abbrev pub rows_left : Document → List ℕ → ℕ → ℕ → Option ℕ
rows_left s id parent left =
    cond (are_said s parent 0 (grid_at s id).columns && nat_le (length (grid_at s id).columns) left)
    (Some (left - length (grid_at s id).columns)) None

-- whether each table and each of its columns is said, and there are no more rows than columns
abbrev pub tables_agree : Document → Bool
tables_agree s =
    tables_said s (grid_at s tables_id).rows (plain_ids s)
    && nat_eq (length (grid_at s columns_id).rows) (column_count s (plain_ids s))

-- whether the metadata tables stand first, and the schema tables say the others and nothing else
abbrev pub agrees : Document → Bool
agrees s =
    has_tables_table s && has_columns_table s && has_resources_table s && has_rules_table s
    && tables_agree s
