-- The schema tables as what describes the other tables, and where they do so.
use Rattle.std.specs.Prelude.{ℕ, pos, true, false, cond, nat_eq, nat_lt, List, [], ◌∷◌, ◌++◌, map, ◌≡◌, codes}
use Rattle.std.specs.List.{AllByRecursion}
use Rattle.cell_types.specs.declared.column_type.ColType.{ColType}
use Rattle.cell_types.specs.declared.column_type.ColType.TheVariants as type
use Rattle.cell_types.specs.declared.value.CellValue.{CellValue}
use Rattle.cell_types.specs.declared.value.CellValue.TheVariants as value
use Rattle.doc_model.specs.declared.column.ColDef.{ColDef}
use Rattle.doc_model.specs.MetadataIds.{tables_id, columns_id, resources_id, rules_id}
use Rattle.doc_model.specs.Rows.{IsAscending, has_no_duplicates}
use Rattle.doc_model.specs.Grid.{Grid}
use Rattle.doc_model.specs.Column.{column_row}
use Rattle.doc_model.specs.Document.{Table, Document, table_row}

-- a column of a metadata table
abbrev pub metadata_column : List ℕ → ColType → ColDef
metadata_column id ty =
    record { id = id; info = record { ty = ty; is_formula = false; formula = [] }; row = 0 }

abbrev pub tables_columns : List ColDef
tables_columns = metadata_column (codes "tableId") type.Text ∷ []

abbrev pub columns_columns : List ColDef
columns_columns =
    metadata_column (codes "parentId") (type.Ref tables_id)
    ∷ metadata_column (codes "colId") type.Text
    ∷ metadata_column (codes "type") type.Text
    ∷ metadata_column (codes "isFormula") type.Bool
    ∷ metadata_column (codes "formula") type.Text ∷ []

abbrev pub resources_columns : List ColDef
resources_columns =
    metadata_column (codes "tableId") type.Text ∷ metadata_column (codes "colIds") type.Text ∷ []

abbrev pub rules_columns : List ColDef
rules_columns =
    metadata_column (codes "resource") (type.Ref resources_id)
    ∷ metadata_column (codes "aclFormula") type.Text
    ∷ metadata_column (codes "permissionsText") type.Text
    ∷ metadata_column (codes "rulePos") type.Int
    ∷ metadata_column (codes "userAttributes") type.Text
    ∷ metadata_column (codes "memo") type.Text ∷ []

-- a type as it is written
abbrev pub type_text : ColType → List ℕ
type_text type.Any = codes "Any"
type_text type.Text = codes "Text"
type_text type.Int = codes "Int"
type_text type.Bool = codes "Bool"
type_text type.Date = codes "Date"
type_text (type.Ref t) = codes "Ref:" ++ t
type_text (type.RefList t) = codes "RefList:" ++ t

-- a column, and the row of its table
pub record Described : Type 0 where
  pub parent : ℕ
  pub column : ColDef

abbrev pub described_row : Described → ℕ
described_row e = e.column.row

-- the cells that describe a column
abbrev pub describe : Described → List CellValue
describe e =
    value.Int (pos e.parent) ∷ value.Text e.column.id ∷ value.Text (type_text e.column.info.ty)
    ∷ value.Bool e.column.info.is_formula ∷ value.Text e.column.info.formula ∷ []

-- the columns of all tables, table by table
abbrev pub all_columns : List Table → List Described
all_columns [] = []
all_columns (t ∷ plain) =
    map (λ (d : ColDef).
    let e : Described = record { parent = t.row; column = d } in e) t.grid.columns
    ++ all_columns plain

-- the column in its place by row, instead of one with its row
abbrev pub put_described : Described → List Described → List Described
put_described e [] = e ∷ []
put_described e (x ∷ xs) =
    cond (nat_lt e.column.row x.column.row) (e ∷ x ∷ xs)
    (cond (nat_eq e.column.row x.column.row) (e ∷ xs) (x ∷ put_described e xs))

-- the columns in the order of their rows
abbrev pub in_order : List Described → List Described
in_order [] = []
in_order (e ∷ es) = put_described e (in_order es)

-- what the table of tables says
abbrev pub tables_grid : List Table → Grid ColDef
tables_grid plain = record {
  columns = tables_columns;
  rows = map table_row plain;
  cells = map (λ (t : Table). value.Text t.id ∷ []) plain;
}

-- what the table of columns says
abbrev pub columns_grid : List Table → Grid ColDef
columns_grid plain = record {
  columns = columns_columns;
  rows = map described_row (in_order (all_columns plain));
  cells = map describe (in_order (all_columns plain));
}

abbrev pub metadata_table : List ℕ → Grid ColDef → Table
metadata_table id g = record { id = id; row = 0; grid = g }

-- the document of these access tables and these plain tables, whose schema tables describe them
abbrev pub with_schema : Grid ColDef → Grid ColDef → List Table → Document
with_schema resources rules plain =
    metadata_table tables_id (tables_grid plain) ∷ metadata_table columns_id (columns_grid plain)
    ∷ metadata_table resources_id resources ∷ metadata_table rules_id rules ∷ plain

abbrev pub no_grid : Grid ColDef
no_grid = record { columns = []; rows = []; cells = [] }

-- what a document's table of resources holds, its table of rules, and its other tables
abbrev pub resources : Document → Grid ColDef
resources (a ∷ b ∷ c ∷ s) = c.grid
resources _ = no_grid

abbrev pub rules : Document → Grid ColDef
rules (a ∷ b ∷ c ∷ d ∷ s) = d.grid
rules _ = no_grid

abbrev pub plain_tables : Document → List Table
plain_tables (a ∷ b ∷ c ∷ d ∷ s) = s
plain_tables _ = []

-- the schema tables describe the plain tables and nothing else, no row describes two columns,
-- tables and columns stand in the order of their rows, and the access tables have their columns
pub record SchemaAgrees (s : Document) : Type 0 where
  pub schema : s ≡ with_schema (resources s) (rules s) (plain_tables s)
  pub once : has_no_duplicates (map described_row (all_columns (plain_tables s))) ≡ true
  pub tables_ascend : IsAscending (map table_row (plain_tables s))
  pub columns_ascend :
      AllByRecursion (λ t. IsAscending (map column_row t.grid.columns)) (plain_tables s)
  pub resources_have : (resources s).columns ≡ resources_columns
  pub rules_have : (rules s).columns ≡ rules_columns
