-- What of a document is counted against limits, and the first limit that it passes.
use Rattle.std.specs.Prelude.{ℕ, ◌+◌, ◌*◌, cond, not, nat_lt, List, [], ◌∷◌, map, filter, length, Option, Some, None}
use Rattle.cell_types.specs.declared.value.CellItem.{CellItem}
use Rattle.cell_types.specs.declared.value.CellItem.TheVariants as item
use Rattle.cell_types.specs.declared.value.CellValue.{CellValue}
use Rattle.cell_types.specs.declared.value.CellValue.TheVariants as value
use Rattle.doc_model.specs.declared.column.ColDef.{ColDef}
use Rattle.doc_model.specs.declared.limit.LimitKind.{LimitKind}
use Rattle.doc_model.specs.declared.limit.LimitKind.TheVariants as limit
use Rattle.doc_model.specs.MetadataIds.{is_schema_id, is_metadata_id}
use Rattle.doc_model.specs.Grid.{Grid}
use Rattle.doc_model.specs.Document.{Table, Document}

-- the greatest number of a list, 0 of none
abbrev pub greatest : List ℕ → ℕ
greatest [] = 0
greatest (n ∷ ns) = cond (nat_lt n (greatest ns)) (greatest ns) n

abbrev pub total : List ℕ → ℕ
total [] = 0
total (n ∷ ns) = n + total ns

-- 16 for an item, and the bytes of a text
abbrev pub item_weight : CellItem → ℕ
item_weight (item.Text t) = 16 + length t
item_weight _ = 16

-- the bytes of a text, or the weight of a list's items
abbrev pub value_weight : CellValue → ℕ
value_weight (value.Text t) = length t
value_weight (value.List items) = total (map item_weight items)
value_weight _ = 0

-- the weights of a row's cells
abbrev pub row_weight : List CellValue → ℕ
row_weight row = total (map value_weight row)

abbrev pub formula_bytes : ColDef → ℕ
formula_bytes d = length d.info.formula

-- the weights of all cells, and each column's formula once
abbrev pub grid_weight : Grid ColDef → ℕ
grid_weight g = total (map row_weight g.cells) + total (map formula_bytes g.columns)

-- how many cells a table has
abbrev pub grid_cells : Grid ColDef → ℕ
grid_cells g = length g.rows * length g.columns

-- the tables whose cells are counted: all but the schema tables
abbrev pub counted : Document → List Table
counted s = filter (λ (t : Table). not (is_schema_id t.id)) s

pub record Counts : Type 0 where
  pub tables : ℕ
  pub columns : ℕ
  pub rows : ℕ
  pub row_id : ℕ
  pub cells : ℕ
  pub weight : ℕ

-- tables that are no metadata tables; the most columns, the most rows and the greatest row id of
-- any table; and the cells and the weight of all tables but the schema tables
abbrev pub counts : Document → Counts
counts s = record {
  tables = length (filter (λ (t : Table). not (is_metadata_id t.id)) s);
  columns = greatest (map (λ (t : Table). length t.grid.columns) s);
  rows = greatest (map (λ (t : Table). length t.grid.rows) s);
  row_id = greatest (map (λ (t : Table). greatest t.grid.rows) s);
  cells = total (map (λ (t : Table). grid_cells t.grid) (counted s));
  weight = total (map (λ (t : Table). grid_weight t.grid) (counted s));
}

-- how much of each there may be
abbrev pub bound_of : LimitKind → ℕ
bound_of limit.Actions = 2000
bound_of limit.Sessions = 1024
bound_of limit.Tables = 2048
bound_of limit.Columns = 1024
bound_of limit.Rows = 1000000
bound_of limit.RowId = 4294967295
bound_of limit.Cells = 4000000
bound_of limit.Weight = 268435456

-- the limit where the count is above its bound, or else the next one
abbrev pub passed : LimitKind → ℕ → Option LimitKind → Option LimitKind
passed kind count next = cond (nat_lt (bound_of kind) count) (Some kind) next

-- the first limit that the counts pass
abbrev pub first_passed : Counts → Option LimitKind
first_passed c =
    passed limit.Tables c.tables (passed limit.Columns c.columns (passed limit.Rows c.rows
    (passed limit.RowId c.row_id (passed limit.Cells c.cells (passed limit.Weight c.weight None)))))

-- the first limit that the document passes
abbrev pub over : Document → Option LimitKind
over s = first_passed (counts s)
