-- Values of formula cells as they are kept: by table and column in the order of the document, and
-- of a formula column one for each row, where it is known, beside its formula and its type. A data
-- column keeps its type alone.
use Rattle.std.specs.Prelude.{ℕ, Bool, cond, nat_eq, ◌≡◌, List, [], map, length, Option, Some, None}
use Rattle.cell_types.specs.declared.cell.CellId.{CellId}
use Rattle.cell_types.specs.declared.column_type.ColType.{ColType}
use Rattle.cell_types.specs.declared.value.CellValue.{CellValue}
use Rattle.formula_parse.specs.FormulaOf.{formula_of}
use Rattle.formula_parse.specs.Tree.{Tree}
use Rattle.doc_model.specs.declared.column.ColDef.{ColDef}
use Rattle.doc_model.specs.ByIds.{find_id}
use Rattle.doc_model.specs.Document.{Table, Document}
use Rattle.doc_model.specs.Grid.{beside}
use Rattle.doc_readers.specs.Parts.{grid_at}
use Rattle.recalc.specs.declared.kept.KeptColumn.{KeptColumn}
use Rattle.recalc.specs.declared.kept.KeptTable.{KeptTable}
use Rattle.recalc.specs.Evaluated.{formula_at, sheet_of, value_of}
use Rattle.recalc.specs.Stack.{IsSound}
use Rattle.recalc.specs.Turn.{StaysKnown}

abbrev pub kept_table_id : KeptTable → List ℕ
kept_table_id k = k.id

abbrev pub kept_column_id : KeptColumn → List ℕ
kept_column_id e = e.id

-- what stands beside the row
abbrev pub held_in : List ℕ → List (Option CellValue) → ℕ → Option CellValue
held_in rows vs r = beside (λ q. nat_eq q r) rows vs None

abbrev pub held_column : List ℕ → ℕ → Option KeptColumn → Option CellValue
held_column rows r None = None
held_column rows r (Some e) = held_in rows e.values.items r

abbrev pub held_table : List ℕ → List ℕ → ℕ → Option KeptTable → Option CellValue
held_table rows c r None = None
held_table rows c r (Some k) = held_column rows r (find_id kept_column_id c k.columns.items)

-- the value that is held for a cell
abbrev pub held_at : Document → List KeptTable → CellId → Option CellValue
held_at s ks c =
    held_table (grid_at s c.table).rows c.column c.row (find_id kept_table_id c.table ks)

-- what is kept of a column
abbrev pub column_at : List KeptTable → List ℕ → List ℕ → Option KeptColumn
column_at ks t c = elim (find_id kept_table_id t ks) [
  | None ↦ None
  | Some k ↦ find_id kept_column_id c k.columns.items
]

-- the formula that is kept for a cell's column
abbrev pub tree_at : List KeptTable → CellId → Option Tree
tree_at ks c = elim (find_id kept_table_id c.table ks) [
  | None ↦ None
  | Some k ↦
      elim (find_id kept_column_id c.column k.columns.items) [ None ↦ None | Some e ↦ e.tree ]
]

-- what a column keeps, as a plain list
pub record ColumnPart : Type 0 where
  pub id : List ℕ
  pub ty : ColType
  pub is_formula : Bool
  pub tree : Option Tree
  pub values : List (Option CellValue)

pub record TablePart : Type 0 where
  pub id : List ℕ
  pub columns : List ColumnPart

abbrev pub column_part : KeptColumn → ColumnPart
column_part e = record {
  id = e.id;
  ty = e.ty;
  is_formula = e.is_formula;
  tree = e.tree;
  values = e.values.items;
}

abbrev pub table_part : KeptTable → TablePart
table_part k = record { id = k.id; columns = map column_part k.columns.items }

-- a column of which nothing is known
abbrev pub blank_column : List ℕ → ColDef → ColumnPart
blank_column rows d = record {
  id = d.id;
  ty = d.info.ty;
  is_formula = d.info.is_formula;
  tree = cond d.info.is_formula (formula_of d.info.formula) None;
  values = cond d.info.is_formula (map (λ _. None) rows) [];
}

abbrev pub blank_of : List ℕ → List ℕ → List ColDef → TablePart
blank_of id rows ds = record { id = id; columns = map (blank_column rows) ds }

abbrev pub blank_table : Table → TablePart
blank_table t = blank_of t.id t.grid.rows t.grid.columns

-- the same without the values: how many there are
pub record ColumnShape : Type 0 where
  pub id : List ℕ
  pub ty : ColType
  pub is_formula : Bool
  pub tree : Option Tree
  pub size : ℕ

pub record TableShape : Type 0 where
  pub id : List ℕ
  pub columns : List ColumnShape

abbrev pub column_shape : ColumnPart → ColumnShape
column_shape e = record {
  id = e.id;
  ty = e.ty;
  is_formula = e.is_formula;
  tree = e.tree;
  size = length e.values;
}

abbrev pub table_shape : TablePart → TableShape
table_shape k = record { id = k.id; columns = map column_shape k.columns }

-- kept of this document: its tables and columns, a formula column with a place for each row
abbrev pub IsKeptOf : Document → List KeptTable → Type 0
IsKeptOf s ks =
    map (λ k. table_shape (table_part k)) ks ≡ map (λ t. table_shape (blank_table t)) s

-- kept of this document, and what is known is right
pub record IsSettled (s : Document) (ks : List KeptTable) : Type 0 where
  pub of_document : IsKeptOf s ks
  pub sound : IsSound (sheet_of s) (held_at s ks)

-- settled, and what was known before is known
pub record IsFurther (s : Document) (old new : List KeptTable) : Type 0 where
  pub settled : IsSettled s new
  pub stays : StaysKnown (held_at s old) (held_at s new)

-- kept of this document, with the value of each formula cell
pub record IsEvaluated (s : Document) (ks : List KeptTable) : Type 0 where
  pub of_document : IsKeptOf s ks
  pub values : (c : CellId) (f : List ℕ) → formula_at s c ≡ Some f
      → held_at s ks c ≡ Some (value_of s c.table c.column c.row)
