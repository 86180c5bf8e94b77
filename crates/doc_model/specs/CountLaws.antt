-- What an action removes from the counted sums of a document, and what it adds to them.
use Rattle.std.specs.Prelude.{ℕ, ◌+◌, ◌*◌, true, List, map, length, ◌≡◌, Some, None}
use Rattle.doc_model.specs.declared.action.DocAction.{DocAction}
use Rattle.doc_model.specs.declared.action.DocAction.TheVariants.{BulkAdd, BulkUpdate, BulkRemove, AddTable, RemoveTable, AddColumn, RemoveColumn, ModifyColumn}
use Rattle.doc_model.specs.declared.column.CellColumn.{CellColumn}
use Rattle.doc_model.specs.declared.column.ColDef.{ColDef}
use Rattle.doc_model.specs.ByIds.{find_id}
use Rattle.doc_model.specs.Grid.{Grid, cell}
use Rattle.doc_model.specs.Column.{column_id}
use Rattle.doc_model.specs.Document.{Document, table_id}
use Rattle.doc_model.specs.Valid.{valid}
use Rattle.doc_model.specs.Apply.{apply}
use Rattle.doc_model.specs.Counts.{total, value_weight, row_weight, formula_bytes, grid_weight, grid_cells, counts}
use Rattle.doc_model.specs.DocumentLaws.{IsWhole}

-- tables, cells and weight
pub record Sums : Type 0 where
  pub tables : ℕ
  pub cells : ℕ
  pub weight : ℕ

abbrev pub nothing : Sums
nothing = record { tables = 0; cells = 0; weight = 0 }

-- what a table makes, nothing where it is not there
abbrev pub sums_of : Document → List ℕ → (Grid ColDef → Sums) → Sums
sums_of s table f = elim (find_id table_id table s) [ None ↦ nothing | Some t ↦ f t.grid ]

-- the weight of a column's cells in these rows
abbrev pub column_weight : Grid ColDef → List ℕ → List ℕ → ℕ
column_weight g rows c = total (map (λ r. value_weight (cell column_id g c r)) rows)

-- the weight of all cells in these rows
abbrev pub rows_weight : Grid ColDef → List ℕ → ℕ
rows_weight g rows =
    total (map (λ r.
    total (map (λ (d : ColDef). value_weight (cell column_id g d.id r)) g.columns)) rows)

-- the weight of given values
abbrev pub given_weight : List CellColumn → ℕ
given_weight ks = total (map (λ (k : CellColumn). row_weight k.values) ks)

-- the bytes of a column's formula
abbrev pub bytes_of_formula : Grid ColDef → List ℕ → ℕ
bytes_of_formula g c = elim (find_id column_id c g.columns) [ None ↦ 0 | Some d ↦ formula_bytes d ]

-- what an action removes
abbrev pub sums_removed : Document → DocAction → Sums
sums_removed s (BulkUpdate table rows ks) = sums_of s table (λ g. record {
  tables = 0;
  cells = 0;
  weight = total (map (λ (k : CellColumn). column_weight g rows k.id) ks);
})
sums_removed s (BulkRemove table rows) = sums_of s table (λ g. record {
  tables = 0;
  cells = length rows * length g.columns;
  weight = rows_weight g rows;
})
sums_removed s (RemoveTable table) = sums_of s table (λ g. record {
  tables = 1;
  cells = grid_cells g;
  weight = grid_weight g;
})
sums_removed s (RemoveColumn table column) = sums_of s table (λ g. record {
  tables = 0;
  cells = length g.rows;
  weight = column_weight g g.rows column + bytes_of_formula g column;
})
sums_removed s (ModifyColumn table column info) = sums_of s table (λ g. record {
  tables = 0;
  cells = 0;
  weight = bytes_of_formula g column;
})
sums_removed s _ = nothing

-- what an action adds
abbrev pub sums_added : Document → DocAction → Sums
sums_added s (BulkAdd table rows ks) = sums_of s table (λ g. record {
  tables = 0;
  cells = length rows * length g.columns;
  weight = given_weight ks;
})
sums_added s (BulkUpdate table rows ks) = record { tables = 0; cells = 0; weight = given_weight ks }
sums_added s (AddTable table row columns) =
    record { tables = 1; cells = 0; weight = total (map formula_bytes columns) }
sums_added s (AddColumn table d) = sums_of s table (λ g. record {
  tables = 0;
  cells = length g.rows;
  weight = formula_bytes d;
})
sums_added s (ModifyColumn table column info) =
    record { tables = 0; cells = 0; weight = length info.formula }
sums_added s _ = nothing

-- the sums after an action and what it removed are the sums before and what it added
pub record SumsMove (s after : Document) (a : DocAction) : Type 0 where
  pub tables : (counts after).tables + (sums_removed s a).tables
      ≡ (counts s).tables + (sums_added s a).tables
  pub cells : (counts after).cells + (sums_removed s a).cells
      ≡ (counts s).cells + (sums_added s a).cells
  pub weight : (counts after).weight + (sums_removed s a).weight
      ≡ (counts s).weight + (sums_added s a).weight

abbrev pub CountsLaw : Type 0
CountsLaw = (s : Document) (a : DocAction) → IsWhole s → valid s a ≡ true → SumsMove s (apply s a) a
