-- Values copied from what was kept of another document.
use Rattle.std.specs.Prelude.{ℕ, cond, nat_eq, List, map, length, Option, Some, None}
use Rattle.cell_types.specs.declared.value.CellValue.{CellValue}
use Rattle.recalc.specs.declared.kept.KeptColumn.{KeptColumn}
use Rattle.recalc.specs.declared.kept.KeptTable.{KeptTable}
use Rattle.recalc.specs.Kept.{ColumnPart, TablePart, column_at}

-- the values of the column, where it has as many places as these
abbrev pub copied_values : List (Option CellValue) → Option KeptColumn → List (Option CellValue)
copied_values vs None = vs
copied_values vs (Some e) = cond (nat_eq (length e.values.items) (length vs)) e.values.items vs

-- the column with the values that were kept of the column of its ids
abbrev pub copied_column : List KeptTable → List ℕ → ColumnPart → ColumnPart
copied_column old t e = record {
  id = e.id;
  ty = e.ty;
  is_formula = e.is_formula;
  tree = e.tree;
  values = copied_values e.values (column_at old t e.id);
}

abbrev pub copied_table : List KeptTable → TablePart → TablePart
copied_table old k = record { id = k.id; columns = map (copied_column old k.id) k.columns }
