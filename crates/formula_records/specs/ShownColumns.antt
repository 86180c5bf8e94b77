-- The columns that a view shows, as far as it matters here.
use Rattle.std.specs.Prelude.{ℕ, List, Option, Some, None, option_map}
use Rattle.doc_model.specs.declared.view.ViewCol.{ViewCol}
use Rattle.doc_model.specs.declared.view.ViewTable.{ViewTable}
use Rattle.doc_model.specs.ByIds.{find_id}
use Rattle.doc_model.specs.Changes.{shown_table_id}
use Rattle.doc_model.specs.ViewEdits.{shown_id}
use Rattle.formula_records.specs.Recs.{Column, Columns}

-- the column of a table
abbrev pub shown_column : List ViewTable → List ℕ → List ℕ → Option ViewCol
shown_column v t n =
    elim (find_id shown_table_id t v) [ None ↦ None | Some w ↦ find_id shown_id n w.columns ]

-- its type, and whether it has a formula
abbrev pub as_column : ViewCol → Column
as_column d = record { ty = d.ty; is_formula = d.is_formula }

abbrev pub columns_of : List ViewTable → Columns
columns_of v t n = option_map as_column (shown_column v t n)
