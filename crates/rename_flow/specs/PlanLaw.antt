-- What of a view the plan of a rename is told from.
use Rattle.std.specs.Prelude.{ℕ, true, List, map, ◌≡◌}
use Rattle.std.specs.List.{AllByRecursion}
use Rattle.cell_types.specs.declared.value.CellValue.{CellValue}
use Rattle.doc_model.specs.declared.view.ViewTable.{ViewTable}
use Rattle.doc_model.specs.MetadataIds.{is_acl_id}
use Rattle.rename_marks.specs.declared.column_rename.ColumnRename.{ColumnRename}
use Rattle.rename_flow.specs.Plan.{plan_of}

-- a table with other rows under its columns
abbrev pub with_rows : (ViewTable → List ℕ) → (ViewTable → List (List CellValue)) → ViewTable
    → ViewTable
with_rows rows cells w =
    record { id = w.id; columns = w.columns; rows = rows w; cells = cells w }

-- a plan is told from all columns, and of rows from those of the two tables of rules alone
abbrev pub PlanReadsLaw : Type 0
PlanReadsLaw =
    (rows : ViewTable → List ℕ) (cells : ViewTable → List (List CellValue)) (v : List ViewTable)
    (r : ColumnRename)
    → AllByRecursion (λ w. is_acl_id w.id ≡ true → with_rows rows cells w ≡ w) v
    → plan_of (map (with_rows rows cells) v) r ≡ plan_of v r
