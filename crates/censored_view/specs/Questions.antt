-- What is asked of a view.
use Rattle.std.specs.Prelude.{ℕ, Bool, false, ◌&&◌, List, [], ◌∷◌, Some, None}
use Rattle.std.specs.List.{list_any}
use Rattle.doc_model.specs.declared.column.ColDef.{ColDef}
use Rattle.doc_model.specs.declared.view.ViewTable.{ViewTable}
use Rattle.doc_model.specs.ByIds.{find_id, has_id}
use Rattle.doc_model.specs.Changes.{shown_table_id}
use Rattle.doc_model.specs.Rows.{has}
use Rattle.doc_model.specs.ViewEdits.{shown_id}
use Rattle.acl_formula.specs.RuleRow.{RuleRow}
use Rattle.censored_view.specs.Readable.{Readable}

-- whether a table of the view has the column
abbrev pub is_column_in : List ViewTable → List ℕ → List ℕ → Bool
is_column_in v table column =
    elim (find_id shown_table_id table v) [
      | None ↦ false
      | Some t ↦ has_id shown_id t.columns column
    ]

-- whether a table of the view has the row
abbrev pub is_row_in : List ViewTable → List ℕ → ℕ → Bool
is_row_in v table row =
    elim (find_id shown_table_id table v) [ None ↦ false | Some t ↦ has t.rows row ]

-- whether a table of these columns is shown, and in it the row
abbrev pub is_read : Readable → List ColDef → RuleRow → Bool
is_read x [] row = x.bare && x.cell None row
is_read x (d ∷ ds) row =
    list_any (λ (e : ColDef). x.column e.id && x.cell (Some e.id) row) (d ∷ ds)
