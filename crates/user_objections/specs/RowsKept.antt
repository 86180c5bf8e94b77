-- What the code keeps of a row of the tables of access rules.
use Rattle.std.specs.Prelude.{ℕ, List, Option, Some, None}
use Rattle.std.specs.Borrow.{Bor}
use Rattle.std.specs.Str.{bytes_eq}
use Rattle.cell_types.specs.declared.value.CellValue.{CellValue}
use Rattle.cell_types.specs.declared.value.CellValue.TheVariants.{Null}
use Rattle.cell_types.specs.Conversion.{default_value}
use Rattle.doc_model.specs.declared.view.ViewTable.{ViewTable}
use Rattle.doc_model.specs.Grid.{beside}
use Rattle.doc_model.specs.ViewEdits.{shown_id}
use Rattle.user_objections.specs.declared.rule_rows.RowAfter.{RowAfter}
use Rattle.user_objections.specs.RuleRows.{given_or, type_shown}

-- the cell that is there before, among the cells of its row; in a new row it is the default
abbrev pub before_kept : ViewTable → Option (Bor (List CellValue)) → List ℕ → CellValue
before_kept t None column = default_value (type_shown t column)
before_kept t (Some cells) column =
    beside (λ d. bytes_eq (shown_id d) column) t.columns cells.now Null

-- the cells of the row that results
abbrev pub after_kept : RowAfter → List ℕ → CellValue
after_kept a = given_or a.table.now a.given.now a.index (before_kept a.table.now a.before)
