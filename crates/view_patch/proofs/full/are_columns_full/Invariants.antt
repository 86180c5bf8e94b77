use Rattle.std.proofs.Common.{◌≡◌, length, take}
use Rattle.std.specs.List.{AllByRecursion}
use Rattle.doc_model.specs.declared.column.CellColumn.{CellColumn}
use Rattle.view_patch.proofs.full.are_columns_full.Given as goal

abbrev pub invariant-loop-column : goal.invariant-loop-column
invariant-loop-column l = AllByRecursion (λ (k : CellColumn). length k.values ≡ l.count) (take l.column-index l.columns)
