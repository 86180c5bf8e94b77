use Rattle.std.proofs.Common.{◌≡◌, List, drop}
use Rattle.std.specs.Str.{bytes_eq}
use Rattle.cell_types.specs.declared.value.CellValue.{CellValue}
use Rattle.doc_model.specs.Column.{column_id}
use Rattle.row_tables.specs.Kept.{found_beside}
use Rattle.row_tables.proofs.look.column_place.Given as goal

-- the rest tells what the whole tells
abbrev pub invariant-loop-index : goal.invariant-loop-index
invariant-loop-index l =
    (cells : List CellValue)
    → found_beside (λ d. bytes_eq (column_id d) l.id) (drop l.index l.columns) (drop l.index cells) ≡ found_beside (λ d. bytes_eq (column_id d) l.id) l.columns cells
