use Rattle.std.proofs.Common.{◌≡◌, nat_eq, [], drop}
use Rattle.doc_model.specs.Grid.{beside}
use Rattle.row_tables.proofs.look.cells_of_row.Given as goal

-- the rest tells what the whole tells
abbrev pub invariant-loop-index : goal.invariant-loop-index
invariant-loop-index l =
    beside (λ q. nat_eq q l.row) (drop l.index l.rows) (drop l.index l.cells) [] ≡ beside (λ q. nat_eq q l.row) l.rows l.cells []
