use Rattle.std.proofs.Common.{◌≡◌, ◌++◌, ◌-◌, drop, length, map}
use Rattle.doc_readers.specs.Parts.{grid_at}
use Rattle.user_attrs.specs.UserInfos.{cell_of, cells_of}
use Rattle.user_attrs.proofs.found_rows.cells_of.Given as goal

-- the cells of the columns that are left complete it
abbrev pub invariant-loop-column : goal.invariant-loop-column
invariant-loop-column g l =
    l.cells ++ map (cell_of (g.C.DocReader.document l.doc) l.table l.row) (drop l.index (grid_at (g.C.DocReader.document l.doc) l.table).columns)
    ≡ cells_of (g.C.DocReader.document l.doc) l.table l.row

abbrev pub decreases-loop-column : goal.decreases-loop-column
decreases-loop-column g l = length (grid_at (g.C.DocReader.document l.doc) l.table).columns - l.index
