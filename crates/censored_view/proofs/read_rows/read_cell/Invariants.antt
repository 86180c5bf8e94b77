use Rattle.std.proofs.Common.{◌≡◌, drop}
use Rattle.censored_view.specs.ReadRows.{read_cell}
use Rattle.censored_view.specs.Rows.{row_told}
use Rattle.censored_view.proofs.read_rows.read_cell.Given as goal

-- the columns that are left decide
abbrev pub invariant-loop-known : goal.invariant-loop-known
invariant-loop-known g l =
    read_cell l.read.place ((row_told g.D.DocReader.document l.read.row).cell l.column) l.column (drop l.known-index l.read.columns.now)
    ≡ read_cell l.read.place ((row_told g.D.DocReader.document l.read.row).cell l.column) l.column l.read.columns.now
