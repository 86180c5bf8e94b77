use Rattle.recalc.specs.Evaluated.{sheet_of}
use Rattle.recalc.specs.Kept.{held_at}
use Rattle.recalc.proofs.SheetLemmas.{is_sheet}
use Rattle.known_reads.proofs.RecordedLemmas.{open_told}
use Rattle.known_reads.proofs.settling.is_open.Goals as goal

pub returns-in-Need-clause-opened : goal.returns-in-Need-clause-opened
returns-in-Need-clause-opened g c =
    let s = g.D.DocReader.document c.args.tables.now in
    λ h. open_told (sheet_of s) (is_sheet s) (held_at s c.args.kept.now) c.args.cell.now c.in-Need.ensures
