use Rattle.std.proofs.Common.{sym}
use Rattle.recalc.proofs.NarrowedRows.{alone_at}
use Rattle.recalc.proofs.candidates.row_alone.Goals as goal

pub returns-in-Some : goal.returns-in-Some
returns-in-Some c = alone_at c.args.rows.now c.in-Some.index c.in-Ok.row c.args.bucket c.in-Some.ensures (sym c.in-Ok.ensures.1)
