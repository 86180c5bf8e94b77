use Rattle.recalc.proofs.LosingCells.{plain_column}
use Rattle.recalc.proofs.watched.is_computed_in.Goals as goal

pub returns-else-not-is_plain : goal.returns-else-not-is_plain
returns-else-not-is_plain g c =
    plain_column (g.R.DocReader.document c.args.doc.now) c.args.table.now c.args.column.now c.args.is_plain c.requires c.if-not-is_plain.false
