use Rattle.std.proofs.Common.{◌∙◌, sym}
use Rattle.recalc.proofs.LosingCells.{plain_in}
use Rattle.recalc.proofs.watched.may_lose_in.Goals as goal

pub returns-else-not-is_plain : goal.returns-else-not-is_plain
returns-else-not-is_plain g c =
    plain_in (g.R.DocReader.document c.args.doc.now) c.args.action.now c.args.table.now c.args.is_plain c.requires c.if-not-is_plain.false
    (sym c.may_lose_data.ensures ∙ c.if-may_lose_data.false)
