use Rattle.std.proofs.Common.{◌∙◌, ap}
use Rattle.recalc.specs.Cells.{cell_of}
use Rattle.recalc.specs.Evaluated.{value_of}
use Rattle.recalc.specs.Kept.{held_at}
use Rattle.recalc.specs.Seen.{value_told}
use Rattle.recalc.proofs.FilledCells.{copied_match, filled_told}
use Rattle.evaluated_doc.proofs.doc.value_in.Goals as goal

pub returns : goal.returns
returns g c =
    let s = g.D.DocReader.document c.args.tables.now in
    copied_match c.value_told.result
    (c.value_told.ensures ∙ ap value_told c.cell_told.ensures
    ∙ filled_told (value_of s) s (held_at s c.args.kept.now) c.args.table.now c.args.column.now c.args.row
    (λ f h. c.requires.evaluated.values (cell_of c.args.table.now c.args.column.now c.args.row) f h))
