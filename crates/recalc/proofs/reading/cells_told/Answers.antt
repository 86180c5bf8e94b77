use Rattle.std.proofs.Common.{◌≡◌, ◌∙◌, ℕ, IfOk, ap, sym, subst, map}
use Rattle.std.specs.Option.{option_copied}
use Rattle.doc_model.specs.Readers.{cell_at}
use Rattle.doc_readers.specs.Parts.{grid_at}
use Rattle.formula_eval.specs.Asked.{told_at, told_of}
use Rattle.formula_eval.specs.Reader.{Told}
use Rattle.recalc.specs.Evaluated.{sheet_of}
use Rattle.recalc.specs.Kept.{held_at}
use Rattle.recalc.specs.Seen.{told_beside, told_or_no_row}
use Rattle.recalc.specs.Sheet.{over}
use Rattle.recalc.proofs.ToldCells.{beside_told, column_told, mapped_told, told_alike}
use Rattle.recalc.proofs.reading.cells_told.Goals as goal

pub returns-in-Some : goal.returns-in-Some
returns-in-Some g c =
    let asked : ℕ → Told = told_at (over (sheet_of (g.D.DocReader.document c.args.tables.now)) (held_at (g.D.DocReader.document c.args.tables.now) c.args.kept.now)) c.args.table.now c.args.column.now in
    subst (λ told. IfOk c.kept_readings.result (λ x. map told_of x.items ≡ told))
    (ap (λ rows. map (told_beside rows c.in-Some.held.now.values.items) c.args.rows.now) c.rows_in.ensures.value
    ∙ told_alike (told_beside (grid_at (g.D.DocReader.document c.args.tables.now) c.args.table.now).rows c.in-Some.held.now.values.items) asked c.args.rows.now
    (beside_told (g.D.DocReader.document c.args.tables.now) c.args.kept.now c.requires.of_document c.args.table.now c.args.column.now c.in-Some.held.now c.in-Some.ensures (sym c.if-held.true)))
    c.kept_readings.ensures

pub returns-in_ok-cells-in-Some-2 : goal.returns-in_ok-cells-in-Some-2
returns-in_ok-cells-in-Some-2 g c =
    let asked : ℕ → Told = told_at (over (sheet_of (g.D.DocReader.document c.args.tables.now)) (held_at (g.D.DocReader.document c.args.tables.now) c.args.kept.now)) c.args.table.now c.args.column.now in
    subst (λ told. IfOk c.base_readings.result (λ x. map told_of x.items ≡ told))
    (ap (map (λ cell. told_or_no_row (option_copied cell))) c.deref.ensures.value
    ∙ mapped_told c.in_ok-cells-in-Some-2.cells.items (cell_at (g.D.DocReader.document c.args.tables.now) c.args.table.now c.args.column.now) asked c.args.rows.now c.in_ok-cells-in-Some-2.ensures
    (column_told (g.D.DocReader.document c.args.tables.now) c.args.kept.now c.requires.of_document c.args.table.now c.args.column.now c.in-Some.held.now c.in-Some.ensures (sym c.if-held.false)))
    c.base_readings.ensures
