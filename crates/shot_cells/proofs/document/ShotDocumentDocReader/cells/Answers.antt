use Rattle.std.proofs.Common.{◌≡◌, ◌∙◌, IfOk, map, subst, sym}
use Rattle.std.specs.Option.{option_copied}
use Rattle.shot_cells.specs.Places.{seen_at}
use Rattle.shot_cells.proofs.ValueLemmas.{other_cells}
use Rattle.shot_cells.proofs.document.ShotDocumentDocReader.cells.Goals as goal

pub returns-else-is_formula : goal.returns-else-is_formula
returns-else-is_formula g c =
    subst (λ told. IfOk c.cells.result (λ x. map option_copied x.items ≡ told))
    (other_cells (seen_at c.args.self.now.cells.tables) (g.D.DocReader.document c.args.self.now.tables) c.args.table.now c.args.column.now (sym c.is_formula.ensures ∙ c.if-is_formula.false) c.args.rows.now)
    c.cells.ensures
