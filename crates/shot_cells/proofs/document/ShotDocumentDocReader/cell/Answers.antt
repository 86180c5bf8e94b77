use Rattle.std.proofs.Common.{subst, sym, ◌∙◌, ◌≡◌, Some, None}
use Rattle.std.specs.Option.{MatchOption}
use Rattle.recalc.proofs.FilledCells.{copied_match}
use Rattle.shot_cells.specs.Places.{seen_at}
use Rattle.shot_cells.proofs.ValueLemmas.{other_cell}
use Rattle.shot_cells.proofs.document.ShotDocumentDocReader.cell.Goals as goal

pub returns-then-is_formula : goal.returns-then-is_formula
returns-then-is_formula g c = copied_match c.formula_value.result c.formula_value.ensures

pub returns-else-is_formula : goal.returns-else-is_formula
returns-else-is_formula g c =
    subst (λ o. MatchOption c.cell.result (o ≡ None) (λ value. o ≡ Some value.now))
    (other_cell (seen_at c.args.self.now.cells.tables) (g.D.DocReader.document c.args.self.now.tables) c.args.table.now c.args.column.now c.args.row (sym c.is_formula.ensures ∙ c.if-is_formula.false))
    c.cell.ensures
