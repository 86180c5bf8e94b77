use Rattle.std.proofs.Common.{◌∙◌, Some, ap}
use Rattle.shot_cells.specs.Places.{seen_at}
use Rattle.shot_cells.proofs.ValueLemmas.{formula_none, formula_some}
use Rattle.shot_cells.proofs.document.ShotDocument.formula_value.Goals as goal

pub returns-in-Some : goal.returns-in-Some
returns-in-Some g c =
    ap (λ x. Some x) c.value.ensures
    ∙ formula_some (seen_at c.args.self.now.cells.tables) (g.D.DocReader.document c.args.self.now.tables) c.args.table.now c.args.column.now c.args.row c.in-Some.field-0.now c.in-Some.ensures c.requires

pub returns-in-None : goal.returns-in-None
returns-in-None g c = formula_none (seen_at c.args.self.now.cells.tables) (g.D.DocReader.document c.args.self.now.tables) c.args.table.now c.args.column.now c.args.row c.in-None.ensures
