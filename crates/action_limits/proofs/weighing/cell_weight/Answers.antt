use Rattle.std.proofs.Common.{ap}
use Rattle.doc_model.specs.Counts.{value_weight}
use Rattle.doc_readers.proofs.CellLemmas.{cell_absent}
use Rattle.action_limits.specs.Capped.{capped}
use Rattle.action_limits.proofs.weighing.cell_weight.Goals as goal

pub returns-in-None : goal.returns-in-None
returns-in-None g c =
    ap (λ v. capped (value_weight v)) (cell_absent (g.D.DocReader.document c.args.tables.now) c.args.table.now c.args.column.now c.args.row c.in-None.ensures)
