use Rattle.std.proofs.Common.{◌≡◌, take}
use Rattle.doc_model.specs.CountLaws.{column_weight}
use Rattle.doc_model.specs.declared.column.ColDef.{ColDef}
use Rattle.doc_model.proofs.TotalsLaws.{sum_of}
use Rattle.doc_readers.specs.Parts.{grid_at}
use Rattle.action_limits.specs.Capped.{capped}
use Rattle.action_limits.proofs.weighing.rows_weight.Given as goal

abbrev pub invariant-loop-index : goal.invariant-loop-index
invariant-loop-index g l =
    let t = grid_at (g.D.DocReader.document l.tables) l.table in
    l.weight ≡ capped (sum_of (λ (d : ColDef). column_weight t l.rows d.id) (take l.index t.columns))
