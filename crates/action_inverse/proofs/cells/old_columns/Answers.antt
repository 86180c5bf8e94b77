use Rattle.std.proofs.Common.{rules}
use Rattle.doc_model.specs.declared.column.CellColumn.{CellColumn}
use Rattle.doc_model.specs.Column.{column_id}
use Rattle.doc_model.specs.Records.{column_of}
use Rattle.doc_readers.specs.Parts.{grid_at}
use Rattle.action_inverse.proofs.OrderLemmas.{old_sorted}
use Rattle.action_inverse.proofs.cells.old_columns.Goals as goal

pub returns : goal.returns
returns g c =
    let grid = grid_at (g.D.DocReader.document c.args.tables.now) c.args.table.now in
    old_sorted grid c.args.rows.now c.args.columns.now c.in_ok-old.old.items c.from.result
    (c.in_ok-old.ensures (λ (k : CellColumn). column_of column_id grid c.args.rows.now k.id) (λ x y r. search rules)) (search rules)
