use Rattle.std.proofs.Common.{not}
use Rattle.std.specs.Str.{bytes_eq}
use Rattle.doc_model.specs.Column.{column_id}
use Rattle.row_tables.proofs.Walks.{filter_step}
use Rattle.row_tables.proofs.columns.columns_without.Goals as goal

pub loop-column-preserved : goal.loop-column-preserved
loop-column-preserved c =
    filter_step (λ d. not (bytes_eq (column_id d) c.args.id.now)) c.args.columns.now c.loop-column.column-index c.column-item.result c.loop-column.left.items c.add_other.new.left.items
    c.loop-column-test.true c.column-item.is c.loop-column.invariant c.in_ok-add_other.ensures
