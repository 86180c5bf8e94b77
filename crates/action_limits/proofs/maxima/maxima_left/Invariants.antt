use Rattle.std.proofs.Common.{◌≡◌, take, map}
use Rattle.doc_model.specs.Counts.{greatest}
use Rattle.action_limits.specs.Left.{columns_left, rows_left}
use Rattle.action_limits.proofs.maxima.maxima_left.Given as goal

abbrev pub invariant-loop-index : goal.invariant-loop-index
invariant-loop-index g l =
    let s = g.D.DocReader.document l.tables in
    record {
      columns : l.most.columns ≡ greatest (map (columns_left l.action) (take l.index s));
      rows : l.most.rows ≡ greatest (map (rows_left s l.action) (take l.index s));
      row_id : l.most.row_id ≡ 0;
    }
