use Rattle.std.proofs.Common.{◌≡◌, ◌≤◌, take, map, length}
use Rattle.doc_model.specs.Counts.{greatest}
use Rattle.doc_model.specs.Document.{Table}
use Rattle.action_limits.proofs.limits.greatest_maxima.Given as goal

abbrev pub invariant-loop-index : goal.invariant-loop-index
invariant-loop-index g l =
    let seen = take l.index (g.D.DocReader.document l.tables) in
    record {
      columns : l.most.columns ≡ greatest (map (λ (t : Table). length t.grid.columns) seen);
      rows : l.most.rows ≡ greatest (map (λ (t : Table). length t.grid.rows) seen);
      row_id : l.most.row_id ≡ greatest (map (λ (t : Table). greatest t.grid.rows) seen);
      small : l.most.row_id ≤ 4294967295;
    }
