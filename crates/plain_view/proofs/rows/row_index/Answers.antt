use Rattle.std.proofs.Common.{Err}
use Rattle.std.proofs.lemmas.List.Sorted.{searched}
use Rattle.plain_view.proofs.RowIndexes.{rising, absent}
use Rattle.plain_view.proofs.rows.row_index.Goals as goal

pub returns-in-Err : goal.returns-in-Err
returns-in-Err c =
    let s = searched c.args.rows.now c.args.row (Err c.in-Err.field-0) c.in-Err.ensures.position (rising c.args.rows.now c.requires) in
    absent c.args.rows.now c.args.row c.in-Err.field-0 s.1 s.2
