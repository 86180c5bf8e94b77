use Rattle.std.proofs.Common.{get_or}
use Rattle.std.proofs.lemmas.List.{get_or_default}
use Rattle.affected_search.proofs.FoundLaws.{no_column, column_step}
use Rattle.affected_search.proofs.search.add_readers.Goals as goal

pub loop-column-preserved : goal.loop-column-preserved
loop-column-preserved c =
    let i = c.loop-column.column-index in
    let columns = c.columns_of-columns.result.now in
    let k = get_or columns i no_column in
    column_step c.args.graph.now.reads c.args.read c.args.found.now c.loop-column.found c.add_rows.new.found columns i k c.rows_of.result.now c.loop-column-test.true
    (get_or_default columns i no_column k c.loop-column-test.true) c.rows_of.ensures.rows c.loop-column.invariant c.in_ok-add_rows.ensures
