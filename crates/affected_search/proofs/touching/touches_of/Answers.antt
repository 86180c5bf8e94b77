use Rattle.affected_search.proofs.TouchTests.{all_told}
use Rattle.affected_search.proofs.touching.touches_of.Goals as goal

pub returns : goal.returns
returns g c whole =
    all_told c.args.graph.now.names (g.R.DocReader.document c.args.tables.now) c.args.action.now
    c.new-touches.result.items c.push_record_touches.new.touches.items c.push_table_touches.new.touches.items c.push_column_touches.new.touches.items c.new-touches.ensures.items
    c.in_ok-push_record_touches.ensures (c.in_ok-push_table_touches.ensures whole) c.in_ok-push_column_touches.ensures
