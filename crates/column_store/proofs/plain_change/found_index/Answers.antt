use Rattle.row_tables.proofs.SchemaLaws.{not_there}
use Rattle.column_store.proofs.plain_change.found_index.Goals as goal

pub unreachable-requires : goal.unreachable-requires
unreachable-requires c = not_there c.args.tables.now c.args.id.now c.in_default.ensures c.requires.there
