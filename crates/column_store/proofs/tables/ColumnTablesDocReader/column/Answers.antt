use Rattle.std.proofs.Common.{sym, subst}
use Rattle.doc_model.specs.ByIds.{AreDistinct}
use Rattle.doc_model.specs.Document.{table_id}
use Rattle.column_store.proofs.tables.ColumnTablesDocReader.column.Goals as goal

pub find_table-requires : goal.find_table-requires
find_table-requires c = subst (AreDistinct table_id) (sym c.deref.ensures.value) c.self.invariant.sound.distinct
