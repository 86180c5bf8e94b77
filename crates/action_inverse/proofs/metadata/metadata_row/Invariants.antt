use Rattle.std.proofs.Common.{◌≡◌, drop}
use Rattle.doc_model.specs.ByIds.{find_id}
use Rattle.doc_model.specs.Document.{table_id}
use Rattle.doc_model.specs.Schema.{plain_tables}
use Rattle.action_inverse.proofs.metadata.metadata_row.Given as goal

-- the table is not among those before the index
abbrev pub invariant-loop-index : goal.invariant-loop-index
invariant-loop-index g l =
    find_id table_id l.table (drop l.index (plain_tables (g.D.DocReader.document l.tables)))
    ≡ find_id table_id l.table (plain_tables (g.D.DocReader.document l.tables))
