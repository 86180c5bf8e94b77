use Rattle.std.proofs.Common.{◌≡◌, ◌+◌, length, drop, map, nat_eq}
use Rattle.doc_model.specs.Document.{table_id}
use Rattle.doc_model.specs.MetadataIds.{columns_id}
use Rattle.doc_readers.specs.Parts.{grid_at}
use Rattle.meta_schema.specs.Agreement.{tables_said, column_count, plain_ids}
use Rattle.meta_schema.proofs.agreement.tables_agree.Given as goal

-- the rest of the tables and of the rows decides
abbrev pub invariant-loop-index : goal.invariant-loop-index
invariant-loop-index g l = record {
  said : tables_said (g.D.DocReader.document l.tables) (drop l.index l.rows) (drop (l.index + 4) (map table_id (g.D.DocReader.document l.tables)))
      ≡ tables_said (g.D.DocReader.document l.tables) l.rows (plain_ids (g.D.DocReader.document l.tables));
  count : nat_eq l.left (column_count (g.D.DocReader.document l.tables) (drop (l.index + 4) (map table_id (g.D.DocReader.document l.tables))))
      ≡ nat_eq (length (grid_at (g.D.DocReader.document l.tables) columns_id).rows) (column_count (g.D.DocReader.document l.tables) (plain_ids (g.D.DocReader.document l.tables)));
}
