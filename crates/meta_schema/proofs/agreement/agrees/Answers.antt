use Rattle.std.proofs.Common.{sym}
use Rattle.std.proofs.lemmas.Bool.{and_parts}
use Rattle.doc_model.specs.MetadataIds.{tables_id, columns_id}
use Rattle.meta_schema.proofs.AgreementWalks.{first_id}
use Rattle.meta_schema.proofs.agreement.agrees.Goals as goal

pub tables_agree-requires-clause-tables : goal.tables_agree-requires-clause-tables
tables_agree-requires-clause-tables g c =
    first_id (g.D.DocReader.document c.args.tables.now) 0 tables_id c.in-Some-Some.said.now (and_parts _ _ (and_parts _ _ (sym c.if-not-has_tables_table.ensures)).0).0 c.in-Some-Some.ensures.told

pub tables_agree-requires-clause-columns : goal.tables_agree-requires-clause-columns
tables_agree-requires-clause-columns g c =
    first_id (g.D.DocReader.document c.args.tables.now) 1 columns_id c.in-Some-Some.columns.now (and_parts _ _ (sym c.if-not-has_columns_table.ensures)).0 c.in-Some-Some.ensures'.told
