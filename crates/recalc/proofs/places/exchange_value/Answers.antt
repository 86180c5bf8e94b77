use Rattle.recalc.specs.Evaluated.{formula_at}
use Rattle.recalc.proofs.KeptLemmas.{tables_put}
use Rattle.recalc.proofs.Spots.{text_there, table_found, column_found, row_found, spot, spot_put, spot_was}
use Rattle.recalc.proofs.places.exchange_value.Goals as goal

pub unreachable-requires : goal.unreachable-requires
unreachable-requires g c =
    table_found (g.D.DocReader.document c.args.tables.now) c.args.kept.now.items c.requires.of_document c.args.cell.now (text_there (formula_at (g.D.DocReader.document c.args.tables.now) c.args.cell.now) c.requires.there).0 (text_there (formula_at (g.D.DocReader.document c.args.tables.now) c.args.cell.now) c.requires.there).1
    c.deref.result.now c.deref.ensures.value c.in_default.ensures

pub unreachable-requires-in_default-column_index : goal.unreachable-requires-in_default-column_index
unreachable-requires-in_default-column_index g c =
    column_found (g.D.DocReader.document c.args.tables.now) c.args.kept.now.items c.requires.of_document c.args.cell.now (text_there (formula_at (g.D.DocReader.document c.args.tables.now) c.args.cell.now) c.requires.there).0 (text_there (formula_at (g.D.DocReader.document c.args.tables.now) c.args.cell.now) c.requires.there).1
    c.in-Some.table c.deref.result.now c.deref.ensures.value c.in-Some.ensures c.index.result.now c.index.ensures c.deref-2.result.now c.deref-2.ensures.value c.in_default-column_index.ensures

pub unreachable-requires-in_default-row_index : goal.unreachable-requires-in_default-row_index
unreachable-requires-in_default-row_index g c =
    row_found (g.D.DocReader.document c.args.tables.now) c.args.kept.now.items c.requires.of_document c.args.cell.now (text_there (formula_at (g.D.DocReader.document c.args.tables.now) c.args.cell.now) c.requires.there).0 (text_there (formula_at (g.D.DocReader.document c.args.tables.now) c.args.cell.now) c.requires.there).1
    c.in-Some.table c.deref.result.now c.deref.ensures.value c.in-Some.ensures c.index.result.now c.index.ensures c.deref-2.result.now c.deref-2.ensures.value
    c.in-Some-column_index.column c.in-Some-column_index.ensures c.rows_in.result.now c.rows_in.ensures.value c.in_default-row_index.ensures

pub put_in_tables-requires : goal.put_in_tables-requires
put_in_tables-requires g c =
    spot (g.D.DocReader.document c.args.tables.now) c.args.kept.now.items c.requires.of_document c.args.cell.now (text_there (formula_at (g.D.DocReader.document c.args.tables.now) c.args.cell.now) c.requires.there).0 (text_there (formula_at (g.D.DocReader.document c.args.tables.now) c.args.cell.now) c.requires.there).1
    c.in-Some.table c.deref.result.now c.deref.ensures.value c.in-Some.ensures c.index.result.now c.index.ensures c.deref-2.result.now c.deref-2.ensures.value
    c.in-Some-column_index.column c.in-Some-column_index.ensures c.rows_in.result.now c.rows_in.ensures.value c.in-Some-row_index.row c.in-Some-row_index.ensures

pub returns-clause-of_document : goal.returns-clause-of_document
returns-clause-of_document g c =
    tables_put (g.D.DocReader.document c.args.tables.now) c.args.kept.now.items c.put_in_tables.new.tables.items c.in-Some.table c.in-Some-column_index.column c.in-Some-row_index.row c.args.value c.put_in_tables.result
    c.put_in_tables.ensures c.requires.of_document

pub returns-clause-put : goal.returns-clause-put
returns-clause-put g c =
    spot_put (g.D.DocReader.document c.args.tables.now) c.args.kept.now.items c.requires.of_document c.args.cell.now (text_there (formula_at (g.D.DocReader.document c.args.tables.now) c.args.cell.now) c.requires.there).0 (text_there (formula_at (g.D.DocReader.document c.args.tables.now) c.args.cell.now) c.requires.there).1
    c.in-Some.table c.deref.result.now c.deref.ensures.value c.in-Some.ensures c.index.result.now c.index.ensures c.deref-2.result.now c.deref-2.ensures.value
    c.in-Some-column_index.column c.in-Some-column_index.ensures c.rows_in.result.now c.rows_in.ensures.value c.in-Some-row_index.row c.in-Some-row_index.ensures
    c.put_in_tables.new.tables.items c.args.value c.put_in_tables.result c.put_in_tables.ensures c.rows_in.ensures.ascending

pub returns-clause-before : goal.returns-clause-before
returns-clause-before g c =
    spot_was (g.D.DocReader.document c.args.tables.now) c.args.kept.now.items c.requires.of_document c.args.cell.now (text_there (formula_at (g.D.DocReader.document c.args.tables.now) c.args.cell.now) c.requires.there).0 (text_there (formula_at (g.D.DocReader.document c.args.tables.now) c.args.cell.now) c.requires.there).1
    c.in-Some.table c.deref.result.now c.deref.ensures.value c.in-Some.ensures c.index.result.now c.index.ensures c.deref-2.result.now c.deref-2.ensures.value
    c.in-Some-column_index.column c.in-Some-column_index.ensures c.rows_in.result.now c.rows_in.ensures.value c.in-Some-row_index.row c.in-Some-row_index.ensures
    c.put_in_tables.new.tables.items c.args.value c.put_in_tables.result c.put_in_tables.ensures c.rows_in.ensures.ascending
