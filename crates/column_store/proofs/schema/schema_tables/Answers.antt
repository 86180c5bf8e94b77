use Rattle.column_store.proofs.ComeLaws.{columns_made, tables_made}
use Rattle.column_store.proofs.schema.schema_tables.Goals as goal

pub returns-clause-tables : goal.returns-clause-tables
returns-clause-tables c = tables_made c.args.tables.now c.index-tables-0.result c.in_ok-table_of_tables.field-0 c.requires c.index-tables-0.is c.in_ok-table_of_tables.ensures

pub returns-clause-columns : goal.returns-clause-columns
returns-clause-columns c = columns_made c.args.tables.now c.index-tables-1.result c.in_ok-table_of_columns.field-0 c.requires c.index-tables-1.is c.in_ok-table_of_columns.ensures
