-- Of a whole document the schema tables tell the plain tables.
use Rattle.std.specs.Prelude.{map, ◌≡◌}
use Rattle.doc_model.specs.Document.{Table, Document}
use Rattle.doc_model.specs.DocumentLaws.{IsWhole}
use Rattle.doc_model.specs.Schema.{plain_tables}
use Rattle.meta_schema.specs.declared.schema_table.SchemaTable.{SchemaTable}
use Rattle.meta_schema.specs.Decoding.{schema_of}

-- a table as the schema tables tell it
abbrev pub told_table : Table → SchemaTable
told_table t = record { id = t.id; row = t.row; columns = t.grid.columns }

-- they tell the plain tables in order, each with its id, its row and its columns, and nothing else
abbrev pub SchemaOfLaw : Type 0
SchemaOfLaw = (s : Document) → IsWhole s → schema_of s ≡ map told_table (plain_tables s)
