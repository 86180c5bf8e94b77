-- The new document.
use Rattle.std.specs.Prelude.{ℕ, false, List, [], ◌∷◌, codes}
use Rattle.cell_types.specs.declared.column_type.ColType.TheVariants as type
use Rattle.doc_model.specs.declared.column.ColDef.{ColDef}
use Rattle.doc_model.specs.Grid.{Grid}
use Rattle.doc_model.specs.Document.{Table, Document}
use Rattle.doc_model.specs.Schema.{with_schema, resources_columns, rules_columns}

-- columns without rows
abbrev pub no_rows : List ColDef → Grid ColDef
no_rows columns = record { columns = columns; rows = []; cells = [] }

-- a data column of type Any
abbrev pub plain_column : List ℕ → ℕ → ColDef
plain_column id row =
    record { id = id; info = record { ty = type.Any; is_formula = false; formula = [] }; row = row }

abbrev pub first_columns : List ColDef
first_columns =
    plain_column (codes "A") 1 ∷ plain_column (codes "B") 2 ∷ plain_column (codes "C") 3 ∷ []

abbrev pub first_table : Table
first_table = record { id = codes "Table1"; row = 1; grid = no_rows first_columns }

-- Table1 with columns A, B, C, and no rows anywhere but those that describe it
abbrev pub new_document : Document
new_document = with_schema (no_rows resources_columns) (no_rows rules_columns) (first_table ∷ [])
