-- What the schema tables are told, and what they are made of.
use Rattle.std.specs.Prelude.{ℕ, ◌≡◌, Bool, true, false, List, [], ◌∷◌, map}
use Rattle.cell_types.specs.declared.value.CellValue.{CellValue}
use Rattle.cell_types.specs.declared.value.CellValue.TheVariants.{Text}
use Rattle.doc_model.specs.declared.action.DocAction.{DocAction}
use Rattle.doc_model.specs.declared.action.DocAction.TheVariants.{AddTable}
use Rattle.doc_model.specs.Document.{Document, Table, on_grid, table_row}
use Rattle.doc_model.specs.MetadataIds.{columns_id, tables_id}
use Rattle.doc_model.specs.Rows.{IsAscending, has_no_duplicates}
use Rattle.doc_model.specs.Schema.{all_columns, columns_columns, columns_grid, describe, described_row, metadata_table, plain_tables, tables_columns, tables_grid}
use Rattle.row_tables.specs.Spots.{columns_of}
use Rattle.column_store.specs.Changes.{change_back, change_fits, told_fits, told_grid}
use Rattle.column_store.specs.declared.change.Told.{Told}
use Rattle.column_store.specs.declared.change.Told.TheVariants as told
use Rattle.column_store.specs.declared.schema.SchemaChange.{SchemaChange}
use Rattle.column_store.specs.declared.schema.SchemaTold.{SchemaTold}

-- these rows come, with these cells
abbrev pub IsCome : List ℕ → List (List CellValue) → Told → Type 0
IsCome rows lists (told.Come new cells) = (new.items ≡ rows) × (cells.items ≡ lists)
IsCome rows lists _ = ⊥

-- a document whose first tables may describe those behind the metadata tables
abbrev pub IsDescribable : Document → Type 0
IsDescribable (a ∷ b ∷ c ∷ d ∷ plain) =
    (a.id ≡ tables_id) × (a.row ≡ 0) × (a.grid.columns ≡ tables_columns)
    × (b.id ≡ columns_id) × (b.row ≡ 0) × (b.grid.columns ≡ columns_columns)
    × IsAscending (map table_row plain)
    × (has_no_duplicates (map described_row (all_columns plain)) ≡ true)
IsDescribable _ = ⊥

-- the tables that do so
abbrev pub described_tables : Document → Table
described_tables s = metadata_table tables_id (tables_grid (plain_tables s))

abbrev pub described_columns : Document → Table
described_columns s = metadata_table columns_id (columns_grid (plain_tables s))

-- ---- what they are told in their places

-- whether the action adds a table
abbrev pub adds_table : DocAction → Bool
adds_table (AddTable table row columns) = true
adds_table _ = false

-- a table that comes and its columns, each with the cells that describe it
abbrev pub TellsOf : SchemaTold → DocAction → Type 0
TellsOf t (AddTable table row columns) =
    IsCome (row ∷ []) ((Text table ∷ []) ∷ []) t.tables
    × IsCome (map described_row (columns_of row columns))
    (map describe (columns_of row columns)) t.columns
TellsOf t _ = ⊥

-- the document with its schema tables told, and where that may be done
abbrev pub schema_told : SchemaTold → Document → Document
schema_told t (a ∷ b ∷ s) =
    on_grid (told_grid t.tables) a ∷ on_grid (told_grid t.columns) b ∷ s
schema_told t s = s

abbrev pub schema_fits : SchemaTold → Document → Type 0
schema_fits t (a ∷ b ∷ s) = told_fits t.tables a.grid × told_fits t.columns b.grid
schema_fits t _ = ⊥

-- and as they were
abbrev pub schema_back : SchemaChange → Document → Document
schema_back c (a ∷ b ∷ s) = change_back c.tables a ∷ change_back c.columns b ∷ s
schema_back c s = s

abbrev pub schema_back_fits : SchemaChange → Document → Type 0
schema_back_fits c (a ∷ b ∷ s) = change_fits c.tables a × change_fits c.columns b
schema_back_fits c _ = ⊥
