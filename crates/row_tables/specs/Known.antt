-- The tables, columns and ids that every new document has.
use Rattle.std.specs.Prelude.{ℕ, false, List, [], codes}
use Rattle.cell_types.specs.declared.column_type.ColType.{ColType}
use Rattle.cell_types.specs.declared.column_type.ColType.TheVariants as type
use Rattle.cell_types.specs.declared.value.CellValue.{CellValue}
use Rattle.doc_model.specs.declared.column.ColDef.{ColDef}
use Rattle.doc_model.specs.declared.column.ColInfo.{ColInfo}
use Rattle.doc_model.specs.Document.{Table}
use Rattle.doc_model.specs.MetadataIds.{tables_id, columns_id, resources_id, rules_id}
use Rattle.doc_model.specs.NewDocument.{first_columns}
use Rattle.doc_model.specs.Schema.{tables_columns, columns_columns, resources_columns, rules_columns}
use Rattle.row_tables.specs.declared.known.Known.{Known}
use Rattle.row_tables.specs.declared.known.Known.TheVariants as known
use Rattle.row_tables.specs.declared.metadata.KnownColumn.{KnownColumn}
use Rattle.row_tables.specs.declared.metadata.KnownType.{KnownType}
use Rattle.row_tables.specs.declared.metadata.KnownType.TheVariants as kind

abbrev pub known_text : Known → List ℕ
known_text known.Tables = tables_id
known_text known.Columns = columns_id
known_text known.Resources = resources_id
known_text known.Rules = rules_id
known_text known.TableId = codes "tableId"
known_text known.ParentId = codes "parentId"
known_text known.ColId = codes "colId"
known_text known.Type = codes "type"
known_text known.IsFormula = codes "isFormula"
known_text known.Formula = codes "formula"
known_text known.ColIds = codes "colIds"
known_text known.Resource = codes "resource"
known_text known.AclFormula = codes "aclFormula"
known_text known.PermissionsText = codes "permissionsText"
known_text known.RulePos = codes "rulePos"
known_text known.UserAttributes = codes "userAttributes"
known_text known.Memo = codes "memo"
known_text known.Table1 = codes "Table1"
known_text known.A = codes "A"
known_text known.B = codes "B"
known_text known.C = codes "C"

abbrev pub known_type : KnownType → ColType
known_type kind.Any = type.Any
known_type kind.Text = type.Text
known_type kind.Int = type.Int
known_type kind.Bool = type.Bool
known_type (kind.Ref table) = type.Ref (known_text table)

-- what a data column of that type is
abbrev pub known_info : KnownType → ColInfo
known_info ty = record { ty = known_type ty; is_formula = false; formula = [] }

abbrev pub known_column : KnownColumn → ColDef
known_column k = record { id = known_text k.0; info = known_info k.1; row = k.2 }

-- the columns of a table
abbrev pub known_columns : Known → List ColDef
known_columns known.Tables = tables_columns
known_columns known.Columns = columns_columns
known_columns known.Resources = resources_columns
known_columns known.Rules = rules_columns
known_columns known.Table1 = first_columns
known_columns _ = []

-- the row that describes a table
abbrev pub known_row : Known → ℕ
known_row known.Table1 = 1
known_row _ = 0

-- a table with these rows and cells
abbrev pub known_table : Known → List ℕ → List (List CellValue) → Table
known_table known rows cells = record {
  id = known_text known;
  row = known_row known;
  grid = record { columns = known_columns known; rows = rows; cells = cells };
}

-- such a table without rows
abbrev pub empty_table : Known → Table
empty_table known = known_table known [] []
