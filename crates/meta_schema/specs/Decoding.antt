-- What the two schema tables of a document say.
use Rattle.std.specs.Prelude.{ℕ, pos, Bool, false, cond, ◌&&◌, nat_eq, nat_lt, nat_le, List, [], ◌∷◌, length, codes, Option, Some, None, option_map, option_and_then, filter_map}
use Rattle.std.specs.Ordering.{int_eq}
use Rattle.std.specs.Str.{bytes_eq, chars}
use Rattle.cell_types.specs.declared.column_type.ColType.{ColType}
use Rattle.cell_types.specs.declared.column_type.ColType.TheVariants as type
use Rattle.cell_types.specs.declared.value.CellValue.{CellValue}
use Rattle.cell_types.specs.declared.value.CellValue.TheVariants as value
use Rattle.doc_model.specs.declared.column.ColDef.{ColDef}
use Rattle.doc_model.specs.MetadataIds.{tables_id, columns_id}
use Rattle.doc_model.specs.Grid.{cell}
use Rattle.doc_model.specs.Column.{column_id}
use Rattle.doc_model.specs.Document.{Document}
use Rattle.doc_readers.specs.Parts.{grid_at}
use Rattle.meta_schema.specs.declared.schema_table.SchemaTable.{SchemaTable}

-- the name of that text, where it has 1 to 64 characters
abbrev pub name_of : List ℕ → Option (List ℕ)
name_of text =
    cond (nat_lt 0 (length (chars text)) && nat_le (length (chars text)) 64) (Some text) None

-- what follows a word at the front of a text
abbrev pub after : List ℕ → List ℕ → Option (List ℕ)
after [] text = Some text
after (b ∷ word) [] = None
after (b ∷ word) (c ∷ text) = cond (nat_eq b c) (after word text) None

-- the type where the text is its word, or else the next one
abbrev pub named : List ℕ → List ℕ → ColType → Option ColType → Option ColType
named text word ty next = cond (bytes_eq text word) (Some ty) next

-- the type where a name follows its word, or else the next one where the word is not there
abbrev pub reference : List ℕ → List ℕ → (List ℕ → ColType) → Option ColType → Option ColType
reference text word make next =
    elim (after word text) [ None ↦ next | Some rest ↦ option_map make (name_of rest) ]

-- the type that a text says
abbrev pub type_of : List ℕ → Option ColType
type_of text =
    named text (codes "Any") type.Any (named text (codes "Text") type.Text
    (named text (codes "Int") type.Int (named text (codes "Bool") type.Bool
    (named text (codes "Date") type.Date (reference text (codes "Ref:") type.Ref
    (reference text (codes "RefList:") type.RefList None))))))

-- what a cell holds, where it is a text, a truth value, a name or a type
abbrev pub text_in : CellValue → Option (List ℕ)
text_in (value.Text t) = Some t
text_in _ = None

abbrev pub truth_in : CellValue → Option Bool
truth_in (value.Bool b) = Some b
truth_in _ = None

abbrev pub name_in : CellValue → Option (List ℕ)
name_in v = option_and_then name_of (text_in v)

abbrev pub type_in : CellValue → Option ColType
type_in v = option_and_then type_of (text_in v)

-- whether a cell holds that row
abbrev pub holds : CellValue → ℕ → Bool
holds (value.Int n) row = int_eq n (pos row)
holds _ row = false

-- the column of these parts, where all are there
abbrev pub column_of :
    Option (List ℕ) → Option ColType → Option Bool → Option (List ℕ) → ℕ → Option ColDef
column_of (Some id) (Some ty) (Some is_formula) (Some formula) row = Some (record {
  id = id;
  info = record { ty = ty; is_formula = is_formula; formula = formula };
  row = row;
})
column_of _ _ _ _ row = None

-- the cell of a table, Null where there is none
abbrev pub told : Document → List ℕ → List ℕ → ℕ → CellValue
told s table column row = cell column_id (grid_at s table) column row

-- the column that a row of the table of columns says
abbrev pub column_in : Document → ℕ → Option ColDef
column_in s row =
    column_of (name_in (told s columns_id (codes "colId") row))
    (type_in (told s columns_id (codes "type") row))
    (truth_in (told s columns_id (codes "isFormula") row))
    (text_in (told s columns_id (codes "formula") row)) row

-- the same where the column is one of that table's
abbrev pub column_under : Document → ℕ → ℕ → Option ColDef
column_under s parent row =
    cond (holds (told s columns_id (codes "parentId") row) parent) (column_in s row) None

-- the columns of the table of that row
abbrev pub columns_under : Document → ℕ → List ColDef
columns_under s parent = filter_map (column_under s parent) (grid_at s columns_id).rows

-- the table that a row of the table of tables says
abbrev pub table_in : Document → ℕ → Option SchemaTable
table_in s row =
    option_map (λ id. record { id = id; row = row; columns = columns_under s row })
    (name_in (told s tables_id (codes "tableId") row))

-- what the schema tables say: rows that say no table and no column are passed over
abbrev pub schema_of : Document → List SchemaTable
schema_of s = filter_map (table_in s) (grid_at s tables_id).rows
