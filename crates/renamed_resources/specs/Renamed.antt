-- What the cells of resources are once a table or a column has a new id.
use Rattle.std.specs.Prelude.{ℕ, Bool, false, cond, List, map, Option, Some, None, bytes_eq}
use Rattle.std.specs.List.{list_any}
use Rattle.cell_types.specs.declared.value.CellValue.{CellValue}
use Rattle.cell_types.specs.declared.value.CellValue.TheVariants as value
use Rattle.doc_model.specs.Column.{is_short}
use Rattle.renamed_resources.specs.NameLists.{joined, names_of}

-- the new id in the place of the old one
abbrev pub moved_id : List ℕ → List ℕ → List ℕ → List ℕ
moved_id old new id = cond (bytes_eq id old) new id

-- the text where a cell may hold it, or else the other one
abbrev pub if_short : List ℕ → List ℕ → List ℕ
if_short text other = cond (is_short text) text other

-- a text that lists these names, with the new id in the place of the old one
abbrev pub names_renamed : List ℕ → List ℕ → List ℕ → List (List ℕ) → List ℕ
names_renamed old new text names =
    cond (list_any (λ n. bytes_eq n old) names)
    (if_short (joined (map (moved_id old new) names)) text) text

-- the same of a text that may list names; what lists none stays, as `*`
abbrev pub list_renamed : List ℕ → List ℕ → List ℕ → Option (List (List ℕ)) → List ℕ
list_renamed old new text None = text
list_renamed old new text (Some names) = names_renamed old new text names

-- the cell of the columns
abbrev pub columns_renamed : List ℕ → List ℕ → CellValue → CellValue
columns_renamed old new (value.Text t) = value.Text (list_renamed old new t (names_of t))
columns_renamed old new v = v

-- the cell of the table
abbrev pub table_renamed : List ℕ → List ℕ → CellValue → CellValue
table_renamed old new (value.Text t) = value.Text (moved_id old new t)
table_renamed old new v = v

-- whether a cell of the table names this one; what is no text names none, and the empty text, which
-- Null stands for, is no id
abbrev pub names_table : List ℕ → CellValue → Bool
names_table table (value.Text t) = bytes_eq t table
names_table table v = false
