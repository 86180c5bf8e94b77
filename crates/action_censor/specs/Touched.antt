-- The tables and rows that steps of records are about, as the code lists them.
use Rattle.std.specs.Prelude.{ℕ, Bool, true, false, cond, ◌&&◌, List, [], ◌∷◌, ◌++◌, map, Option, Some, None}
use Rattle.std.specs.List.{list_any}
use Rattle.std.specs.Str.{bytes_eq}
use Rattle.cell_types.specs.declared.cell.CellOld.{CellOld}
use Rattle.doc_model.specs.declared.action.DocAction.{DocAction}
use Rattle.doc_model.specs.declared.action.DocAction.TheVariants.{BulkAdd, BulkUpdate, BulkRemove}
use Rattle.doc_model.specs.Records.{or_else}
use Rattle.doc_model.specs.Rows.{has}
use Rattle.doc_model.specs.Touched.{names_table}
use Rattle.action_censor.specs.Step.{Step}

-- a name at the end, where it is new
abbrev pub with_name : List (List ℕ) → List ℕ → List (List ℕ)
with_name names n = cond (list_any (λ m. bytes_eq m n) names) names (names ++ n ∷ [])

-- those that are new, each once
abbrev pub with_names : List (List ℕ) → List (List ℕ) → List (List ℕ)
with_names names [] = names
with_names names (n ∷ ns) = with_names (with_name names n) ns

-- the table of a record action
abbrev pub table_named : DocAction → List (List ℕ)
table_named (BulkAdd table rows ks) = table ∷ []
table_named (BulkUpdate table rows ks) = table ∷ []
table_named (BulkRemove table rows) = table ∷ []
table_named _ = []

-- the tables that a step is about, and those that steps are about, as often as they are named
abbrev pub tables_in : Step → List (List ℕ)
tables_in k = table_named k.action ++ map (λ (o : CellOld). o.cell.table) k.cells

abbrev pub tables_told : List Step → List (List ℕ)
tables_told [] = []
tables_told (k ∷ ks) = tables_in k ++ tables_told ks

-- the rows that a record action names
abbrev pub rows_named : DocAction → List ℕ
rows_named (BulkAdd table rows ks) = rows
rows_named (BulkUpdate table rows ks) = rows
rows_named (BulkRemove table rows) = rows
rows_named _ = []

-- the rows of cells of a table
abbrev pub cell_rows : List CellOld → List ℕ → List ℕ
cell_rows [] t = []
cell_rows (o ∷ cells) t = cond (bytes_eq o.cell.table t) (o.cell.row ∷ []) [] ++ cell_rows cells t

-- the rows of a table that a step is about, and those that steps are about
abbrev pub rows_in : Step → List ℕ → List ℕ
rows_in k t = cond (names_table k.action t) (rows_named k.action) [] ++ cell_rows k.cells t

abbrev pub rows_told : List Step → List ℕ → List ℕ
rows_told [] t = []
rows_told (k ∷ ks) t = rows_in k t ++ rows_told ks t

-- whether a row was there before an action, where it adds or removes it
abbrev pub told_there : DocAction → List ℕ → ℕ → Option Bool
told_there (BulkAdd table rows ks) t r = cond (bytes_eq table t && has rows r) (Some false) None
told_there (BulkRemove table rows) t r = cond (bytes_eq table t && has rows r) (Some true) None
told_there _ t r = None

-- what the first step that adds or removes it tells
abbrev pub first_there : List Step → List ℕ → ℕ → Option Bool
first_there [] t r = None
first_there (k ∷ ks) t r = or_else (told_there k.action t r) (first_there ks t r)
