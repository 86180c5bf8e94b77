-- What is checked of a document action: each row and column that it touches. A row is seen as the
-- document is with its formulas evaluated, before and after the action.
use Rattle.std.specs.Prelude.{ℕ, cond, List, [], ◌∷◌, ◌++◌, map, Option, Some, None}
use Rattle.doc_model.specs.declared.action.DocAction.{DocAction}
use Rattle.doc_model.specs.declared.action.DocAction.TheVariants.{BulkAdd, BulkUpdate, BulkRemove, AddTable, RemoveTable, RenameTable, AddColumn, RemoveColumn, RenameColumn, ModifyColumn}
use Rattle.doc_model.specs.declared.column.CellColumn.{CellColumn}
use Rattle.doc_model.specs.Document.{Document}
use Rattle.doc_model.specs.MetadataIds.{is_acl_id}
use Rattle.doc_model.specs.Readers.{cell_at}
use Rattle.acl_formula.specs.RuleRow.{RuleRow}
use Rattle.acl_formula.specs.declared.permissions.Perm.{Perm}
use Rattle.acl_formula.specs.declared.permissions.Perm.TheVariants as perm

-- a permission, asked of a column of a table, of a table, or of the document where no table is
-- named; and the row before and after, where there is one
pub record Check : Type 0 where
  pub perm : Perm
  pub table : Option (List ℕ)
  pub column : Option (List ℕ)
  pub before : Option RuleRow
  pub after : Option RuleRow

-- a row of a table as rules read it
abbrev pub row_at : Document → List ℕ → ℕ → RuleRow
row_at s table r = record { id = r; cell = λ c. cell_at s table c r }

-- a check of a row
abbrev pub row_check : Perm → List ℕ → Option (List ℕ) → RuleRow → RuleRow → Check
row_check p table column before after = record {
  perm = p;
  table = Some table;
  column = column;
  before = Some before;
  after = Some after;
}

-- a check of the schema, which has no row
abbrev pub schema_check : Option (List ℕ) → Option (List ℕ) → Check
schema_check table column =
    record { perm = perm.S; table = table; column = column; before = None; after = None }

-- U on each given column
abbrev pub cell_checks : List ℕ → RuleRow → RuleRow → List CellColumn → List Check
cell_checks table before after [] = []
cell_checks table before after (c ∷ columns) =
    row_check perm.U table (Some c.id) before after ∷ cell_checks table before after columns

-- a new row: C on its table, and then U on each given column; it is the row before too
abbrev pub new_row_checks : List ℕ → RuleRow → List CellColumn → List Check
new_row_checks table row columns =
    row_check perm.C table None row row ∷ cell_checks table row row columns

-- new rows, in the order of the action
abbrev pub add_checks : Document → List ℕ → List ℕ → List CellColumn → List Check
add_checks t table [] columns = []
add_checks t table (r ∷ rows) columns =
    new_row_checks table (row_at t table r) columns ++ add_checks t table rows columns

-- changed rows: the row before is that of s, the row after that of t
abbrev pub update_checks : Document → Document → List ℕ → List ℕ → List CellColumn → List Check
update_checks s t table [] columns = []
update_checks s t table (r ∷ rows) columns =
    cell_checks table (row_at s table r) (row_at t table r) columns
    ++ update_checks s t table rows columns

-- rows that go: D on their table; each is the row after too
abbrev pub remove_checks : Document → List ℕ → List ℕ → List Check
remove_checks s table [] = []
remove_checks s table (r ∷ rows) =
    row_check perm.D table None (row_at s table r) (row_at s table r) ∷ remove_checks s table rows

-- the rows of the access rules are for owners alone, and no rule is asked about them
abbrev pub unless_acl : List ℕ → List Check → List Check
unless_acl table checks = cond (is_acl_id table) [] checks

-- what is checked of an action, where s is the evaluated document before it and t that after it
abbrev pub checks_of : Document → Document → DocAction → List Check
checks_of s t (BulkAdd table rows columns) = unless_acl table (add_checks t table rows columns)
checks_of s t (BulkUpdate table rows columns) =
    unless_acl table (update_checks s t table rows columns)
checks_of s t (BulkRemove table rows) = unless_acl table (remove_checks s table rows)
checks_of s t (AddTable table row columns) = schema_check None None ∷ []
checks_of s t (RemoveTable table) = schema_check (Some table) None ∷ []
checks_of s t (RenameTable table new) = schema_check (Some table) None ∷ []
checks_of s t (AddColumn table column) = schema_check (Some table) None ∷ []
checks_of s t (RemoveColumn table column) = schema_check (Some table) (Some column) ∷ []
checks_of s t (RenameColumn table column new) = schema_check (Some table) (Some column) ∷ []
checks_of s t (ModifyColumn table column info) = schema_check (Some table) (Some column) ∷ []
