-- What a context lets a user read of one table.
use Rattle.std.specs.Prelude.{ℕ, Bool, true, false, cond, ◌&&◌, List, Option, Some, None, ◌≡◌}
use Rattle.doc_model.specs.declared.column.ColDef.{ColDef}
use Rattle.doc_model.specs.ByIds.{has_id}
use Rattle.doc_model.specs.Column.{column_id}
use Rattle.doc_model.specs.Grid.{Grid, cell}
use Rattle.doc_model.specs.MetadataIds.{is_schema_id, is_acl_id}
use Rattle.doc_model.specs.Rows.{has}
use Rattle.acl_formula.specs.RuleRow.{RuleRow}

-- a row of a table, as rules read it; it has no cells where it is not there
abbrev pub row_of : Grid ColDef → ℕ → RuleRow
row_of g r = record {
  id = r;
  cell = λ c.
      cond (has_id column_id g.columns c && has g.rows r) (Some (cell column_id g c r)) None;
}

-- of one table: whether it is shown where it has no columns, which columns are shown, which of them
-- with their formula, and whether a row may be read in a column, or in none
pub record Readable : Type 0 where
  pub bare : Bool
  pub column : List ℕ → Bool
  pub formula : List ℕ → Bool
  pub cell : Option (List ℕ) → RuleRow → Bool

-- whether each cell of a column is decided as its row alone
abbrev pub IsAsRow : Readable → List ℕ → Type 0
IsAsRow x column = (row : RuleRow) → x.cell (Some column) row ≡ x.cell None row

-- all of it
abbrev pub whole : Readable
whole = record {
  bare = true;
  column = λ c. true;
  formula = λ c. true;
  cell = λ c row. true;
}

-- nothing of it
abbrev pub hidden : Readable
hidden = record {
  bare = false;
  column = λ c. false;
  formula = λ c. false;
  cell = λ c row. false;
}

-- the schema tables are hidden, those of the access rules are shown to owners alone, and what the
-- others show is given
abbrev pub by_rules : Bool → (List ℕ → Readable) → List ℕ → Readable
by_rules owner others table =
    cond (is_schema_id table) hidden
    (cond (is_acl_id table) (cond owner whole hidden) (others table))
