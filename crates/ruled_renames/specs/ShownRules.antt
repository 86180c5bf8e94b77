-- Views that show the two tables of access rules whole.
use Rattle.std.specs.Prelude.{ℕ, true, List, Some, ◌≡◌}
use Rattle.std.specs.Str.{IsUtf8}
use Rattle.cell_types.specs.declared.value.CellValue.TheVariants as value
use Rattle.doc_model.specs.declared.view.ViewTable.{ViewTable}
use Rattle.doc_model.specs.ByIds.{find_id, has_id}
use Rattle.doc_model.specs.Changes.{grid, shown_table_id}
use Rattle.doc_model.specs.Column.{column_id}
use Rattle.doc_model.specs.Document.{Document}
use Rattle.doc_model.specs.Grid.{cell}
use Rattle.doc_model.specs.MetadataIds.{resources_id, rules_id}
use Rattle.doc_model.specs.Readers.{cell_at}
use Rattle.doc_model.specs.Rows.{has}
use Rattle.doc_model.specs.ViewEdits.{shown_id}
use Rattle.doc_readers.specs.Parts.{grid_at}
use Rattle.user_attrs.specs.Attributes.{attribute_at}
use Rattle.user_attrs.specs.declared.attribute_rule.AttributeRule.{AttributeRule}

-- a table of the document is shown, with all its columns, rows and cells; a view has columns in the
-- order of their ids
pub record ShowsTable (v : List ViewTable) (s : Document) (t : List ℕ) : Type 0 where
  pub shown : ViewTable
  pub found : find_id shown_table_id t v ≡ Some shown
  pub columns : (c : List ℕ)
      → has_id shown_id shown.columns c ≡ has_id column_id (grid_at s t).columns c
  pub rows : shown.rows ≡ (grid_at s t).rows
  pub cells : (c : List ℕ) (r : ℕ) → has_id column_id (grid_at s t).columns c ≡ true
      → has (grid_at s t).rows r ≡ true
      → cell shown_id (grid shown) c r ≡ cell column_id (grid_at s t) c r

-- the texts in a table are UTF-8
abbrev pub AreTexts : Document → List ℕ → Type 0
AreTexts s t = (c : List ℕ) (r : ℕ) (text : List ℕ) → cell_at s t c r ≡ Some (value.Text text)
    → IsUtf8 text

-- the names of an attribute are UTF-8
pub record IsAttributeText (a : AttributeRule) : Type 0 where
  pub name : IsUtf8 a.name
  pub table : IsUtf8 a.table

-- both tables of access rules are shown whole, and their texts are UTF-8, as are the names that
-- attributes have there
pub record ShowsRules (v : List ViewTable) (s : Document) : Type 0 where
  pub rules : ShowsTable v s rules_id
  pub resources : ShowsTable v s resources_id
  pub rule_texts : AreTexts s rules_id
  pub resource_texts : AreTexts s resources_id
  pub attribute_names : (r : ℕ) (a : AttributeRule) → attribute_at s r ≡ Some a
      → IsAttributeText a
