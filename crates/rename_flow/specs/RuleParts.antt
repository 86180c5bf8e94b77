-- What the rename of a column makes of the access rules that a view shows.
use Rattle.std.specs.Prelude.{ℕ, pos, false, ◌+◌, ◌++◌, cond, codes, List, [], ◌∷◌, Option, Some, None}
use Rattle.cell_types.specs.declared.value.CellValue.{CellValue}
use Rattle.cell_types.specs.declared.value.CellValue.TheVariants as value
use Rattle.doc_model.specs.declared.view.ViewCol.{ViewCol}
use Rattle.doc_model.specs.declared.user_action.UserAction.{UserAction}
use Rattle.doc_model.specs.declared.user_action.UserAction.TheVariants.{Update}
use Rattle.doc_model.specs.MetadataIds.{rules_id}
use Rattle.formula_records.specs.declared.tables.RecordTables.{RecordTables}
use Rattle.rename_marks.specs.declared.column_rename.ColumnRename.{ColumnRename}
use Rattle.rename_marks.specs.declared.formula_place.AttributeTable.{AttributeTable}
use Rattle.rename_marks.specs.Noted.{capped}
use Rattle.rename_marks.specs.Scope.{in_rule}
use Rattle.rename_flow.specs.declared.row_changes.RowChanges.{RowChanges}
use Rattle.rename_flow.specs.declared.shown_rules.RuleAbout.{RuleAbout}
use Rattle.rename_flow.specs.declared.text_change.TextChange.{TextChange}
use Rattle.rename_flow.specs.AttributeTexts.{attribute_change}
use Rattle.rename_flow.specs.Changes.{kept, rule_change}
use Rattle.rename_flow.specs.Parts.{Part, only_count}
use Rattle.rename_flow.specs.ShownRows.{ShownRow, text_shown}
use Rattle.rename_flow.specs.ShownRules.{about_of, attribute_shown, claims_new, resource_shown}

-- the change of one rule's formula: that of a rule about nothing stays, and so does what is no text
abbrev pub scoped_change : ColumnRename → List AttributeTable → Option RecordTables
    → Option (List ℕ) → TextChange
scoped_change r as' (Some q) (Some text) = rule_change r (in_rule q as') text
scoped_change r as' _ _ = kept 0

abbrev pub formula_changed : ColumnRename → List RuleAbout → List AttributeTable → List ViewCol
    → List CellValue → TextChange
formula_changed r bs as' ds vs =
    scoped_change r as' (about_of bs ds vs) (text_shown ds vs (codes "aclFormula"))

-- the change of the attribute that it says
abbrev pub attribute_changed : ColumnRename → List ViewCol → List CellValue → TextChange
attribute_changed r ds vs = attribute_change r (attribute_shown ds vs)

-- ---- changes gathered row by row

-- the rows and the texts of changes, with one more where it has a text
abbrev pub with_row : RowChanges → ℕ → Option (List ℕ) → RowChanges
with_row g r None = g
with_row g r (Some text) = record {
  rows = g.rows ++ pos r ∷ [];
  texts = g.texts ++ value.Text text ∷ [];
  unresolved = g.unresolved;
}

unfoldable pub with_change : RowChanges → ℕ → TextChange → RowChanges
with_change g r c =
    with_row (record {
      rows = g.rows;
      texts = g.texts;
      unresolved = capped (g.unresolved + c.unresolved);
    }) r c.text

-- with those of rows
abbrev pub with_changes : (List ViewCol → List CellValue → TextChange) → RowChanges
    → List ShownRow → RowChanges
with_changes f g [] = g
with_changes f g (w ∷ ws) = with_changes f (with_change g w.row (f w.columns w.cells)) ws

abbrev pub no_changes : RowChanges
no_changes = record { rows = []; texts = []; unresolved = 0 }

-- one action for all of them, where there are any
abbrev pub update_of : List ℕ → RowChanges → UserAction
update_of column g =
    Update rules_id false g.rows (record { id = column; values = g.texts } ∷ [])

abbrev pub updated : List ℕ → RowChanges → List UserAction
updated column g = elim g.rows [ [] ↦ [] | r ∷ rows ↦ update_of column g ∷ [] ]

abbrev pub rows_part : List ℕ → RowChanges → Part
rows_part column g = record { actions = updated column g; unresolved = g.unresolved }

-- ---- parts

abbrev pub formulas_part : ColumnRename → List RuleAbout → List AttributeTable → List ShownRow
    → Part
formulas_part r bs as' ws =
    rows_part (codes "aclFormula") (with_changes (formula_changed r bs as') no_changes ws)

abbrev pub attributes_part : ColumnRename → List ShownRow → Part
attributes_part r ws =
    rows_part (codes "userAttributes") (with_changes (attribute_changed r) no_changes ws)

-- how many resources of the renamed table name the new column
abbrev pub claims : ColumnRename → ℕ → List ShownRow → ℕ
claims r n [] = n
claims r n (w ∷ ws) =
    claims r (cond (claims_new r (resource_shown w.columns w.cells)) (capped (n + 1)) n) ws

abbrev pub resources_part : ColumnRename → List ShownRow → Part
resources_part r ws = only_count (claims r 0 ws)
