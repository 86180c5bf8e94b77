-- What a view tells of the cells that a change of records leaves.
use Rattle.std.specs.Prelude.{ℕ, true, false, List, ◌≡◌, Some}
use Rattle.doc_model.specs.declared.action.DocAction.{DocAction}
use Rattle.doc_model.specs.declared.action.DocAction.TheVariants.{BulkAdd, BulkUpdate}
use Rattle.doc_model.specs.declared.column.ColDef.{ColDef}
use Rattle.doc_model.specs.declared.user_action.UserColumn.{UserColumn}
use Rattle.doc_model.specs.declared.view.ViewCol.{ViewCol}
use Rattle.doc_model.specs.declared.view.ViewTable.{ViewTable}
use Rattle.doc_model.specs.Apply.{apply}
use Rattle.doc_model.specs.ByIds.{find_id}
use Rattle.doc_model.specs.Column.{column_id}
use Rattle.doc_model.specs.Document.{Document}
use Rattle.doc_model.specs.Rows.{has}
use Rattle.doc_model.specs.Valid.{valid}
use Rattle.doc_model.specs.ViewEdits.{shown_id}
use Rattle.doc_readers.specs.Parts.{grid_at}
use Rattle.acl_formula.specs.declared.permissions.Perm.TheVariants as perm
use Rattle.acl_rules.specs.declared.decision.Ctx.{Ctx}
use Rattle.acl_checks.specs.Checks.{row_at}
use Rattle.recalc.specs.Evaluated.{filled}
use Rattle.user_actions.specs.Steps.{all_fitted, last_row, numbers_after}
use Rattle.rule_audit.specs.Open.{open_columns}
use Rattle.rule_audit.specs.Reached.{is_column_safe}
use Rattle.rule_audit.specs.SeenLaws.{IsSeen}
use Rattle.audited_checks.specs.AlikeRows.{AreAlike, AreAllAlike}

-- a data column of the document that the view shows so
pub record IsToldColumn (s : Document) (v : ViewTable) (c : List ℕ) (d : ColDef)
    (e : ViewCol) : Type 0 where
  pub there : find_id column_id c (grid_at s v.id).columns ≡ Some d
  pub shown : find_id shown_id c v.columns ≡ Some e
  pub types : d.info.ty ≡ e.ty
  pub no_formula : d.info.is_formula ≡ false

-- a column that is safe for changes is a data column, of the type that the view tells
abbrev pub TypesLaw : Type 0
TypesLaw = (x : Ctx) (s : Document) (v : ViewTable) (c : List ℕ) → IsSeen x (filled s) v
    → is_column_safe perm.U (open_columns x v) c ≡ true
    → (e : ViewCol) × (d : ColDef) × IsToldColumn s v c d e

-- the action that writes these values in rows of a table
abbrev pub written : Document → List ℕ → List ℕ → List UserColumn → DocAction
written s table rows ks = BulkUpdate table rows (all_fitted s table ks)

-- the action that adds so many records with these values
abbrev pub added : Document → List ℕ → ℕ → List UserColumn → DocAction
added s table count ks =
    BulkAdd table (numbers_after (last_row s table) count) (all_fitted s table ks)

-- a record of the table after these values were written
abbrev pub ChangedCellsLaw : Type 0
ChangedCellsLaw = (x : Ctx) (s t : Document) (v : ViewTable) (rows : List ℕ)
    (ks : List UserColumn) (r : ℕ)
    → IsSeen x (filled s) v → IsSeen x (filled t) v
    → valid s (written s v.id rows ks) ≡ true → valid t (written t v.id rows ks) ≡ true
    → has v.rows r ≡ true
    → AreAlike perm.U (open_columns x v)
    (row_at (filled (apply s (written s v.id rows ks))) v.id r)
    (row_at (filled (apply t (written t v.id rows ks))) v.id r)

-- new records of the table, behind its last ones
abbrev pub AddedCellsLaw : Type 0
AddedCellsLaw = (x : Ctx) (s t : Document) (v : ViewTable) (ks : List UserColumn) (count : ℕ)
    → IsSeen x (filled s) v → IsSeen x (filled t) v
    → valid s (added s v.id count ks) ≡ true → valid t (added t v.id count ks) ≡ true
    → AreAllAlike (open_columns x v) v.id (filled (apply s (added s v.id count ks)))
    (filled (apply t (added t v.id count ks)))
    (numbers_after (last_row s v.id) count) (numbers_after (last_row t v.id) count)
