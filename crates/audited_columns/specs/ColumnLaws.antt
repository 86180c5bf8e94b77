-- What a view tells a closed user of columns.
use Rattle.std.specs.Prelude.{ℕ, cond, List, [], Some, ◌≡◌, unwrap_or}
use Rattle.doc_model.specs.declared.column.ColDef.{ColDef}
use Rattle.doc_model.specs.declared.column.ColInfo.{ColInfo}
use Rattle.doc_model.specs.declared.view.ViewCol.{ViewCol}
use Rattle.doc_model.specs.declared.view.ViewTable.{ViewTable}
use Rattle.doc_model.specs.ByIds.{find_id}
use Rattle.doc_model.specs.Column.{column_id}
use Rattle.doc_model.specs.Document.{Document}
use Rattle.doc_model.specs.DocumentLaws.{IsWhole}
use Rattle.doc_model.specs.ViewEdits.{shown_id}
use Rattle.doc_readers.specs.Parts.{grid_at}
use Rattle.acl_rules.specs.declared.decision.Ctx.{Ctx}
use Rattle.acl_reading.specs.RulesLet.{rules_let}
use Rattle.censored_view.specs.View.{view}
use Rattle.recalc.specs.Evaluated.{filled}
use Rattle.rule_audit.specs.Closed.{IsClosed}
use Rattle.rule_audit.specs.SeenLaws.{IsSeen}

-- what a shown column is, where its formula is not hidden; a data column has none
abbrev pub told_info : ViewCol → ColInfo
told_info e = record {
  ty = e.ty;
  is_formula = e.is_formula;
  formula = cond e.is_formula (unwrap_or e.formula []) [];
}

-- the document's column of this id is as it is shown
pub record IsAsShown (s : Document) (v : ViewTable) (c : List ℕ) (e : ViewCol) : Type 0 where
  pub column : ColDef
  pub there : find_id column_id c (grid_at s v.id).columns ≡ Some column
  pub told : column.info ≡ told_info e

-- so is each shown column of a closed user
abbrev pub InfosLaw : Type 0
InfosLaw = (x : Ctx) (s : Document) (v : ViewTable) (c : List ℕ) (e : ViewCol)
    → IsWhole s → IsSeen x (filled s) v → IsClosed x (view (rules_let x) (filled s))
    → find_id shown_id c v.columns ≡ Some e → IsAsShown s v c e
