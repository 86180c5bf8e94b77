-- A table that is removed touches what is said of it, its metadata rows included.
use Rattle.std.proofs.Common.{ℕ, true, List, ◌≡◌, refl, sym, ap, ◌∙◌, subst, Some, None}
use Rattle.std.specs.Str.{bytes_eq}
use Rattle.doc_model.specs.declared.action.DocAction.TheVariants.{RemoveTable}
use Rattle.doc_model.specs.declared.column.ColDef.{ColDef}
use Rattle.doc_model.specs.Apply.{effect}
use Rattle.doc_model.specs.ByIds.{find_id, without_id}
use Rattle.doc_model.specs.Document.{Table, Document, table_id}
use Rattle.doc_model.specs.DocumentLaws.{IsWhole}
use Rattle.doc_model.specs.Grid.{Grid}
use Rattle.doc_model.specs.Schema.{with_schema, resources, rules, plain_tables}
use Rattle.doc_model.specs.Touched.{columns_described, table_described}
use Rattle.doc_model.specs.Valid.{valid}
use Rattle.doc_model.proofs.ByIdsLaws.{bytes_apart, find-without_id}
use Rattle.doc_model.proofs.Choices.{cond_false, cond_true}
use Rattle.std.proofs.lemmas.Slice.Eq.{bytes_eq-Decides}
use Rattle.affected_cells.specs.Laws.{RemoveTableLaw}
use Rattle.affected_cells.specs.TouchedRight.{TouchesRight}
use Rattle.affected_cells.proofs.Alike.{column_of}
use Rattle.affected_cells.proofs.RowsLaw.{was_there}
use Rattle.affected_cells.proofs.TableActions.{table_action_right}

module _ (r u : Grid ColDef) (p : List Table) (table : List ℕ) where
  abbrev w : Document
  w = with_schema r u p

  removed_right : IsWhole w → valid w (RemoveTable table) ≡ true → TouchesRight w (RemoveTable table)
  removed_right whole v = table_action_right r u p (without_id table_id table p) (RemoveTable table) table (table_described w table) (columns_described w table) (record {
    whole = whole;
    is_valid = v;
    applied = cond_true (valid w (RemoveTable table)) (effect w (RemoveTable table)) w v;
    touch = refl;
    rows_touched = λ n row. refl;
    was = was_there w;
    others = λ n apart. find-without_id table_id table p n ∙ cond_false (bytes_eq table n) None (find_id table_id n p) (bytes_apart n table apart);
    once = λ d e k x y. absurd (none (sym (ap (λ o. column_of o k) (find-without_id table_id table p table ∙ cond_true (bytes_eq table table) None (find_id table_id table p) ((bytes_eq-Decides table table).1 refl))) ∙ y));
  })
    where
      none : {d : ColDef} → None ≡ Some d → ⊥
      none e = cc

pub remove_table_law : RemoveTableLaw
remove_table_law s table whole v =
    subst (λ x. TouchesRight x (RemoveTable table)) (sym whole.agrees.schema)
    (removed_right (resources s) (rules s) (plain_tables s) table (subst IsWhole whole.agrees.schema whole) (subst (λ x. valid x (RemoveTable table) ≡ true) whole.agrees.schema v))
