-- A table that is added touches what is said of it, its metadata rows included.
use Rattle.std.proofs.Common.{ℕ, Bool, true, false, not, ◌&&◌, List, [], ◌∷◌, map, ◌≡◌, refl, sym, ap, ◌∙◌, subst, Some, None}
use Rattle.std.proofs.lemmas.Bool.{false≢true}
use Rattle.std.specs.List.{list_all}
use Rattle.std.specs.Str.{bytes_eq}
use Rattle.cell_types.specs.NameRule.{is_name}
use Rattle.doc_model.specs.declared.action.DocAction.TheVariants.{AddTable}
use Rattle.doc_model.specs.declared.column.ColDef.{ColDef}
use Rattle.doc_model.specs.Apply.{effect, new_table}
use Rattle.doc_model.specs.ByIds.{are_distinct, find_id, has_id}
use Rattle.doc_model.specs.Column.{column_id, column_row, is_sound_info}
use Rattle.doc_model.specs.Document.{Table, Document, table_id, table_row, put_by_row}
use Rattle.doc_model.specs.DocumentLaws.{IsWhole}
use Rattle.doc_model.specs.Grid.{Grid}
use Rattle.doc_model.specs.MetadataIds.{tables_id, columns_id}
use Rattle.doc_model.specs.Schema.{with_schema, resources, rules, plain_tables}
use Rattle.doc_model.specs.Valid.{are_free, valid}
use Rattle.doc_model.proofs.ByIdsLaws.{bytes_apart, find_absent}
use Rattle.doc_model.proofs.ByRowLaws.{find-put_by_row}
use Rattle.doc_model.proofs.Choices.{cond_false, cond_true}
use Rattle.doc_model.proofs.DocumentParts.{absent_parts}
use Rattle.affected_cells.specs.Laws.{AddTableLaw}
use Rattle.affected_cells.specs.TouchedRight.{TouchesRight}
use Rattle.affected_cells.proofs.Alike.{column_of}
use Rattle.affected_cells.proofs.RowsLaw.{was_there}
use Rattle.affected_cells.proofs.TableActions.{table_action_right}

module _ (r u : Grid ColDef) (p : List Table) (table : List ℕ) (row : ℕ) (ds : List ColDef) where
  abbrev w : Document
  w = with_schema r u p

  abbrev q : List Table
  q = put_by_row table_row (new_table table row ds) p

  absent : valid w (AddTable table row ds) ≡ true → has_id table_id p table ≡ false
  absent v = (absent_parts r u p table (new (has_id table_id w table) (is_name table) (are_free w tables_id (row ∷ [])) (are_distinct column_id ds) (list_all (λ (d : ColDef). is_name d.id) ds) (are_free w columns_id (map column_row ds)) (list_all (λ (d : ColDef). is_sound_info d.info) ds) v)).1
    where
      new : (a b c d e f g : Bool) → (((((not a && b) && c) && d) && e) && f && g) ≡ true → a ≡ false
      new true b c d e f g h = absurd (false≢true h)
      new false b c d e f g h = refl

  added_right : IsWhole w → valid w (AddTable table row ds) ≡ true → TouchesRight w (AddTable table row ds)
  added_right whole v = table_action_right r u p q (AddTable table row ds) table (row ∷ []) (map column_row ds) (record {
    whole = whole;
    is_valid = v;
    applied = cond_true (valid w (AddTable table row ds)) (effect w (AddTable table row ds)) w v;
    touch = refl;
    rows_touched = λ n row. refl;
    was = was_there w;
    others = λ n apart. find-put_by_row table_row table_id (new_table table row ds) p n (absent v) ∙ cond_false (bytes_eq table n) (Some (new_table table row ds)) (find_id table_id n p) (bytes_apart n table apart);
    once = λ d e k x y. absurd (none (sym (ap (λ o. column_of o k) (find_absent table_id table p (absent v))) ∙ x));
  })
    where
      none : {d : ColDef} → None ≡ Some d → ⊥
      none e = cc

pub add_table_law : AddTableLaw
add_table_law s table row ds whole v =
    subst (λ x. TouchesRight x (AddTable table row ds)) (sym whole.agrees.schema)
    (added_right (resources s) (rules s) (plain_tables s) table row ds (subst IsWhole whole.agrees.schema whole) (subst (λ x. valid x (AddTable table row ds) ≡ true) whole.agrees.schema v))
