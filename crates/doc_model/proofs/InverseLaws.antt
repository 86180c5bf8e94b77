-- The inverse of a valid action restores a whole document, and the action leaves one.
use Rattle.std.proofs.Common.{true, List, [], ◌∷◌, ◌++◌, ◌≡◌, refl, sym, ap, subst, ◌∙◌}
use Rattle.std.proofs.lemmas.Bool.{and_parts}
use Rattle.doc_model.specs.declared.action.DocAction.{DocAction}
use Rattle.doc_model.specs.declared.action.DocAction.TheVariants.{BulkAdd, BulkUpdate, BulkRemove, AddTable, RemoveTable, RenameTable, AddColumn, RemoveColumn, RenameColumn, ModifyColumn}
use Rattle.doc_model.specs.declared.column.ColDef.{ColDef}
use Rattle.doc_model.specs.Grid.{Grid}
use Rattle.doc_model.specs.Document.{Table, Document}
use Rattle.doc_model.specs.Schema.{with_schema, resources, rules, plain_tables}
use Rattle.doc_model.specs.Valid.{valid}
use Rattle.doc_model.specs.Apply.{apply, apply_all, all_valid}
use Rattle.doc_model.specs.Inverse.{inverse, inverse_all}
use Rattle.doc_model.specs.DocumentLaws.{IsWhole}
use Rattle.doc_model.proofs.Choices.{both_true}
use Rattle.doc_model.proofs.WholeLaws.{IsGood, good_from, whole_from}
use Rattle.doc_model.proofs.DocumentParts.{applied, LeadsBack, Outcome}
use Rattle.doc_model.proofs.RecordSteps.{add_outcome, update_outcome, remove_outcome}
use Rattle.doc_model.proofs.TableSteps.{add_table_outcome, remove_table_outcome, rename_table_outcome}
use Rattle.doc_model.proofs.ColumnSteps.{add_column_outcome, remove_column_outcome, rename_column_outcome, modify_column_outcome}

outcome_of : (r u : Grid ColDef) (p : List Table) → IsGood r u p → (a : DocAction) → valid (with_schema r u p) a ≡ true → Outcome (with_schema r u p) a (inverse (with_schema r u p) a)
outcome_of r u p good (BulkAdd table rows ks) v = add_outcome r u p good (whole_from r u p good).sound.grids table rows ks v
outcome_of r u p good (BulkUpdate table rows ks) v = update_outcome r u p good (whole_from r u p good).sound.grids table rows ks v
outcome_of r u p good (BulkRemove table rows) v = remove_outcome r u p good (whole_from r u p good).sound.grids table rows v
outcome_of r u p good (AddTable table row columns) v = add_table_outcome r u p good table row columns v
outcome_of r u p good (RemoveTable table) v = remove_table_outcome r u p good table v
outcome_of r u p good (RenameTable table new) v = rename_table_outcome r u p good table new v
outcome_of r u p good (AddColumn table d) v = add_column_outcome r u p good table d v
outcome_of r u p good (RemoveColumn table column) v = remove_column_outcome r u p good table column v
outcome_of r u p good (RenameColumn table column new) v = rename_column_outcome r u p good table column new v
outcome_of r u p good (ModifyColumn table column info) v = modify_column_outcome r u p good table column info v

pub outcome : (s : Document) (a : DocAction) → IsWhole s → valid s a ≡ true → Outcome s a (inverse s a)
outcome s a whole v =
    let same : s ≡ with_schema (resources s) (rules s) (plain_tables s) = whole.agrees.schema in
    subst (λ d. Outcome d a (inverse d a)) (sym same) (outcome_of (resources s) (rules s) (plain_tables s) (good_from s whole) a (ap (λ d. valid d a) (sym same) ∙ v))

becomes : (s : Document) (a : DocAction) (v : valid s a ≡ true) (o : Outcome s a (inverse s a)) → apply s a ≡ with_schema o.resources o.rules o.plain
becomes s a v o = applied s a v ∙ o.becomes

-- a valid action leaves a whole document
pub IsWhole-apply : (s : Document) (a : DocAction) → IsWhole s → valid s a ≡ true → IsWhole (apply s a)
IsWhole-apply s a whole v =
    let o : Outcome s a (inverse s a) = outcome s a whole v in
    subst IsWhole (sym (becomes s a v o)) (whole_from o.resources o.rules o.plain o.good)

-- the inverse of a valid action leads back
pub apply_all-inverse : (s : Document) (a : DocAction) → IsWhole s → valid s a ≡ true → LeadsBack (apply s a) s (inverse s a)
apply_all-inverse s a whole v =
    let o : Outcome s a (inverse s a) = outcome s a whole v in
    subst (λ d. LeadsBack d s (inverse s a)) (sym (becomes s a v o)) o.leads

-- ---- lists of actions

pub IsWhole-apply_all : (s : Document) (as' : List DocAction) → IsWhole s → all_valid s as' ≡ true → IsWhole (apply_all s as')
IsWhole-apply_all s [] whole v = whole
IsWhole-apply_all s (a ∷ as') whole v =
    let both : (valid s a ≡ true) × (all_valid (apply s a) as' ≡ true) = and_parts (valid s a) (all_valid (apply s a) as') v in
    IsWhole-apply_all (apply s a) as' (IsWhole-apply s a whole both.0) both.1

LeadsBack-append : (s m e : Document) (as' bs : List DocAction) → LeadsBack s m as' → LeadsBack m e bs → LeadsBack s e (as' ++ bs)
LeadsBack-append s m e [] bs h k = subst (λ d. LeadsBack d e bs) (sym h.1) k
LeadsBack-append s m e (a ∷ as') bs h k =
    let both : (valid s a ≡ true) × (all_valid (apply s a) as' ≡ true) = and_parts (valid s a) (all_valid (apply s a) as') h.0 in
    let rest : LeadsBack (apply s a) e (as' ++ bs) = LeadsBack-append (apply s a) m e as' bs (both.1, h.1) k in
    (both_true (valid s a) (all_valid (apply s a) (as' ++ bs)) both.0 rest.0, rest.1)

-- the inverse of valid actions leads back
pub apply_all-inverse_all : (s : Document) (as' : List DocAction) → IsWhole s → all_valid s as' ≡ true → LeadsBack (apply_all s as') s (inverse_all s as')
apply_all-inverse_all s [] whole v = (refl, refl)
apply_all-inverse_all s (a ∷ as') whole v =
    let both : (valid s a ≡ true) × (all_valid (apply s a) as' ≡ true) = and_parts (valid s a) (all_valid (apply s a) as') v in
    LeadsBack-append (apply_all (apply s a) as') (apply s a) s (inverse_all (apply s a) as') (inverse s a)
    (apply_all-inverse_all (apply s a) as' (IsWhole-apply s a whole both.0) both.1) (apply_all-inverse s a whole both.0)
