-- What well-formed actions give.
use Rattle.std.proofs.Common.{◌≡◌, ℕ, Bool, true, ◌&&◌, List, [], ◌∷◌, length, refl}
use Rattle.std.proofs.lemmas.Bool.{and_parts}
use Rattle.doc_model.specs.declared.user_action.UserAction.{UserAction}
use Rattle.doc_model.specs.declared.user_action.UserAction.TheVariants.{Add, Update, Remove, AddTable, RemoveTable, RenameTable, AddColumn, RemoveColumn, RenameColumn, ModifyColumn}
use Rattle.doc_model.specs.declared.user_action.UserColumn.{UserColumn}
use Rattle.doc_model.specs.ByIds.{precedes, are_distinct, IsByIds}
use Rattle.doc_model.specs.WellFormed.{are_by_id, are_whole, has_whole_columns, have_values, is_for_one, is_well_formed, user_id}
use Rattle.doc_model.proofs.ByIdsLaws.{precedes_trans, AreDistinct-IsByIds, are_distinct-AreDistinct}
use Rattle.doc_model.proofs.Choices.{both_true, each_weaker}

by_ids : (ks : List UserColumn) → are_by_id ks ≡ true → IsByIds user_id ks
by_ids [] h = tt
by_ids (k ∷ []) h = (tt, tt)
by_ids (k ∷ l ∷ ks) h =
    let p : (precedes k.id l.id ≡ true) × (are_by_id (l ∷ ks) ≡ true) = and_parts (precedes k.id l.id) (are_by_id (l ∷ ks)) h in
    let rest : IsByIds user_id (l ∷ ks) = by_ids (l ∷ ks) p.1 in
    ((p.0, each_weaker (λ (m : UserColumn). precedes l.id m.id ≡ true) (λ (m : UserColumn). precedes k.id m.id ≡ true) (λ m q. precedes_trans k.id l.id m.id p.0 q) ks rest.0), rest)

whole_columns : (single : Bool) (count : ℕ) (ks : List UserColumn) → (is_for_one single count && (are_by_id ks && have_values count ks)) ≡ true → are_whole count ks ≡ true
whole_columns single count ks h =
    let f : (are_by_id ks && have_values count ks) ≡ true = (and_parts (is_for_one single count) (are_by_id ks && have_values count ks) h).1 in
    let p : (are_by_id ks ≡ true) × (have_values count ks ≡ true) = and_parts (are_by_id ks) (have_values count ks) f in
    both_true (are_distinct user_id ks) (have_values count ks) (are_distinct-AreDistinct user_id ks (AreDistinct-IsByIds user_id ks (by_ids ks p.0))) p.1

-- what is well formed gives each column once, with a value for each of its rows
pub has_whole_columns-is_well_formed : (a : UserAction) → is_well_formed a ≡ true → has_whole_columns a ≡ true
has_whole_columns-is_well_formed (Add table single count has_row_ids ks) h = whole_columns single count ks h
has_whole_columns-is_well_formed (Update table single rows ks) h = whole_columns single (length rows) ks h
has_whole_columns-is_well_formed (Remove table single rows) h = refl
has_whole_columns-is_well_formed (AddTable table columns) h = refl
has_whole_columns-is_well_formed (RemoveTable table) h = refl
has_whole_columns-is_well_formed (RenameTable table new) h = refl
has_whole_columns-is_well_formed (AddColumn table column) h = refl
has_whole_columns-is_well_formed (RemoveColumn table column) h = refl
has_whole_columns-is_well_formed (RenameColumn table column new) h = refl
has_whole_columns-is_well_formed (ModifyColumn table column) h = refl
