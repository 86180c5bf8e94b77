-- User actions that are well formed, as lines spell them.
use Rattle.std.specs.Prelude.{ℕ, Bool, true, not, ◌&&◌, ◌||◌, nat_eq, List, [], ◌∷◌, length}
use Rattle.std.specs.List.{list_all}
use Rattle.doc_model.specs.declared.request.Request.{Request}
use Rattle.doc_model.specs.declared.request.Request.TheVariants.{Apply}
use Rattle.doc_model.specs.declared.user_action.UserAction.{UserAction}
use Rattle.doc_model.specs.declared.user_action.UserAction.TheVariants.{Add, Update, Remove}
use Rattle.doc_model.specs.declared.user_action.UserColumn.{UserColumn}
use Rattle.doc_model.specs.ByIds.{are_distinct, precedes}

abbrev pub user_id : UserColumn → List ℕ
user_id k = k.id

-- whether columns stand by id, without repeats
abbrev pub are_by_id : List UserColumn → Bool
are_by_id [] = true
are_by_id (k ∷ []) = true
are_by_id (k ∷ l ∷ ks) = precedes k.id l.id && are_by_id (l ∷ ks)

-- whether each column has so many values
abbrev pub have_values : ℕ → List UserColumn → Bool
have_values count ks = list_all (λ (k : UserColumn). nat_eq (length k.values) count) ks

-- whether the form for one record is used for one alone
abbrev pub is_for_one : Bool → ℕ → Bool
is_for_one single count = not single || nat_eq count 1

-- whether an action is for one record where it has that form, its columns stand by id, and each has
-- a value for each row
abbrev pub is_well_formed : UserAction → Bool
is_well_formed (Add table single count has_row_ids ks) =
    is_for_one single count && (are_by_id ks && have_values count ks)
is_well_formed (Update table single rows ks) =
    is_for_one single (length rows) && (are_by_id ks && have_values (length rows) ks)
is_well_formed (Remove table single rows) = is_for_one single (length rows)
is_well_formed _ = true

-- whether each action that a request asks for is well formed
abbrev pub asks_well_formed : Request → Bool
asks_well_formed (Apply actions) = list_all is_well_formed actions
asks_well_formed _ = true

-- ---- what steps need of it

-- whether each column stands once and has so many values
abbrev pub are_whole : ℕ → List UserColumn → Bool
are_whole count ks = are_distinct user_id ks && have_values count ks

-- whether an action gives each column once, with a value for each of its rows
abbrev pub has_whole_columns : UserAction → Bool
has_whole_columns (Add table single count has_row_ids ks) = are_whole count ks
has_whole_columns (Update table single rows ks) = are_whole (length rows) ks
has_whole_columns _ = true
