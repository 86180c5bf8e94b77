-- What a user action gives: rows, values, and ids of new columns.
use Rattle.std.specs.Prelude.{ℕ, ℤ, Bool, true, false, not, ◌&&◌, List, [], ◌∷◌, Some, None}
use Rattle.std.specs.List.{list_all, list_any}
use Rattle.std.specs.Ordering.{int_eq}
use Rattle.cell_types.specs.NameRule.{is_name}
use Rattle.cell_types.specs.Reference.{row_number}
use Rattle.doc_model.specs.declared.user_action.UserCol.{UserCol}
use Rattle.doc_model.specs.declared.user_action.UserColumn.{UserColumn}
use Rattle.doc_model.specs.Column.{is_base}
use Rattle.doc_model.specs.Rows.{has}

-- whether a number stands in the list
abbrev pub has_number : List ℤ → ℤ → Bool
has_number numbers n = list_any (λ m. int_eq m n) numbers

-- whether no number stands twice
abbrev pub have_no_duplicates : List ℤ → Bool
have_no_duplicates [] = true
have_no_duplicates (n ∷ numbers) = not (has_number numbers n) && have_no_duplicates numbers

-- whether the row is one of these
abbrev pub is_row : List ℕ → ℤ → Bool
is_row rows n = elim (row_number n) [ None ↦ false | Some r ↦ has rows r ]

-- whether cells may hold the values
abbrev pub has_base : UserColumn → Bool
has_base k = list_all is_base k.values

-- whether the id of a new column is a name
abbrev pub has_good_id : UserCol → Bool
has_good_id c = is_name c.id
