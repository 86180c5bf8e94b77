-- One round of the search for levels.
use Rattle.std.specs.Prelude.{ℕ, Bool, true, false, not, ◌||◌, List, [], ◌∷◌, map, Option, Some, None, slice_set, slice_index_or}
use Rattle.std.specs.List.{list_any}
use Rattle.par_recalc.specs.declared.plan.ColumnFormula.{ColumnFormula}

-- whether some column with the id of a number is not marked
abbrev pub is_waiting : List Bool → ℕ → Bool
is_waiting waiting n = slice_index_or waiting n false

-- whether no column with one of these ids is unmarked
abbrev pub are_ready : List Bool → List ℕ → Bool
are_ready waiting numbers = not (list_any (is_waiting waiting) numbers)

-- one column more, by the number of its id and its mark
abbrev pub with_column : List Bool → Option ℕ → Bool → List Bool
with_column waiting o true = waiting
with_column waiting None false = waiting
with_column waiting (Some n) false = slice_set waiting n true

-- all columns, one after the other
abbrev pub with_columns : List Bool → List (Option ℕ) → List Bool → List Bool
with_columns waiting (o ∷ own) (b ∷ bs) = with_columns (with_column waiting o b) own bs
with_columns waiting _ _ = waiting

-- the marks after one round more, of columns that name the ids of these numbers
abbrev pub next_marks : List Bool → List (List ℕ) → List Bool → List Bool
next_marks waiting (ns ∷ all) (b ∷ bs) = (b || are_ready waiting ns) ∷ next_marks waiting all bs
next_marks waiting _ _ = []

-- of no column
abbrev pub blank : List ColumnFormula → List Bool
blank fs = map (λ _. false) fs

-- one round, by the numbers of the columns' own ids and of those that they name
abbrev pub round : List ColumnFormula → List (Option ℕ) → List (List ℕ) → List Bool → List Bool
round fs own all bs = next_marks (with_columns (blank fs) own bs) all bs
