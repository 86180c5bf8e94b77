-- Lists of row ids: what stands in them, and their order.
use Rattle.std.specs.Prelude.{ℕ, Bool, true, cond, not, ◌&&◌, nat_eq, nat_lt, List, [], ◌∷◌, filter, ◌<◌, ⊤}
use Rattle.std.specs.List.{list_any, list_all, AllByRecursion}

-- whether the row stands in the list
abbrev pub has : List ℕ → ℕ → Bool
has rows row = list_any (λ q. nat_eq q row) rows

-- each number is below all later ones
abbrev pub IsAscending : List ℕ → Type 0
IsAscending [] = ⊤
IsAscending (r ∷ rows) = AllByRecursion (λ q. r < q) rows × IsAscending rows

-- the row in its place, once
abbrev pub insert_row : ℕ → List ℕ → List ℕ
insert_row row [] = row ∷ []
insert_row row (q ∷ rows) =
    cond (nat_lt row q) (row ∷ q ∷ rows) (cond (nat_eq row q) (q ∷ rows) (q ∷ insert_row row rows))

-- the rows of the first list, put into the second
abbrev pub insert_rows : List ℕ → List ℕ → List ℕ
insert_rows [] rows = rows
insert_rows (q ∷ new) rows = insert_row q (insert_rows new rows)

-- the rows of the second list that are not in the first
abbrev pub without : List ℕ → List ℕ → List ℕ
without gone rows = filter (λ r. not (has gone r)) rows

-- whether no row stands twice
abbrev pub has_no_duplicates : List ℕ → Bool
has_no_duplicates [] = true
has_no_duplicates (r ∷ rows) = not (has rows r) && has_no_duplicates rows

-- whether each of the first list stands in the second
abbrev pub all_in : List ℕ → List ℕ → Bool
all_in wanted rows = list_all (λ q. has rows q) wanted

-- whether none of the first list stands in the second
abbrev pub none_in : List ℕ → List ℕ → Bool
none_in new rows = list_all (λ q. not (has rows q)) new
