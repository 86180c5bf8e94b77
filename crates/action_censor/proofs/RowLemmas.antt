-- The rows that steps are about, and which of them were there before.
use Rattle.std.proofs.Common.{ℕ, zero, suc, ◌+◌, ◌<◌, Bool, true, false, cond, not, ◌&&◌, ◌||◌, List, [], ◌∷◌, ◌++◌, map, filter, take, length, get_or, ◌≡◌, refl, sym, ap, ◌∙◌, Option, Some, None, unwrap_or, nat_eq, arith}
use Rattle.std.proofs.lemmas.Bool.{and_parts}
use Rattle.std.proofs.lemmas.List.{map-append, take_more}
use Rattle.std.proofs.lemmas.List.Elements.{filter-append}
use Rattle.std.proofs.lemmas.List.Folds.{list_any-append}
use Rattle.std.specs.List.{list_any}
use Rattle.std.specs.Str.{bytes_eq}
use Rattle.cell_types.specs.declared.cell.CellOld.{CellOld}
use Rattle.doc_model.specs.declared.action.DocAction.{DocAction}
use Rattle.doc_model.specs.declared.action.DocAction.TheVariants.{BulkAdd, BulkUpdate, BulkRemove, AddTable, RemoveTable, RenameTable, AddColumn, RemoveColumn, RenameColumn, ModifyColumn}
use Rattle.doc_model.specs.Records.{or_else}
use Rattle.doc_model.specs.Rows.{has, insert_rows, without, IsAscending}
use Rattle.doc_model.specs.Touched.{is_about, names_table}
use Rattle.doc_model.proofs.RowsLaws.{has-filter, has-insert_rows}
use Rattle.censored_view.proofs.SortedRows.{among}
use Rattle.censored_view.proofs.RowWalk.{map_one}
use Rattle.action_censor.specs.Back.{all_rows_back, rows_back}
use Rattle.action_censor.specs.Step.{Step, are_records, is_in_row, is_of_records, is_row_in, is_row_of}
use Rattle.action_censor.specs.Touched.{cell_rows, first_there, rows_in, rows_named, rows_told, told_there}

-- ---- the rows that steps are about

cell_rows-has : (cells : List CellOld) (t : List ℕ) (r : ℕ) → has (cell_rows cells t) r ≡ list_any (is_in_row t r) cells
cell_rows-has [] t r = refl
cell_rows-has (o ∷ cells) t r =
    elim (bytes_eq o.cell.table t) as (λ b. has (cond b (o.cell.row ∷ []) [] ++ cell_rows cells t) r ≡ ((b && nat_eq o.cell.row r) || list_any (is_in_row t r) cells)) [
      | true ↦ ap (λ b. nat_eq o.cell.row r || b) (cell_rows-has cells t r)
      | false ↦ cell_rows-has cells t r
    ]

about_rows : (a : DocAction) (r : ℕ) → is_of_records a ≡ true → is_about a r ≡ has (rows_named a) r
about_rows (BulkAdd table rows ks) r is = refl
about_rows (BulkUpdate table rows ks) r is = refl
about_rows (BulkRemove table rows) r is = refl
about_rows (AddTable table row columns) r is = absurd (cc)
about_rows (RemoveTable table) r is = absurd (cc)
about_rows (RenameTable table new) r is = absurd (cc)
about_rows (AddColumn table d) r is = absurd (cc)
about_rows (RemoveColumn table column) r is = absurd (cc)
about_rows (RenameColumn table column new) r is = absurd (cc)
about_rows (ModifyColumn table column info) r is = absurd (cc)

chosen_has : (b : Bool) (rows : List ℕ) (r : ℕ) → has (cond b rows []) r ≡ (b && has rows r)
chosen_has true rows r = refl
chosen_has false rows r = refl

row_in-has : (k : Step) (t : List ℕ) (r : ℕ) → is_of_records k.action ≡ true → has (rows_in k t) r ≡ is_row_in k t r
row_in-has k t r is =
    list_any-append (λ q. nat_eq q r) (cond (names_table k.action t) (rows_named k.action) []) (cell_rows k.cells t)
    ∙ ap (λ b. b || has (cell_rows k.cells t) r) (chosen_has (names_table k.action t) (rows_named k.action) r ∙ ap (λ b. names_table k.action t && b) (sym (about_rows k.action r is)))
    ∙ ap (λ b. (names_table k.action t && is_about k.action r) || b) (cell_rows-has k.cells t r)

rows_told-has : (ks : List Step) (t : List ℕ) (r : ℕ) → are_records ks ≡ true → has (rows_told ks t) r ≡ is_row_of ks t r
rows_told-has [] t r is = refl
rows_told-has (k ∷ ks) t r is =
    let two : (is_of_records k.action ≡ true) × (are_records ks ≡ true) = and_parts (is_of_records k.action) (are_records ks) is in
    list_any-append (λ q. nat_eq q r) (rows_in k t) (rows_told ks t)
    ∙ ap (λ b. b || has (rows_told ks t) r) (row_in-has k t r two.0)
    ∙ ap (λ b. is_row_in k t r || b) (rows_told-has ks t r two.1)

filter_same : (p q : ℕ → Bool) → ((r : ℕ) → p r ≡ q r) → (rows : List ℕ) → filter p rows ≡ filter q rows
filter_same p q same [] = refl
filter_same p q same (r ∷ rows) = ap (λ b. cond b (r ∷ filter p rows) (filter p rows)) (same r) ∙ ap (λ l. cond (q r) (r ∷ l) l) (filter_same p q same rows)

-- those of a table's rows that steps are about, by what is sorted
pub touched_among : (ks : List Step) (t touched rows there : List ℕ) → are_records ks ≡ true → IsAscending touched → IsAscending rows → ((q : ℕ) → has touched q ≡ has (rows_told ks t) q)
    → there ≡ filter (has rows) touched → there ≡ filter (is_row_of ks t) rows
touched_among ks t touched rows there records up up' same is =
    among (rows_told ks t) touched rows there up up' same is
    ∙ filter_same (has (rows_told ks t)) (is_row_of ks t) (λ r. rows_told-has ks t r records) rows

-- ---- whether a row was there

told_row : (b h n : Bool) → (not (b && h) && n) ≡ unwrap_or (cond (b && h) (Some false) None) n
told_row true true n = refl
told_row true false n = refl
told_row false h n = refl

back_has : (a : DocAction) (t now : List ℕ) (r : ℕ) → has (rows_back a t now) r ≡ unwrap_or (told_there a t r) (has now r)
back_has (BulkAdd table rows ks) t now r =
    elim (bytes_eq table t) as (λ b. has (cond b (without rows now) now) r ≡ unwrap_or (cond (b && has rows r) (Some false) None) (has now r)) [
      | true ↦ has-filter (λ q. not (has rows q)) now r ∙ told_row true (has rows r) (has now r)
      | false ↦ refl
    ]
back_has (BulkUpdate table rows ks) t now r = refl
back_has (BulkRemove table rows) t now r =
    elim (bytes_eq table t) as (λ b. has (cond b (insert_rows rows now) now) r ≡ unwrap_or (cond (b && has rows r) (Some true) None) (has now r)) [
      | true ↦ has-insert_rows rows now r ∙ elim (has rows r) as (λ b. (b || has now r) ≡ unwrap_or (cond b (Some true) None) (has now r)) [ true ↦ refl | false ↦ refl ]
      | false ↦ refl
    ]
back_has (AddTable table row columns) t now r = refl
back_has (RemoveTable table) t now r = refl
back_has (RenameTable table new) t now r = refl
back_has (AddColumn table d) t now r = refl
back_has (RemoveColumn table column) t now r = refl
back_has (RenameColumn table column new) t now r = refl
back_has (ModifyColumn table column info) t now r = refl

either : (o p : Option Bool) (n : Bool) → unwrap_or (or_else o p) n ≡ unwrap_or o (unwrap_or p n)
either None p n = refl
either (Some b) p n = refl

pub first_there-has : (ks : List Step) (t now : List ℕ) (r : ℕ) → unwrap_or (first_there ks t r) (has now r) ≡ has (all_rows_back ks t now) r
first_there-has [] t now r = refl
first_there-has (k ∷ ks) t now r =
    either (told_there k.action t r) (first_there ks t r) (has now r)
    ∙ ap (unwrap_or (told_there k.action t r)) (first_there-has ks t now r)
    ∙ sym (back_has k.action t (all_rows_back ks t now) r)

-- ---- rows that are kept, one after another

read_again : (xs : List ℕ) (i : ℕ) → i < length xs → get_or xs i 0 ≡ get_or xs i (get_or xs i 0)
read_again [] i lt = absurd (omega (arith, lt))
read_again (z ∷ xs) zero lt = refl
read_again (z ∷ xs) (suc i) lt = read_again xs i (omega (arith, lt))

-- one number more, where it passes
pub kept_next : {Y : Type 0} (p : ℕ → Bool) (f : ℕ → Y) (rs : List ℕ) (i : ℕ) (ys zs : List Y) → i < length rs → ys ≡ map f (filter p (take i rs))
    → zs ≡ ys ++ cond (p (get_or rs i 0)) (f (get_or rs i 0) ∷ []) [] → zs ≡ map f (filter p (take (i + 1) rs))
kept_next p f rs i ys zs lt so made =
    let r : ℕ = get_or rs i 0 in
    let one : take (i + 1) rs ≡ take i rs ++ r ∷ [] = take_more rs i r lt ∙ ap (λ z. take i rs ++ z ∷ []) (sym (read_again rs i lt)) in
    made ∙ ap (λ l. l ++ cond (p r) (f r ∷ []) []) so
    ∙ ap (λ l. map f (filter p (take i rs)) ++ l) (sym (map_one f (p r) r))
    ∙ sym (map-append f (filter p (take i rs)) (cond (p r) (r ∷ []) []))
    ∙ ap (map f) (sym (filter-append p (take i rs) (r ∷ [])))
    ∙ ap (λ l. map f (filter p l)) (sym one)
