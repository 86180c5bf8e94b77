-- A part of a view is made of rows.
use Rattle.std.proofs.Common.{ℕ, Bool, true, false, cond, ◌&&◌, List, [], ◌∷◌, map, filter, ◌≡◌, refl, sym, ap, ◌∙◌}
use Rattle.std.specs.Str.{bytes_eq}
use Rattle.cell_types.specs.declared.value.CellValue.{CellValue}
use Rattle.doc_model.specs.declared.view.ViewTable.{ViewTable}
use Rattle.doc_model.specs.declared.view.ViewCol.{ViewCol}
use Rattle.doc_model.specs.declared.column.ColDef.{ColDef}
use Rattle.doc_model.specs.ByIds.{AreDistinct, by_id, put_by_id, precedes}
use Rattle.doc_model.specs.Changes.{shown_table_id}
use Rattle.doc_model.specs.Document.{Document, Table, table_id}
use Rattle.doc_model.specs.Grid.{Grid}
use Rattle.doc_model.proofs.ByIdsLaws.{find-filter, find-filtered, IsByIds-by_id, IsByIds-filter, same_by_ids}
use Rattle.doc_model.proofs.ByRowLaws.{AreDistinct-filter}
use Rattle.doc_model.proofs.Choices.{each_mapped, keep, map-map}
use Rattle.plain_view.specs.PartsOfViews.{passing, passing_cells}
use Rattle.plain_view.proofs.PartLemmas.{map_every}
use Rattle.acl_formula.specs.RuleRow.{RuleRow}
use Rattle.censored_view.specs.Parts.{shown_part}
use Rattle.censored_view.specs.Readable.{Readable, row_of}
use Rattle.censored_view.specs.View.{is_row_shown, is_shown, shown_columns, shown_rows, shown_table, shown_value}
use Rattle.censored_view.specs.ViewLaws.{PartMadeLaw}
use Rattle.censored_view.proofs.PlacedLemmas.{find-by_id}
use Rattle.censored_view.proofs.ShownRows.{ids_made, made_of}

-- ---- lists of which some pass

passing_cells-map : (test : ℕ → Bool) (f : ℕ → List CellValue) (rows : List ℕ) → passing_cells test rows (map f rows) ≡ map f (filter test rows)
passing_cells-map test f [] = refl
passing_cells-map test f (r ∷ rows) =
    elim (test r) as (λ b. cond b (f r ∷ passing_cells test rows (map f rows)) (passing_cells test rows (map f rows)) ≡ map f (cond b (r ∷ filter test rows) (filter test rows))) [
      | true ↦ ap (λ l. f r ∷ l) (passing_cells-map test f rows)
      | false ↦ passing_cells-map test f rows
    ]

filter-map : {X Y : Type 0} (p : Y → Bool) (f : X → Y) (xs : List X) → filter p (map f xs) ≡ map f (filter (λ x. p (f x)) xs)
filter-map p f [] = refl
filter-map p f (x ∷ xs) =
    elim (p (f x)) as (λ b. cond b (f x ∷ filter p (map f xs)) (filter p (map f xs)) ≡ map f (cond b (x ∷ filter (λ x. p (f x)) xs) (filter (λ x. p (f x)) xs))) [
      | true ↦ ap (λ l. f x ∷ l) (filter-map p f xs)
      | false ↦ filter-map p f xs
    ]

filter-filter : {X : Type 0} (q p : X → Bool) (xs : List X) → filter q (filter p xs) ≡ filter (λ x. q x && p x) xs
filter-filter q p [] = refl
filter-filter q p (x ∷ xs) =
    elim (p x) as (λ b. filter q (cond b (x ∷ filter p xs) (filter p xs)) ≡ cond (q x && b) (x ∷ filter (λ x. q x && p x) xs) (filter (λ x. q x && p x) xs)) [
      | true ↦ elim (q x) as (λ c. cond c (x ∷ filter q (filter p xs)) (filter q (filter p xs)) ≡ cond (c && true) (x ∷ filter (λ x. q x && p x) xs) (filter (λ x. q x && p x) xs)) [
        | true ↦ ap (λ l. x ∷ l) (filter-filter q p xs)
        | false ↦ filter-filter q p xs
      ]
      | false ↦ filter-filter q p xs ∙ elim (q x) as (λ c. filter (λ x. q x && p x) xs ≡ cond (c && false) (x ∷ filter (λ x. q x && p x) xs) (filter (λ x. q x && p x) xs)) [ true ↦ refl | false ↦ refl ]
    ]

-- tests that agree keep the same
filter_same : {X : Type 0} (p q : X → Bool) → ((x : X) → p x ≡ q x) → (xs : List X) → filter p xs ≡ filter q xs
filter_same p q same [] = refl
filter_same p q same (x ∷ xs) = ap (λ b. cond b (x ∷ filter p xs) (filter p xs)) (same x) ∙ ap (λ l. cond (q x) (x ∷ l) l) (filter_same p q same xs)

and_swap : (a b : Bool) → (a && b) ≡ (b && a)
and_swap true true = refl
and_swap true false = refl
and_swap false true = refl
and_swap false false = refl

filter_swap : {X : Type 0} (q p : X → Bool) (xs : List X) → filter q (filter p xs) ≡ filter p (filter q xs)
filter_swap q p xs = filter-filter q p xs ∙ filter_same (λ x. q x && p x) (λ x. p x && q x) (λ x. and_swap (q x) (p x)) xs ∙ sym (filter-filter p q xs)

-- ---- one table

module _ (test : ℕ → Bool) (x : Readable) (id : List ℕ) (ds : List ViewCol) (g : Grid ColDef) (rs : List ℕ) where
  abbrev shows : RuleRow → Bool
  shows w = is_row_shown x ds w

  abbrev cells : RuleRow → List CellValue
  cells w = map (shown_value x w) ds

  abbrev whole : ViewTable
  whole = shown_rows x id ds (map (row_of g) rs)

  rows_passing : filter test whole.rows ≡ (shown_rows x id ds (map (row_of g) (filter test rs))).rows
  rows_passing =
      ap (filter test) (ids_made shows g rs)
      ∙ filter_swap test (λ r. shows (row_of g r)) rs
      ∙ sym (ids_made shows g (filter test rs))

  cells_passing : passing_cells test whole.rows whole.cells ≡ (shown_rows x id ds (map (row_of g) (filter test rs))).cells
  cells_passing =
      ap (λ rows. passing_cells test rows whole.cells) (ids_made shows g rs)
      ∙ ap (passing_cells test (filter (λ r. shows (row_of g r)) rs)) (made_of shows cells g rs)
      ∙ passing_cells-map test (λ r. cells (row_of g r)) (filter (λ r. shows (row_of g r)) rs)
      ∙ ap (map (λ r. cells (row_of g r))) (filter_swap test (λ r. shows (row_of g r)) rs)
      ∙ sym (made_of shows cells g (filter test rs))

  pub passing-shown : passing test whole ≡ shown_rows x id ds (map (row_of g) (filter test rs))
  passing-shown =
      ap (λ rows. let t : ViewTable = record { id = id; columns = ds; rows = rows; cells = passing_cells test whole.rows whole.cells } in t) rows_passing
      ∙ ap (λ cs. let t : ViewTable = record { id = id; columns = ds; rows = (shown_rows x id ds (map (row_of g) (filter test rs))).rows; cells = cs } in t) cells_passing

-- ---- tables by id

AreDistinct-made : (x : List ℕ → Readable) (s : Document) → AreDistinct table_id s → AreDistinct shown_table_id (map (λ (t : Table). shown_table (x t.id) t) s)
AreDistinct-made x [] d = tt
AreDistinct-made x (t ∷ s) d = (each_mapped (λ (y : ViewTable). bytes_eq t.id y.id ≡ false) (λ (t : Table). shown_table (x t.id) t) s d.0, AreDistinct-made x s d.1)

filter-by_id : {X : Type 0} (id : X → List ℕ) (p : X → Bool) (xs : List X) → AreDistinct id xs → filter p (by_id id xs) ≡ by_id id (filter p xs)
filter-by_id id p xs d =
    same_by_ids id (filter p (by_id id xs)) (by_id id (filter p xs)) (IsByIds-filter id p (by_id id xs) (IsByIds-by_id id xs)) (IsByIds-by_id id (filter p xs))
    (λ c. find-filter id p c (by_id id xs) (IsByIds-by_id id xs) ∙ ap (keep p) (find-by_id id c xs)
    ∙ sym (find-by_id id c (filter p xs) ∙ find-filtered id p c xs d))

module _ (test : List ℕ → ℕ → Bool) where
  abbrev passed : ViewTable → ViewTable
  passed t = passing (test t.id) t

  map-put_by_id : (x : ViewTable) (xs : List ViewTable) → map passed (put_by_id shown_table_id x xs) ≡ put_by_id shown_table_id (passed x) (map passed xs)
  map-put_by_id x [] = refl
  map-put_by_id x (y ∷ xs) =
      elim (precedes x.id y.id) as (λ b. map passed (cond b (x ∷ y ∷ xs) (cond (bytes_eq x.id y.id) (x ∷ xs) (y ∷ put_by_id shown_table_id x xs)))
      ≡ cond b (passed x ∷ passed y ∷ map passed xs) (cond (bytes_eq x.id y.id) (passed x ∷ map passed xs) (passed y ∷ put_by_id shown_table_id (passed x) (map passed xs)))) [
        | true ↦ refl
        | false ↦ elim (bytes_eq x.id y.id) as (λ b. map passed (cond b (x ∷ xs) (y ∷ put_by_id shown_table_id x xs)) ≡ cond b (passed x ∷ map passed xs) (passed y ∷ put_by_id shown_table_id (passed x) (map passed xs))) [
          | true ↦ refl
          | false ↦ ap (λ l. passed y ∷ l) (map-put_by_id x xs)
        ]
      ]

  map-by_id : (xs : List ViewTable) → map passed (by_id shown_table_id xs) ≡ by_id shown_table_id (map passed xs)
  map-by_id [] = refl
  map-by_id (x ∷ xs) = map-put_by_id x (by_id shown_table_id xs) ∙ ap (put_by_id shown_table_id (passed x)) (map-by_id xs)

-- ---- a part of a view

pub part_made : PartMadeLaw
part_made affected test x s laid =
    let passes : Table → Bool = λ t. is_shown (x t.id) t.grid.columns in
    let as_shown : Table → ViewTable = λ t. shown_table (x t.id) t in
    let named : Table → Bool = λ t. affected t.id in
    let told : ViewTable → Bool = λ t. affected t.id in
    let shown : List Table = filter passes s in
    sym (
    ap (map (passed test)) (
    filter-by_id shown_table_id told (map as_shown shown) (AreDistinct-made x shown (AreDistinct-filter table_id passes s laid.distinct))
    ∙ ap (by_id shown_table_id) (filter-map told as_shown shown ∙ ap (map as_shown) (filter-filter named passes s)))
    ∙ map-by_id test (map as_shown (filter (λ t. named t && passes t) s))
    ∙ ap (by_id shown_table_id) (
    sym (map-map (passed test) as_shown (filter (λ t. named t && passes t) s))
    ∙ map_every (λ t. passed test (as_shown t)) (λ t. shown_part (test t.id) (x t.id) t)
    (λ t. passing-shown (test t.id) (x t.id) t.id (shown_columns (x t.id) t.grid.columns) t.grid t.grid.rows) (filter (λ t. named t && passes t) s)))
