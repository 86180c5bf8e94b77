-- The cells that an action may lose, as they are listed table by table, column by column.
use Rattle.std.proofs.Common.{ℕ, zero, suc, drop, slice_get, append_assoc, Bool, true, false, cond, not, ◌||◌, ◌&&◌, List, [], ◌∷◌, ◌++◌, map, filter, ◌≡◌, refl, sym, ap, ◌∙◌, Option, Some, None}
use Rattle.std.proofs.lemmas.Bool.{false≢true, true≢false, or_parts, or_right}
use Rattle.std.proofs.lemmas.List.{append-nil}
use Rattle.std.proofs.lemmas.List.Elements.{filter-append}
use Rattle.std.proofs.lemmas.Slice.Eq.{bytes_eq-Decides}
use Rattle.std.specs.Option.{is_some}
use Rattle.std.specs.Str.{bytes_eq}
use Rattle.cell_types.specs.declared.cell.CellOld.{CellOld}
use Rattle.doc_model.specs.declared.action.DocAction.{DocAction}
use Rattle.doc_model.specs.declared.action.DocAction.TheVariants.{BulkAdd, BulkUpdate, BulkRemove, AddTable, RemoveTable, RenameTable, AddColumn, RemoveColumn, RenameColumn, ModifyColumn}
use Rattle.doc_model.specs.declared.column.ColDef.{ColDef}
use Rattle.doc_model.specs.ByIds.{find_id, has_id, IsByIds}
use Rattle.doc_model.specs.Column.{column_id, column_row}
use Rattle.doc_model.specs.Document.{Table, Document, table_id}
use Rattle.doc_model.specs.Grid.{Grid, cell}
use Rattle.doc_model.specs.MetadataIds.{tables_id, columns_id}
use Rattle.doc_model.specs.Rows.{has}
use Rattle.doc_model.specs.Schema.{no_grid}
use Rattle.doc_model.specs.Touched.{columns_touched, columns_described, column_described}
use Rattle.doc_model.proofs.Choices.{each_filter}
use Rattle.doc_model.proofs.ByIdsLaws.{found_id, found_all, has_found, has_id-find, has_id-by_id, has_id-map, find_absent, same_by_ids, IsByIds-filter, IsByIds-by_id, apart_has, has_apart}
use Rattle.doc_readers.specs.Parts.{grid_at}
use Rattle.recalc.specs.Cells.{cell_of}
use Rattle.recalc.specs.Current.{has_formula, has_formulas}
use Rattle.recalc.specs.InOrder.{in_order, itself}
use Rattle.recalc.specs.Lost.{all_cells, cells_at, columns_cells, table_cells, tables_cells}
use Rattle.recalc.specs.MayLose.{is_adding, is_record, tables_written, may_lose, may_lose_all, may_lose_at, may_lose_column, may_lose_data, may_lose_in, may_lose_row, rows_to_lose}
use Rattle.recalc.specs.Watched.{is_computed}
use Rattle.recalc.proofs.PlainLemmas.{any_none}

-- ---- truth values

and_none : (a : Bool) → (a && false) ≡ false
and_none true = refl
and_none false = refl

-- ---- lists made of lists

abbrev pub flat : {X Y : Type 0} → (X → List Y) → List X → List Y
flat f [] = []
flat f (x ∷ xs) = f x ++ flat f xs

-- what gives nothing may be left out
flat-filter : {X Y : Type 0} (f : X → List Y) (q : X → Bool) (xs : List X) → ((x : X) → q x ≡ false → f x ≡ []) → flat f xs ≡ flat f (filter q xs)
flat-filter f q [] h = refl
flat-filter f q (x ∷ xs) h =
    elim (q x) as (λ b. q x ≡ b → f x ++ flat f xs ≡ flat f (cond b (x ∷ filter q xs) (filter q xs))) [
      | true ↦ λ _. ap (λ l. f x ++ l) (flat-filter f q xs h)
      | false ↦ λ isnot. ap (λ l. l ++ flat f xs) (h x isnot) ∙ flat-filter f q xs h
    ] refl

flat_none : {X Y : Type 0} (f : X → List Y) (xs : List X) → ((x : X) → f x ≡ []) → flat f xs ≡ []
flat_none f [] h = refl
flat_none f (x ∷ xs) h = ap (λ l. l ++ flat f xs) (h x) ∙ flat_none f xs h

has_id-filter : (q : List ℕ → Bool) (xs : List (List ℕ)) (c : List ℕ) → has_id itself (filter q xs) c ≡ (q c && has_id itself xs c)
has_id-filter q [] c = sym (and_none (q c))
has_id-filter q (x ∷ xs) c =
    elim (q x) as (λ b. q x ≡ b → has_id itself (cond b (x ∷ filter q xs) (filter q xs)) c ≡ (q c && (bytes_eq x c || has_id itself xs c))) [
      | true ↦ λ is. elim (bytes_eq x c) as (λ e. bytes_eq x c ≡ e → (e || has_id itself (filter q xs) c) ≡ (q c && (e || has_id itself xs c))) [
        | true ↦ λ same. ap (λ b. b && true) (sym is ∙ ap q ((bytes_eq-Decides x c).0 same))
        | false ↦ λ _. has_id-filter q xs c
      ] refl
      | false ↦ λ isnt. elim (bytes_eq x c) as (λ e. bytes_eq x c ≡ e → has_id itself (filter q xs) c ≡ (q c && (e || has_id itself xs c))) [
        | true ↦ λ same. let isnot : q c ≡ false = sym (ap q ((bytes_eq-Decides x c).0 same)) ∙ isnt in has_id-filter q xs c ∙ ap (λ b. b && has_id itself xs c) isnot ∙ sym (ap (λ b. b && true) isnot)
        | false ↦ λ _. has_id-filter q xs c
      ] refl
    ] refl

find_itself : (xs : List (List ℕ)) (c : List ℕ) → find_id itself c xs ≡ cond (has_id itself xs c) (Some c) None
find_itself [] c = refl
find_itself (x ∷ xs) c =
    elim (bytes_eq x c) as (λ e. bytes_eq x c ≡ e → cond e (Some x) (find_id itself c xs) ≡ cond (e || has_id itself xs c) (Some c) None) [
      | true ↦ λ same. ap (λ y. Some y) ((bytes_eq-Decides x c).0 same)
      | false ↦ λ _. find_itself xs c
    ] refl

same_ids : (xs ys : List (List ℕ)) → IsByIds itself xs → IsByIds itself ys → ((c : List ℕ) → has_id itself xs c ≡ has_id itself ys c) → xs ≡ ys
same_ids xs ys a b h = same_by_ids itself xs ys a b (λ c. find_itself xs c ∙ ap (λ e. cond e (Some c) None) (h c) ∙ sym (find_itself ys c))

-- two lists of ids in order give the same, where they have the same of those that give something
same_flat : {Y : Type 0} (f : List ℕ → List Y) (q : List ℕ → Bool) (xs ys : List (List ℕ)) → IsByIds itself xs → IsByIds itself ys → ((c : List ℕ) → q c ≡ false → f c ≡ [])
    → ((c : List ℕ) → (q c && has_id itself xs c) ≡ (q c && has_id itself ys c)) → flat f xs ≡ flat f ys
same_flat f q xs ys a b none same =
    flat-filter f q xs none
    ∙ ap (flat f) (same_ids (filter q xs) (filter q ys) (IsByIds-filter itself q xs a) (IsByIds-filter itself q ys b) (λ c. has_id-filter q xs c ∙ same c ∙ sym (has_id-filter q ys c)))
    ∙ sym (flat-filter f q ys none)

and_twice : (a b : Bool) → (a && (a && b)) ≡ (a && b)
and_twice true b = refl
and_twice false b = refl

-- ids in order that give nothing may be left out
pub ids_enough : {Y : Type 0} (f : List ℕ → List Y) (q : List ℕ → Bool) (ids : List (List ℕ)) → ((c : List ℕ) → q c ≡ false → f c ≡ []) → flat f (in_order (filter q ids)) ≡ flat f (in_order ids)
ids_enough f q ids none =
    same_flat f q (in_order (filter q ids)) (in_order ids) (IsByIds-by_id itself (filter q ids)) (IsByIds-by_id itself ids) none
    (λ c.
    ap (λ b. q c && b) (has_id-by_id itself (filter q ids) c ∙ has_id-filter q ids c)
    ∙ and_twice (q c) (has_id itself ids c)
    ∙ sym (ap (λ b. q c && b) (has_id-by_id itself ids c)))

-- ---- a walk that keeps what passes

drop_there : {X : Type 0} (xs : List X) (i : ℕ) (x : X) → slice_get xs i ≡ Some x → drop i xs ≡ x ∷ drop (suc i) xs
drop_there [] zero x h = absurd (cc)
drop_there [] (suc i) x h = absurd (cc)
drop_there (y ∷ ys) zero x h = let same : y ≡ x = cc in ap (λ z. z ∷ ys) same
drop_there (y ∷ ys) (suc i) x h = drop_there ys i x h

drop_past : {X : Type 0} (xs : List X) (i : ℕ) → slice_get xs i ≡ None → drop i xs ≡ []
drop_past [] zero h = refl
drop_past [] (suc i) h = refl
drop_past (y ∷ ys) zero h = absurd (cc)
drop_past (y ∷ ys) (suc i) h = drop_past ys i h

module _ {X Y : Type 0} (kept : List X → List Y) (p : X → Bool) (f : X → Y) (step : (x : X) (xs : List X) → kept (x ∷ xs) ≡ cond (p x) (f x ∷ kept xs) (kept xs)) (all : List X) (ys : List Y) (i : ℕ) (so : ys ++ kept (drop i all) ≡ kept all) where
  pub kept_next : (zs : List Y) (j : ℕ) (x : X) (b : Bool) (y : Y) → j ≡ suc i → slice_get all i ≡ Some x → b ≡ p x → y ≡ f x → zs ≡ ys ++ cond b (y ∷ []) [] → zs ++ kept (drop j all) ≡ kept all
  kept_next zs j x b y next at test is made =
      ap (λ l. l ++ kept (drop j all)) (made ∙ ap (λ z. ys ++ cond b (z ∷ []) []) is ∙ ap (λ t. ys ++ cond t (f x ∷ []) []) test)
      ∙ append_assoc ys (cond (p x) (f x ∷ []) []) (kept (drop j all))
      ∙ ap (λ l. ys ++ l)
      (elim (p x) as (λ t. cond t (f x ∷ []) [] ++ kept (drop j all) ≡ cond t (f x ∷ kept (drop j all)) (kept (drop j all))) [ true ↦ refl | false ↦ refl ]
      ∙ sym (step x (drop j all)) ∙ ap (λ n. kept (x ∷ drop n all)) next ∙ ap kept (sym (drop_there all i x at)))
      ∙ so

  pub kept_end : kept [] ≡ [] → slice_get all i ≡ None → ys ≡ kept all
  kept_end none past = sym (append-nil ys) ∙ ap (λ l. ys ++ l) (sym none ∙ ap kept (sym (drop_past all i past))) ∙ so

-- ---- what is found among those that pass

has_filtered : {X : Type 0} (id : X → List ℕ) (p : X → Bool) (c : List ℕ) (xs : List X) (x : X) → find_id id c xs ≡ Some x → p x ≡ true → has_id id (filter p xs) c ≡ true
has_filtered id p c [] x at is = absurd (cc)
has_filtered id p c (y ∷ ys) x at is =
    elim (bytes_eq (id y) c) as (λ e. bytes_eq (id y) c ≡ e → cond e (Some y) (find_id id c ys) ≡ Some x → has_id id (cond (p y) (y ∷ filter p ys) (filter p ys)) c ≡ true) [
      | true ↦ λ named at.
          let same : y ≡ x = cc in
          ap (λ b. has_id id (cond b (y ∷ filter p ys) (filter p ys)) c) (ap p same ∙ is) ∙ ap (λ b. b || has_id id (filter p ys) c) named
      | false ↦ λ _ at.
          let rest : has_id id (filter p ys) c ≡ true = has_filtered id p c ys x at is in
          elim (p y) as (λ b. has_id id (cond b (y ∷ filter p ys) (filter p ys)) c ≡ true) [ true ↦ or_right (bytes_eq (id y) c) (has_id id (filter p ys) c) rest | false ↦ rest ]
    ] refl at

none_filtered : {X : Type 0} (id : X → List ℕ) (p : X → Bool) (c : List ℕ) (xs : List X) → has_id id xs c ≡ false → has_id id (filter p xs) c ≡ false
none_filtered id p c xs h = has_apart id c (filter p xs) (each_filter (λ y. bytes_eq c (id y) ≡ false) p xs (apart_has id c xs h))

-- ---- whether a column is a formula column

module _ (v : Document) where
  pub computed_by : (t c : List ℕ) → is_computed v (cell_of t c 0) ≡ elim (find_id column_id c (grid_at v t).columns) as (λ _. Bool) [ None ↦ false | Some d ↦ d.info.is_formula ]
  computed_by t c =
      elim (find_id table_id t v) as (λ (o : Option Table). elim (elim o as (λ _. Option ColDef) [ None ↦ None | Some u ↦ find_id column_id c u.grid.columns ]) as (λ _. Bool) [ None ↦ false | Some d ↦ d.info.is_formula ]
      ≡ elim (find_id column_id c (elim o as (λ _. Grid ColDef) [ None ↦ no_grid | Some u ↦ u.grid ]).columns) as (λ _. Bool) [ None ↦ false | Some d ↦ d.info.is_formula ]) [ None ↦ refl | Some u ↦ refl ]

  pub no_formula : (t c : List ℕ) → has_formula (grid_at v t).columns ≡ false → is_computed v (cell_of t c 0) ≡ false
  no_formula t c plain = computed_by t c ∙ by (find_id column_id c (grid_at v t).columns) refl
    where
      by : (o : Option ColDef) → find_id column_id c (grid_at v t).columns ≡ o → elim o as (λ _. Bool) [ None ↦ false | Some d ↦ d.info.is_formula ] ≡ false
      by None e = refl
      by (Some d) e = found_all column_id (λ d. d.info.is_formula ≡ false) c (grid_at v t).columns d (any_none (λ (d : ColDef). d.info.is_formula) (grid_at v t).columns plain) e

-- ---- the cells that pass a test, column by column and table by table

module _ (v : Document) (p : CellOld → Bool) where
  abbrev pub column_passing : List ℕ → List ℕ → List CellOld
  column_passing t c = filter p (cells_at t (grid_at v t) c (grid_at v t).rows)

  abbrev pub table_passing : List ℕ → List CellOld
  table_passing t = filter p (table_cells v t)

  pub columns_passing : (t : List ℕ) (cs : List (List ℕ)) → filter p (columns_cells t (grid_at v t) cs) ≡ flat (column_passing t) cs
  columns_passing t [] = refl
  columns_passing t (c ∷ cs) = filter-append p (cells_at t (grid_at v t) c (grid_at v t).rows) (columns_cells t (grid_at v t) cs) ∙ ap (λ l. column_passing t c ++ l) (columns_passing t cs)

  pub tables_passing : (ts : List (List ℕ)) → filter p (tables_cells v ts) ≡ flat table_passing ts
  tables_passing [] = refl
  tables_passing (t ∷ ts) = filter-append p (table_cells v t) (tables_cells v ts) ∙ ap (λ l. table_passing t ++ l) (tables_passing ts)

module _ (v : Document) (a : DocAction) where
  abbrev pub column_losing : List ℕ → List ℕ → List CellOld
  column_losing t c = column_passing v (may_lose v a) t c

  abbrev pub table_losing : List ℕ → List CellOld
  table_losing t = table_passing v (may_lose v a) t

  pub columns_flat : (t : List ℕ) (cs : List (List ℕ)) → filter (may_lose v a) (columns_cells t (grid_at v t) cs) ≡ flat (column_losing t) cs
  columns_flat t cs = columns_passing v (may_lose v a) t cs

  pub tables_flat : (ts : List (List ℕ)) → filter (may_lose v a) (tables_cells v ts) ≡ flat table_losing ts
  tables_flat ts = tables_passing v (may_lose v a) ts

  -- ---- one column

  abbrev cell_there : List ℕ → List ℕ → ℕ → CellOld
  cell_there t c r = record { cell = cell_of t c r; old = cell column_id (grid_at v t) c r }

  abbrev losing : List ℕ → List ℕ → List ℕ → List CellOld
  losing t c rows = filter (may_lose v a) (cells_at t (grid_at v t) c rows)

  -- with these answers of the tests
  abbrev chosen : List ℕ → List ℕ → ℕ → List ℕ → Bool → Bool → Bool → List CellOld
  chosen t c r rows computed column row = cond (computed || (column && row)) (cell_there t c r ∷ losing t c rows) (losing t c rows)

  pub column_computed : (t c : List ℕ) → is_computed v (cell_of t c 0) ≡ true → (rows : List ℕ) → losing t c rows ≡ cells_at t (grid_at v t) c rows
  column_computed t c is [] = refl
  column_computed t c is (r ∷ rows) =
      ap (λ b. chosen t c r rows b (may_lose_column a c) (may_lose_row v a t r)) is
      ∙ ap (λ l. cell_there t c r ∷ l) (column_computed t c is rows)

  pub column_written : (t c : List ℕ) → is_computed v (cell_of t c 0) ≡ false → may_lose_column a c ≡ true → (rows : List ℕ) → losing t c rows ≡ cells_at t (grid_at v t) c (filter (may_lose_row v a t) rows)
  column_written t c isnt is [] = refl
  column_written t c isnt is (r ∷ rows) =
      ap (λ b. chosen t c r rows b (may_lose_column a c) (may_lose_row v a t r)) isnt
      ∙ ap (λ b. chosen t c r rows false b (may_lose_row v a t r)) is
      ∙ elim (may_lose_row v a t r) as (λ b. chosen t c r rows false true b ≡ cells_at t (grid_at v t) c (cond b (r ∷ filter (may_lose_row v a t) rows) (filter (may_lose_row v a t) rows))) [
        | true ↦ ap (λ l. cell_there t c r ∷ l) (column_written t c isnt is rows)
        | false ↦ column_written t c isnt is rows
      ]

  pub column_left : (t c : List ℕ) → is_computed v (cell_of t c 0) ≡ false → may_lose_column a c ≡ false → (rows : List ℕ) → losing t c rows ≡ []
  column_left t c isnt isnot [] = refl
  column_left t c isnt isnot (r ∷ rows) =
      ap (λ b. chosen t c r rows b (may_lose_column a c) (may_lose_row v a t r)) isnt
      ∙ ap (λ b. chosen t c r rows false b (may_lose_row v a t r)) isnot
      ∙ column_left t c isnt isnot rows

  rows_left : (t c : List ℕ) → is_computed v (cell_of t c 0) ≡ false → ((r : ℕ) → may_lose_row v a t r ≡ false) → (rows : List ℕ) → losing t c rows ≡ []
  rows_left t c isnt isnot [] = refl
  rows_left t c isnt isnot (r ∷ rows) =
      ap (λ b. chosen t c r rows b (may_lose_column a c) (may_lose_row v a t r)) isnt
      ∙ ap (λ b. chosen t c r rows false (may_lose_column a c) b) (isnot r)
      ∙ ap (λ b. cond b (cell_there t c r ∷ losing t c rows) (losing t c rows)) (and_none (may_lose_column a c))
      ∙ rows_left t c isnt isnot rows

  -- no row of an action that only adds
  pub rows_none : (t : List ℕ) → is_adding a ≡ true → (rows : List ℕ) → [] ≡ filter (may_lose_row v a t) rows
  rows_none t adds [] = refl
  rows_none t adds (r ∷ rows) =
      rows_none t adds rows
      ∙ sym (ap (λ b. cond (not b && (may_lose_all a t || has (rows_to_lose v a t) r)) (r ∷ filter (may_lose_row v a t) rows) (filter (may_lose_row v a t) rows)) adds)

  pub rows_all : (t : List ℕ) → is_adding a ≡ false → may_lose_all a t ≡ true → (rows : List ℕ) → rows ≡ filter (may_lose_row v a t) rows
  rows_all t keeps is [] = refl
  rows_all t keeps is (r ∷ rows) =
      ap (λ l. r ∷ l) (rows_all t keeps is rows)
      ∙ sym (ap (λ b. cond (not b && (may_lose_all a t || has (rows_to_lose v a t) r)) (r ∷ filter (may_lose_row v a t) rows) (filter (may_lose_row v a t) rows)) keeps
      ∙ ap (λ b. cond (b || has (rows_to_lose v a t) r) (r ∷ filter (may_lose_row v a t) rows) (filter (may_lose_row v a t) rows)) is)

  -- ---- the columns of a table

  columns_same : (t c : List ℕ) → ((is_computed v (cell_of t c 0) || may_lose_column a c) && has_id column_id (filter (may_lose_at a) (grid_at v t).columns) c)
      ≡ ((is_computed v (cell_of t c 0) || may_lose_column a c) && has_id column_id (grid_at v t).columns c)
  columns_same t c = by (find_id column_id c (grid_at v t).columns) refl
    where
      ds : List ColDef
      ds = (grid_at v t).columns

      by : (o : Option ColDef) → find_id column_id c ds ≡ o
          → ((is_computed v (cell_of t c 0) || may_lose_column a c) && has_id column_id (filter (may_lose_at a) ds) c) ≡ ((is_computed v (cell_of t c 0) || may_lose_column a c) && has_id column_id ds c)
      by None e =
          let isnot : has_id column_id ds c ≡ false = has_id-find column_id c ds ∙ ap is_some e in
          ap (λ b. (is_computed v (cell_of t c 0) || may_lose_column a c) && b) (none_filtered column_id (may_lose_at a) c ds isnot ∙ sym isnot)
      by (Some d) e =
          let test : (is_computed v (cell_of t c 0) || may_lose_column a c) ≡ may_lose_at a d
          = ap (λ b. b || may_lose_column a c) (computed_by v t c ∙ ap (λ (o : Option ColDef). elim o as (λ _. Bool) [ None ↦ false | Some d ↦ d.info.is_formula ]) e)
          ∙ ap (λ n. d.info.is_formula || may_lose_column a n) (sym (found_id column_id c ds d e)) in
          ap (λ b. b && has_id column_id (filter (may_lose_at a) ds) c) test
          ∙ elim (may_lose_at a d) as (λ b. may_lose_at a d ≡ b → (b && has_id column_id (filter (may_lose_at a) ds) c) ≡ (b && has_id column_id ds c)) [
            | true ↦ λ is. has_filtered column_id (may_lose_at a) c ds d e is ∙ sym (has_found column_id c ds d e)
            | false ↦ λ _. refl
          ] refl
          ∙ ap (λ b. b && has_id column_id ds c) (sym test)

  column_nothing : (t c : List ℕ) → (is_computed v (cell_of t c 0) || may_lose_column a c) ≡ false → column_losing t c ≡ []
  column_nothing t c isnot = let two = or_parts (is_computed v (cell_of t c 0)) (may_lose_column a c) isnot in column_left t c two.0 two.1 (grid_at v t).rows

  -- those that may lose some are enough
  pub table_columns : (t : List ℕ) → flat (column_losing t) (in_order (map column_id (filter (may_lose_at a) (grid_at v t).columns))) ≡ table_losing t
  table_columns t =
      same_flat (column_losing t) (λ c. is_computed v (cell_of t c 0) || may_lose_column a c)
      (in_order (map column_id (filter (may_lose_at a) (grid_at v t).columns))) (in_order (map column_id (grid_at v t).columns))
      (IsByIds-by_id itself (map column_id (filter (may_lose_at a) (grid_at v t).columns))) (IsByIds-by_id itself (map column_id (grid_at v t).columns)) (column_nothing t)
      (λ c.
      ap (λ b. (is_computed v (cell_of t c 0) || may_lose_column a c) && b) (has_id-by_id itself (map column_id (filter (may_lose_at a) (grid_at v t).columns)) c ∙ has_id-map itself column_id (filter (may_lose_at a) (grid_at v t).columns) c)
      ∙ columns_same t c
      ∙ sym (ap (λ b. (is_computed v (cell_of t c 0) || may_lose_column a c) && b) (has_id-by_id itself (map column_id (grid_at v t).columns) c ∙ has_id-map itself column_id (grid_at v t).columns c)))
      ∙ sym (columns_flat t (in_order (map column_id (grid_at v t).columns)))

  -- ---- the tables

  table_nothing : (t : List ℕ) → has_formula (grid_at v t).columns ≡ false → ((r : ℕ) → may_lose_row v a t r ≡ false) → table_losing t ≡ []
  table_nothing t plain isnot =
      columns_flat t (in_order (map column_id (grid_at v t).columns))
      ∙ flat_none (column_losing t) (in_order (map column_id (grid_at v t).columns)) (λ c. rows_left t c (no_formula v t c plain) isnot (grid_at v t).rows)

-- ---- tables of which no data cells are lost

-- of an action on records
record_away : (n k : Bool) (rows : List ℕ) (r : ℕ) → n ≡ false → has (cond n rows [] ++ cond k [] []) r ≡ false
record_away true k rows r e = absurd (true≢false e)
record_away false true rows r e = refl
record_away false false rows r e = refl

-- of a schema action
schema_away : (n m k : Bool) (rows : List ℕ) (r : ℕ) → (n || (m || k)) ≡ false → ((n || m) || has (cond n [] [] ++ cond k rows []) r) ≡ false
schema_away true m k rows r e = absurd (true≢false e)
schema_away false true k rows r e = absurd (true≢false e)
schema_away false false true rows r e = absurd (true≢false e)
schema_away false false false rows r e = refl

or_end : (a : Bool) → (a || false) ≡ false → a ≡ false
or_end true e = absurd (true≢false e)
or_end false e = refl

pub no_data : (v : Document) (a : DocAction) (t : List ℕ) → may_lose_data a t ≡ false → (r : ℕ) → may_lose_row v a t r ≡ false
no_data v (BulkAdd table rows ks) t isnot r = refl
no_data v (BulkUpdate table rows ks) t isnot r = record_away (bytes_eq table t) (bytes_eq columns_id t) rows r (or_end (bytes_eq table t) isnot)
no_data v (BulkRemove table rows) t isnot r = record_away (bytes_eq table t) (bytes_eq columns_id t) rows r (or_end (bytes_eq table t) isnot)
no_data v (AddTable table row columns) t isnot r = refl
no_data v (RemoveTable table) t isnot r = schema_away (bytes_eq table t) (bytes_eq tables_id t) (bytes_eq columns_id t) (columns_touched v (RemoveTable table)) r isnot
no_data v (RenameTable table new) t isnot r = schema_away (bytes_eq table t || bytes_eq new t) (bytes_eq tables_id t) (bytes_eq columns_id t) (columns_touched v (RenameTable table new)) r isnot
no_data v (AddColumn table d) t isnot r = schema_away (bytes_eq table t) (bytes_eq tables_id t) (bytes_eq columns_id t) (columns_touched v (AddColumn table d)) r isnot
no_data v (RemoveColumn table column) t isnot r = schema_away (bytes_eq table t) (bytes_eq tables_id t) (bytes_eq columns_id t) (columns_touched v (RemoveColumn table column)) r isnot
no_data v (RenameColumn table column new) t isnot r = schema_away (bytes_eq table t) (bytes_eq tables_id t) (bytes_eq columns_id t) (columns_touched v (RenameColumn table column new)) r isnot
no_data v (ModifyColumn table column info) t isnot r = schema_away (bytes_eq table t) (bytes_eq tables_id t) (bytes_eq columns_id t) (columns_touched v (ModifyColumn table column info)) r isnot

module _ (v : Document) (a : DocAction) where
  in_nothing : (t : List ℕ) → may_lose_in v a t ≡ false → table_losing v a t ≡ []
  in_nothing t isnot = let two = or_parts (may_lose_data a t) (has_formula (grid_at v t).columns) isnot in table_nothing v a t two.1 (no_data v a t two.0)

  -- those that may lose some are enough
  pub tables_enough : filter (may_lose v a) (tables_cells v (in_order (filter (may_lose_in v a) (map table_id v)))) ≡ filter (may_lose v a) (all_cells v)
  tables_enough =
      tables_flat v a (in_order (filter (may_lose_in v a) (map table_id v)))
      ∙ ids_enough (table_losing v a) (may_lose_in v a) (map table_id v) in_nothing
      ∙ sym (tables_flat v a (in_order (map table_id v)))

-- ---- a record action where no column has a formula

module _ (v : Document) (plain : has_formulas v ≡ false) where
  pub plain_table : (t : List ℕ) → has_formula (grid_at v t).columns ≡ false
  plain_table t = by (find_id table_id t v) refl
    where
      by : (o : Option Table) → find_id table_id t v ≡ o → has_formula (elim o as (λ _. Grid ColDef) [ None ↦ no_grid | Some u ↦ u.grid ]).columns ≡ false
      by None e = refl
      by (Some u) e = found_all table_id (λ (t : Table). has_formula t.grid.columns ≡ false) t v u (any_none (λ (t : Table). has_formula t.grid.columns) v plain) e

  absent : (a : DocAction) (t : List ℕ) → has_id table_id v t ≡ false → table_losing v a t ≡ []
  absent a t isnot =
      ap (λ (o : Option Table). filter (may_lose v a) (columns_cells t (elim o as (λ _. Grid ColDef) [ None ↦ no_grid | Some u ↦ u.grid ]) (in_order (map column_id (elim o as (λ _. Grid ColDef) [ None ↦ no_grid | Some u ↦ u.grid ]).columns))))
      (find_absent table_id t v isnot)

  and_left : (x y : Bool) → (x && y) ≡ false → (x ≡ false → ⊥) → y ≡ false
  and_left true y e h = e
  and_left false y e h = absurd (h refl)

  nothing : (a : DocAction) (t : List ℕ) → (may_lose_data a t && has_id table_id v t) ≡ false → table_losing v a t ≡ []
  nothing a t isnot =
      elim (may_lose_data a t) as (λ b. may_lose_data a t ≡ b → (b && has_id table_id v t) ≡ false → table_losing v a t ≡ []) [
        | true ↦ λ _ e. absent a t e
        | false ↦ λ e _. table_nothing v a t (plain_table t) (no_data v a t e)
      ] refl isnot

  one_table : (n h : Bool) → (((n || false) && h) && (n || false)) ≡ (((n || false) && h) && h)
  one_table true true = refl
  one_table true false = refl
  one_table false h = refl

  written_has : (a : DocAction) → is_record a ≡ true → (t : List ℕ) → ((may_lose_data a t && has_id table_id v t) && has_id itself (tables_written a) t) ≡ ((may_lose_data a t && has_id table_id v t) && has_id table_id v t)
  written_has (BulkAdd table rows ks) is t = refl
  written_has (BulkUpdate table rows ks) is t = one_table (bytes_eq table t) (has_id table_id v t)
  written_has (BulkRemove table rows) is t = one_table (bytes_eq table t) (has_id table_id v t)
  written_has (AddTable table row columns) is t = absurd (false≢true is)
  written_has (RemoveTable table) is t = absurd (false≢true is)
  written_has (RenameTable table new) is t = absurd (false≢true is)
  written_has (AddColumn table d) is t = absurd (false≢true is)
  written_has (RemoveColumn table column) is t = absurd (false≢true is)
  written_has (RenameColumn table column new) is t = absurd (false≢true is)
  written_has (ModifyColumn table column info) is t = absurd (false≢true is)

  written_ordered : (a : DocAction) → IsByIds itself (tables_written a)
  written_ordered (BulkAdd table rows ks) = tt
  written_ordered (BulkUpdate table rows ks) = (tt, tt)
  written_ordered (BulkRemove table rows) = (tt, tt)
  written_ordered (AddTable table row columns) = tt
  written_ordered (RemoveTable table) = tt
  written_ordered (RenameTable table new) = tt
  written_ordered (AddColumn table d) = tt
  written_ordered (RemoveColumn table column) = tt
  written_ordered (RenameColumn table column new) = tt
  written_ordered (ModifyColumn table column info) = tt

  -- its own table is enough
  pub own_table : (a : DocAction) → is_record a ≡ true → filter (may_lose v a) (tables_cells v (tables_written a)) ≡ filter (may_lose v a) (all_cells v)
  own_table a is =
      tables_flat v a (tables_written a)
      ∙ same_flat (table_losing v a) (λ t. may_lose_data a t && has_id table_id v t) (tables_written a) (in_order (map table_id v)) (written_ordered a) (IsByIds-by_id itself (map table_id v)) (nothing a)
      (λ t. written_has a is t ∙ sym (ap (λ b. (may_lose_data a t && has_id table_id v t) && b) (has_id-by_id itself (map table_id v) t ∙ has_id-map itself table_id v t)))
      ∙ sym (tables_flat v a (in_order (map table_id v)))

-- what need not be looked at where no column has a formula
pub plain_column : (v : Document) (t c : List ℕ) (b : Bool) → (b ≡ true → has_formulas v ≡ false) → b ≡ true → not b ≡ is_computed v (cell_of t c 0)
plain_column v t c true plain e = sym (no_formula v t c (plain_table v (plain refl) t))
plain_column v t c false plain e = absurd (false≢true e)

pub plain_in : (v : Document) (a : DocAction) (t : List ℕ) (b : Bool) → (b ≡ true → has_formulas v ≡ false) → b ≡ true → may_lose_data a t ≡ false → not b ≡ may_lose_in v a t
plain_in v a t true plain e left = sym (ap (λ x. x || has_formula (grid_at v t).columns) left ∙ plain_table v (plain refl) t)
plain_in v a t false plain e left = absurd (false≢true e)

-- ---- rows that describe columns

pub described_by : (v : Document) (t : List ℕ) → map column_row (grid_at v t).columns ≡ columns_described v t
described_by v t =
    elim (find_id table_id t v) as (λ (o : Option Table). map column_row (elim o as (λ _. Grid ColDef) [ None ↦ no_grid | Some u ↦ u.grid ]).columns ≡ elim o as (λ _. List ℕ) [ None ↦ [] | Some u ↦ map column_row u.grid.columns ]) [ None ↦ refl | Some u ↦ refl ]

pub one_described : (v : Document) (t c : List ℕ) → elim (find_id column_id c (grid_at v t).columns) as (λ _. List ℕ) [ None ↦ [] | Some d ↦ d.row ∷ [] ] ≡ column_described v t c
one_described v t c =
    elim (find_id table_id t v) as (λ (o : Option Table). elim (find_id column_id c (elim o as (λ _. Grid ColDef) [ None ↦ no_grid | Some u ↦ u.grid ]).columns) as (λ _. List ℕ) [ None ↦ [] | Some d ↦ d.row ∷ [] ]
    ≡ elim o as (λ _. List ℕ) [ None ↦ [] | Some u ↦ elim (find_id column_id c u.grid.columns) as (λ _. List ℕ) [ None ↦ [] | Some d ↦ d.row ∷ [] ] ]) [ None ↦ refl | Some u ↦ refl ]
