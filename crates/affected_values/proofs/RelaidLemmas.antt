-- A table laid beside other rows, in documents that differ in its rows.
use Rattle.std.proofs.Common.{ℕ, zero, suc, Bool, true, false, cond, List, [], ◌∷◌, map, set, length, slice_get, ◌≡◌, refl, sym, ap, ◌∙◌, subst, Option, Some, None}
use Rattle.std.proofs.lemmas.Bool.{true≢false}
use Rattle.std.proofs.lemmas.List.{length-map}
use Rattle.std.proofs.lemmas.Simd.{map-map}
use Rattle.std.proofs.lemmas.Slice.Eq.{bytes_eq-Decides}
use Rattle.std.specs.List.{AllByRecursion}
use Rattle.std.specs.Str.{bytes_eq}
use Rattle.cell_types.specs.declared.cell.CellId.{CellId}
use Rattle.doc_model.specs.declared.column.ColDef.{ColDef}
use Rattle.doc_model.specs.ByIds.{AreDistinct, find_id}
use Rattle.doc_model.specs.Column.{column_id}
use Rattle.doc_model.specs.Document.{Table, Document, on_grid, table_id, with_table}
use Rattle.doc_model.specs.Grid.{Grid}
use Rattle.doc_model.specs.Rows.{has}
use Rattle.doc_model.specs.Schema.{no_grid}
use Rattle.doc_model.proofs.ByIdsLaws.{bytes_apart}
use Rattle.doc_readers.specs.Parts.{grid_at}
use Rattle.recalc.specs.declared.kept.KeptColumn.{KeptColumn}
use Rattle.recalc.specs.declared.kept.KeptTable.{KeptTable}
use Rattle.recalc.specs.Kept.{ColumnShape, IsKeptOf, TableShape, blank_column, column_part, column_shape, held_at, held_column, held_table, kept_column_id, kept_table_id}
use Rattle.recalc.proofs.KeptLemmas.{column_blank, column_kept, none_each, shape_blank, shape_kept, table_of}
use Rattle.recalc.proofs.PlaceLemmas.{IsFirst, find-first, find-set, position_first}
use Rattle.recalc.proofs.ToldCells.{grid_found}
use Rattle.affected_values.specs.Relaid.{AreExchanged, IsTableExchanged, ColumnValues, aside_in, places_in}
use Rattle.affected_values.proofs.ExchangedLemmas.{held_after, left_after, left_places}

pub no_other : (x y : KeptTable) → Some x ≡ Some y → x ≡ y
no_other x y e = cc

pub none_there : (x : KeptTable) → None ≡ Some x → ⊥
none_there x e = cc

-- ---- documents that differ in the rows of one table

abbrev pub IsAlikeBut : List ℕ → Document → Document → Type 0
IsAlikeBut id [] [] = Unit {0}
IsAlikeBut id (t ∷ s) (u ∷ n) =
    (t.id ≡ u.id) × (t.grid.columns ≡ u.grid.columns) × (bytes_eq t.id id ≡ false → t.grid.rows ≡ u.grid.rows) × IsAlikeBut id s n
IsAlikeBut id s n = ⊥

pub alike_with : (id : List ℕ) (f : Grid ColDef → Grid ColDef) → ((g : Grid ColDef) → (f g).columns ≡ g.columns) → (s : Document) → IsAlikeBut id s (with_table id (on_grid f) s)
alike_with id f keeps [] = tt
alike_with id f keeps (t ∷ s) = by (bytes_eq t.id id) refl (alike_with id f keeps s)
  where
    by : (b : Bool) → bytes_eq t.id id ≡ b → IsAlikeBut id s (with_table id (on_grid f) s)
        → (t.id ≡ (cond b (on_grid f t) t).id) × (t.grid.columns ≡ (cond b (on_grid f t) t).grid.columns) × (bytes_eq t.id id ≡ false → t.grid.rows ≡ (cond b (on_grid f t) t).grid.rows) × IsAlikeBut id s (with_table id (on_grid f) s)
    by true e rest = (refl, sym (keeps t.grid), (λ h. absurd (true≢false (sym e ∙ h))), rest)
    by false e rest = (refl, refl, (λ h. refl), rest)

pub alike_back : (id : List ℕ) (s n : Document) → IsAlikeBut id s n → IsAlikeBut id n s
alike_back id [] [] h = tt
alike_back id (t ∷ s) (u ∷ n) h = (sym h.0, sym h.1, (λ e. sym (h.2 (ap (λ c. bytes_eq c id) h.0 ∙ e))), alike_back id s n h.3)
alike_back id [] (u ∷ n) h = absurd h
alike_back id (t ∷ s) [] h = absurd h

abbrev grid_of_found : Option Table → Grid ColDef
grid_of_found o = elim o as (λ _. Grid ColDef) [ None ↦ no_grid | Some u ↦ u.grid ]

pub columns_alike : (id : List ℕ) (s n : Document) → IsAlikeBut id s n → (u : List ℕ) → (grid_at s u).columns ≡ (grid_at n u).columns
columns_alike id [] [] h u = refl
columns_alike id (t ∷ s) (v ∷ n) h u =
    elim (bytes_eq t.id u) as (λ b. (grid_of_found (cond b (Some t) (find_id table_id u s))).columns ≡ (grid_of_found (cond b (Some v) (find_id table_id u n))).columns) [
      | true ↦ h.1
      | false ↦ columns_alike id s n h.3 u
    ] ∙ ap (λ c. (grid_of_found (cond (bytes_eq c u) (Some v) (find_id table_id u n))).columns) h.0
columns_alike id [] (v ∷ n) h u = absurd h
columns_alike id (t ∷ s) [] h u = absurd h

pub rows_alike : (id : List ℕ) (s n : Document) → IsAlikeBut id s n → (u : List ℕ) → bytes_eq u id ≡ false → (grid_at s u).rows ≡ (grid_at n u).rows
rows_alike id [] [] h u other = refl
rows_alike id (t ∷ s) (v ∷ n) h u other =
    by (bytes_eq t.id u) refl (rows_alike id s n h.3 u other) ∙ ap (λ c. (grid_of_found (cond (bytes_eq c u) (Some v) (find_id table_id u n))).rows) h.0
  where
    by : (b : Bool) → bytes_eq t.id u ≡ b → (grid_at s u).rows ≡ (grid_at n u).rows → (grid_of_found (cond b (Some t) (find_id table_id u s))).rows ≡ (grid_of_found (cond b (Some v) (find_id table_id u n))).rows
    by true e rest = h.2 (ap (λ c. bytes_eq c id) ((bytes_eq-Decides t.id u).0 e) ∙ other)
    by false e rest = rest
rows_alike id [] (v ∷ n) h u other = absurd h
rows_alike id (t ∷ s) [] h u other = absurd h

each_apart : (id c : List ℕ) (s n : Document) → IsAlikeBut id s n → AllByRecursion (λ (y : Table). bytes_eq c y.id ≡ false) s → AllByRecursion (λ (y : Table). bytes_eq c y.id ≡ false) n
each_apart id c [] [] h a = tt
each_apart id c (t ∷ s) (u ∷ n) h a = (ap (bytes_eq c) (sym h.0) ∙ a.0, each_apart id c s n h.3 a.1)
each_apart id c [] (u ∷ n) h a = absurd h
each_apart id c (t ∷ s) [] h a = absurd h

pub distinct_alike : (id : List ℕ) (s n : Document) → IsAlikeBut id s n → AreDistinct table_id s → AreDistinct table_id n
distinct_alike id [] [] h d = tt
distinct_alike id (t ∷ s) (u ∷ n) h d = (subst (λ c. AllByRecursion (λ (y : Table). bytes_eq c y.id ≡ false) n) h.0 (each_apart id t.id s n h.3 d.0), distinct_alike id s n h.3 d.1)
distinct_alike id [] (u ∷ n) h d = absurd h
distinct_alike id (t ∷ s) [] h d = absurd h

pub found_alike : (id : List ℕ) (s n : Document) → IsAlikeBut id s n → (c : List ℕ) (t : Table) → find_id table_id c s ≡ Some t → (v : Table) × (find_id table_id c n ≡ Some v)
found_alike id [] [] h c t e = absurd (cc)
found_alike id (a ∷ s) (b ∷ n) h c t e =
    let r = elim (bytes_eq a.id c) as (λ x. cond x (Some a) (find_id table_id c s) ≡ Some t → (v : Table) × (cond x (Some b) (find_id table_id c n) ≡ Some v)) [
      | true ↦ λ _. (b, refl)
      | false ↦ found_alike id s n h.3 c t
    ] e in
    (r.0, ap (λ y. cond (bytes_eq y c) (Some b) (find_id table_id c n)) (sym h.0) ∙ r.1)
found_alike id [] (b ∷ n) h c t e = absurd h
found_alike id (a ∷ s) [] h c t e = absurd h

-- ---- the shapes of tables

-- columns that were exchanged have places for the other rows
columns_laid : (rows others : List ℕ) (ds : List ColDef) (es : List KeptColumn) (vs : List ColumnValues) (fs : List KeptColumn) (ws : List ColumnValues) → map column_kept es ≡ map (column_blank rows) ds
    → AreExchanged rows others es vs fs ws → map column_kept fs ≡ map (column_blank others) ds
columns_laid rows others [] [] [] [] [] e h = refl
columns_laid rows others (d ∷ ds) (a ∷ es) (v ∷ vs) (b ∷ fs) (w ∷ ws) e h =
    let first : column_kept a ≡ column_blank rows d = cc in
    let rest : map column_kept es ≡ map (column_blank rows) ds = cc in
    (λ i. one first i ∷ columns_laid rows others ds es vs fs ws rest h.1 i)
  where
    size_of : (f : Bool) → places_in (length others) f ≡ length (cond f (map none_each others) [])
    size_of true = sym (length-map others none_each)
    size_of false = refl

    one : column_kept a ≡ column_blank rows d → column_kept b ≡ column_blank others d
    one same = λ i. record {
      id = (h.0.named ∙ ap (λ (x : ColumnShape). x.id) same) i;
      ty = (h.0.ty ∙ ap (λ (x : ColumnShape). x.ty) same) i;
      is_formula = (h.0.kind ∙ ap (λ (x : ColumnShape). x.is_formula) same) i;
      tree = (h.0.tree ∙ ap (λ (x : ColumnShape). x.tree) same) i;
      size = (h.0.places ∙ ap (λ (x : ColumnShape). places_in (length others) x.is_formula) same ∙ size_of d.info.is_formula) i;
    }
columns_laid rows others [] (a ∷ es) vs fs ws e h = absurd (cc)
columns_laid rows others (d ∷ ds) [] vs fs ws e h = absurd (cc)
columns_laid rows others [] [] (v ∷ vs) fs ws e h = absurd h
columns_laid rows others [] [] [] (b ∷ fs) ws e h = absurd h
columns_laid rows others [] [] [] [] (w ∷ ws) e h = absurd h
columns_laid rows others (d ∷ ds) (a ∷ es) [] fs ws e h = absurd h
columns_laid rows others (d ∷ ds) (a ∷ es) (v ∷ vs) [] ws e h = absurd h
columns_laid rows others (d ∷ ds) (a ∷ es) (v ∷ vs) (b ∷ fs) [] e h = absurd h

same_shape : (t u : Table) → t.id ≡ u.id → t.grid.columns ≡ u.grid.columns → t.grid.rows ≡ u.grid.rows → shape_blank t ≡ shape_blank u
same_shape t u named columns rows = λ i. record { id = named i; columns = map column_shape (map (blank_column (rows i)) (columns i)) }

-- those of other ids
rest_alike : (id : List ℕ) (s n : Document) → IsAlikeBut id s n → AllByRecursion (λ (y : Table). bytes_eq id y.id ≡ false) s → map shape_blank s ≡ map shape_blank n
rest_alike id [] [] h a = refl
rest_alike id (t ∷ s) (u ∷ n) h a = λ i. same_shape t u h.0 h.1 (h.2 (bytes_apart id t.id a.0)) i ∷ rest_alike id s n h.3 a.1 i
rest_alike id [] (u ∷ n) h a = absurd h
rest_alike id (t ∷ s) [] h a = absurd h

tables_laid : (id : List ℕ) (ks : List KeptTable) (s n : Document) (i : ℕ) (k : KeptTable) → IsAlikeBut id s n → AreDistinct table_id s → map shape_kept ks ≡ map shape_blank s → IsFirst kept_table_id id ks i
    → ((u : Table) → slice_get n i ≡ Some u → shape_kept k ≡ shape_blank u) → map shape_kept (set ks i k) ≡ map shape_blank n
tables_laid id [] s n i k h d e first is = absurd first
tables_laid id (a ∷ ks) [] n i k h d e first is = absurd (cc)
tables_laid id (a ∷ ks) (t ∷ s) [] i k h d e first is = absurd h
tables_laid id (a ∷ ks) (t ∷ s) (u ∷ n) zero k h d e first is =
    let same : shape_kept a ≡ shape_blank t = cc in
    let rest : map shape_kept ks ≡ map shape_blank s = cc in
    let named : t.id ≡ id = sym (ap (λ (x : TableShape). x.id) same) ∙ (bytes_eq-Decides a.id id).0 first in
    let others : map shape_kept ks ≡ map shape_blank n = rest ∙ rest_alike id s n h.3 (subst (λ c. AllByRecursion (λ (y : Table). bytes_eq c y.id ≡ false) s) named d.0) in
    (λ i. is u refl i ∷ others i)
tables_laid id (a ∷ ks) (t ∷ s) (u ∷ n) (suc i) k h d e first is =
    let same : shape_kept a ≡ shape_blank t = cc in
    let rest : map shape_kept ks ≡ map shape_blank s = cc in
    let apart : bytes_eq t.id id ≡ false = ap (λ (x : TableShape). bytes_eq x.id id) (sym same) ∙ first.0 in
    let one : shape_kept a ≡ shape_blank u = same ∙ same_shape t u h.0 h.1 (h.2 apart) in
    (λ j. one j ∷ tables_laid id ks s n i k h.3 d.1 rest first.1 is j)

-- the place of a table in what is kept is its place in the document
first_in : (id : List ℕ) (ks : List KeptTable) (s : Document) (i : ℕ) → map shape_kept ks ≡ map shape_blank s → IsFirst kept_table_id id ks i → IsFirst table_id id s i
first_in id [] s i e first = absurd first
first_in id (a ∷ ks) [] i e first = absurd (cc)
first_in id (a ∷ ks) (t ∷ s) zero e first = let same : shape_kept a ≡ shape_blank t = cc in ap (λ (x : TableShape). bytes_eq x.id id) (sym same) ∙ first
first_in id (a ∷ ks) (t ∷ s) (suc i) e first =
    let same : shape_kept a ≡ shape_blank t = cc in
    let rest : map shape_kept ks ≡ map shape_blank s = cc in
    (ap (λ (x : TableShape). bytes_eq x.id id) (sym same) ∙ first.0, first_in id ks s i rest first.1)

first_alike : (id : List ℕ) (s n : Document) (i : ℕ) → IsAlikeBut id s n → IsFirst table_id id s i → IsFirst table_id id n i
first_alike id [] n i h first = absurd first
first_alike id (t ∷ s) [] i h first = absurd h
first_alike id (t ∷ s) (u ∷ n) zero h first = ap (λ c. bytes_eq c id) (sym h.0) ∙ first
first_alike id (t ∷ s) (u ∷ n) (suc i) h first = (ap (λ c. bytes_eq c id) (sym h.0) ∙ first.0, first_alike id s n i h.3 first.1)

-- ---- what is kept of the second document

module _ (s n : Document) (id : List ℕ) (alike : IsAlikeBut id s n) (distinct : AreDistinct table_id s) (ks new : List KeptTable) (vs ws : List ColumnValues) (kept : IsKeptOf s ks)
    (x : IsTableExchanged id (grid_at s id).rows (grid_at n id).rows ks vs new ws) where
  abbrev rows : List ℕ
  rows = (grid_at s id).rows

  abbrev others : List ℕ
  others = (grid_at n id).rows

  first : IsFirst kept_table_id id ks x.index
  first = position_first kept_table_id id ks x.index x.first

  found : (find_id kept_table_id id ks ≡ Some x.was) × (x.was.id ≡ id)
  found = find-first kept_table_id ks id x.index x.was first x.here

  the_table : (t : Table) × (find_id table_id id s ≡ Some t) × (shape_kept x.was ≡ shape_blank t)
  the_table = table_of s ks kept id x.was (sym found.0)

  grid_is : grid_at s id ≡ the_table.0.grid
  grid_is = grid_found s id the_table.0 the_table.1

  columns_kept : map column_kept x.was.columns.items ≡ map (column_blank rows) (grid_at s id).columns
  columns_kept =
      sym (map-map column_shape column_part x.was.columns.items) ∙ ap (λ (y : TableShape). y.columns) the_table.2 ∙ map-map column_shape (blank_column the_table.0.grid.rows) the_table.0.grid.columns
      ∙ ap (λ (g : Grid ColDef). map (column_blank g.rows) g.columns) (sym grid_is)

  pub ids_kept : map kept_column_id x.was.columns.items ≡ map column_id (grid_at s id).columns
  ids_kept =
      sym (map-map (λ (y : ColumnShape). y.id) column_kept x.was.columns.items) ∙ ap (map (λ (y : ColumnShape). y.id)) columns_kept ∙ map-map (λ (y : ColumnShape). y.id) (column_blank rows) (grid_at s id).columns

  named : x.is.id ≡ id
  named = x.named ∙ found.1

  shape_laid : (u : Table) → slice_get n x.index ≡ Some u → shape_kept x.is ≡ shape_blank u
  shape_laid u at =
      let there = find-first table_id n id x.index u (first_alike id s n x.index alike (first_in id ks s x.index kept first)) at in
      let grid_there : grid_at n id ≡ u.grid = grid_found n id u there.0 in
      let columns : map column_kept x.is.columns.items ≡ map (column_blank u.grid.rows) u.grid.columns =
      columns_laid rows others (grid_at s id).columns x.was.columns.items vs x.is.columns.items ws columns_kept x.columns
      ∙ ap (map (column_blank others)) (columns_alike id s n alike id) ∙ ap (λ (g : Grid ColDef). map (column_blank g.rows) g.columns) grid_there in
      λ i. record {
        id = (named ∙ sym there.1) i;
        columns = (map-map column_shape column_part x.is.columns.items ∙ columns ∙ sym (map-map column_shape (blank_column u.grid.rows) u.grid.columns)) i;
      }

  pub kept_laid : IsKeptOf n new
  kept_laid = ap (map shape_kept) x.tables ∙ tables_laid id ks s n x.index x.is alike distinct kept first shape_laid

  -- of other tables what was held is held
  pub held_other : (c : CellId) → bytes_eq c.table id ≡ false → held_at n new c ≡ held_at s ks c
  held_other c other =
      ap (λ l. held_table (grid_at n c.table).rows c.column c.row (find_id kept_table_id c.table l)) x.tables
      ∙ ap (held_table (grid_at n c.table).rows c.column c.row) (find-set kept_table_id ks id x.index x.is c.table first named ∙ ap (λ b. cond b (Some x.is) (find_id kept_table_id c.table ks)) (bytes_apart c.table id other))
      ∙ ap (λ rs. held_table rs c.column c.row (find_id kept_table_id c.table ks)) (sym (rows_alike id s n alike c.table other))

  -- of this one what was held of rows that stay, and what was laid aside
  pub held_here : (c r : _) → has others r ≡ true → held_table others c r (find_id kept_table_id id new) ≡ cond (has rows r) (held_table rows c r (find_id kept_table_id id ks)) (aside_in (map column_id (grid_at s id).columns) others vs c r)
  held_here c r there =
      ap (λ l. held_table others c r (find_id kept_table_id id l)) x.tables
      ∙ ap (held_table others c r) (find-set kept_table_id ks id x.index x.is id first named ∙ ap (λ b. cond b (Some x.is) (find_id kept_table_id id ks)) ((bytes_eq-Decides id id).1 refl))
      ∙ held_after rows others x.was.columns.items vs x.is.columns.items ws x.columns c r there
      ∙ ap (λ o. cond (has rows r) (held_table rows c r o) (aside_in (map kept_column_id x.was.columns.items) others vs c r)) (sym found.0)
      ∙ ap (λ l. cond (has rows r) (held_table rows c r (find_id kept_table_id id ks)) (aside_in l others vs c r)) ids_kept

  -- and what is laid aside now
  pub left_here : (c r : _) → has rows r ≡ true → aside_in (map column_id (grid_at s id).columns) rows ws c r ≡ cond (has others r) (aside_in (map column_id (grid_at s id).columns) others vs c r) (held_table rows c r (find_id kept_table_id id ks))
  left_here c r there =
      ap (λ l. aside_in l rows ws c r) (sym ids_kept)
      ∙ left_after rows others x.was.columns.items vs x.is.columns.items ws x.columns c r there
      ∙ ap (λ l. cond (has others r) (aside_in l others vs c r) (held_column rows r (find_id kept_column_id c x.was.columns.items))) ids_kept
      ∙ ap (λ o. cond (has others r) (aside_in (map column_id (grid_at s id).columns) others vs c r) (held_table rows c r o)) (sym found.0)

  -- what is laid aside has places for the rows
  pub left_sizes : map (λ (v : ColumnValues). length v.items) ws ≡ map (λ (d : ColDef). places_in (length rows) d.info.is_formula) (grid_at s id).columns
  left_sizes =
      left_places rows others x.was.columns.items vs x.is.columns.items ws x.columns
      ∙ sym (map-map (λ (y : ColumnShape). places_in (length rows) y.is_formula) column_kept x.was.columns.items) ∙ ap (map (λ (y : ColumnShape). places_in (length rows) y.is_formula)) columns_kept
      ∙ map-map (λ (y : ColumnShape). places_in (length rows) y.is_formula) (column_blank rows) (grid_at s id).columns
