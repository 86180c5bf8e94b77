-- The formula cells of rows.
use Rattle.std.proofs.Common.{ℕ, zero, suc, ◌+◌, ◌<◌, ◌≤◌, append_assoc, get_or, reverse, take, length, slice_get, arith, Bool, true, false, cond, ◌&&◌, ◌||◌, nat_eq, List, [], ◌∷◌, ◌++◌, map, ◌≡◌, refl, sym, ap, ◌∙◌, subst, Option, Some, None}
use Rattle.std.proofs.lemmas.Bool.{eq-eqb, false≢true}
use Rattle.std.proofs.lemmas.List.{reverse-append, take_more}
use Rattle.std.proofs.lemmas.List.Folds.{list_any-append}
use Rattle.std.proofs.lemmas.Slice.Eq.{bytes_eq-Decides}
use Rattle.std.specs.List.{AllByRecursion}
use Rattle.std.specs.Option.{is_some}
use Rattle.std.specs.Str.{bytes_eq}
use Rattle.cell_types.specs.declared.cell.CellId.{CellId}
use Rattle.doc_model.specs.declared.column.ColDef.{ColDef}
use Rattle.doc_model.specs.ByIds.{find_id}
use Rattle.doc_model.specs.Column.{column_id}
use Rattle.doc_model.specs.Document.{Table, Document, table_id}
use Rattle.doc_model.specs.Grid.{Grid}
use Rattle.doc_model.specs.Rows.{has}
use Rattle.doc_model.specs.Schema.{no_grid}
use Rattle.doc_model.proofs.ByIdsLaws.{found_all, found_id}
use Rattle.doc_readers.specs.Parts.{grid_at}
use Rattle.recalc.specs.Cells.{cell_of, same_cell}
use Rattle.recalc.specs.Evaluated.{formula_in}
use Rattle.recalc.specs.Stack.{on}
use Rattle.recalc.proofs.Moves.{on_append}
use Rattle.recalc.proofs.Turn.{same_true}
use Rattle.affected_values.specs.Carried.{HasCellsOf, HasCellsOfColumn}

all_three : (a b e p o : Bool) → a ≡ true → b ≡ true → (e || p) ≡ true → (p ≡ true → o ≡ true) → ((a && b && e) || o) ≡ true
all_three true true true p o f g h later = refl
all_three true true false p o f g h later = later h
all_three true false e p o f g h later = absurd (false≢true g)
all_three false b e p o f g h later = absurd (false≢true f)

on_rows : (t c : List ℕ) (rows : List ℕ) (r : ℕ) → has rows r ≡ true → on (map (cell_of t c) rows) (cell_of t c r) ≡ true
on_rows t c [] r h = absurd (false≢true h)
on_rows t c (q ∷ rows) r h =
    all_three (bytes_eq t t) (bytes_eq c c) (nat_eq q r) (has rows r) (on (map (cell_of t c) rows) (cell_of t c r)) ((bytes_eq-Decides t t).1 refl) ((bytes_eq-Decides c c).1 refl) h (on_rows t c rows r)

or_first : (a b : Bool) → a ≡ true → (a || b) ≡ true
or_first true b h = refl
or_first false b h = absurd (false≢true h)

or_second : (a b : Bool) → b ≡ true → (a || b) ≡ true
or_second true b h = refl
or_second false b h = h

-- where nothing stands, the list is no longer
pub nothing_there : {X : Type 0} (xs : List X) (i : ℕ) → slice_get xs i ≡ None → length xs ≤ i
nothing_there [] i h = omega arith
nothing_there (x ∷ xs) zero h = absurd (cc)
nothing_there (x ∷ xs) (suc i) h = let later : length xs ≤ i = nothing_there xs i h in omega arith

-- a cell of a column in some rows is one of the column
in_column : (t c : List ℕ) (rows : List ℕ) (d : CellId) → on (map (cell_of t c) rows) d ≡ true → (bytes_eq d.table t && bytes_eq d.column c) ≡ true
in_column t c [] d h = absurd (false≢true h)
in_column t c (q ∷ rows) d h = by (same_cell (cell_of t c q) d) refl h (in_column t c rows d)
  where
    itself : (bytes_eq t t && bytes_eq c c) ≡ true
    itself = ap (λ b. b && bytes_eq c c) ((bytes_eq-Decides t t).1 refl) ∙ (bytes_eq-Decides c c).1 refl

    by : (b : Bool) → same_cell (cell_of t c q) d ≡ b → (b || on (map (cell_of t c) rows) d) ≡ true → (on (map (cell_of t c) rows) d ≡ true → (bytes_eq d.table t && bytes_eq d.column c) ≡ true) → (bytes_eq d.table t && bytes_eq d.column c) ≡ true
    by true e h later = ap (λ (x : CellId). bytes_eq x.table t && bytes_eq x.column c) (sym (same_true (cell_of t c q) d e)) ∙ itself
    by false e h later = later h

-- and in one of the rows
in_rows : (t c : List ℕ) (rows : List ℕ) (d : CellId) → on (map (cell_of t c) rows) d ≡ true → has rows d.row ≡ true
in_rows t c [] d h = absurd (false≢true h)
in_rows t c (q ∷ rows) d h = by (same_cell (cell_of t c q) d) refl h (in_rows t c rows d)
  where
    by : (b : Bool) → same_cell (cell_of t c q) d ≡ b → (b || on (map (cell_of t c) rows) d) ≡ true → (on (map (cell_of t c) rows) d ≡ true → has rows d.row ≡ true) → has (q ∷ rows) d.row ≡ true
    by true e h later = ap (λ (x : CellId). has (q ∷ rows) x.row) (sym (same_true (cell_of t c q) d e)) ∙ ap (λ b. b || has rows q) (eq-eqb q q refl)
    by false e h later = or_second (nat_eq q d.row) (has rows d.row) (later h)

-- what is pushed twice passes, where each time only such cells are
pub only_next : (p : CellId → Bool) (old mid new : List CellId) → ((c : CellId) → on mid c ≡ true → on old c ≡ false → p c ≡ true) → ((c : CellId) → on new c ≡ true → on mid c ≡ false → p c ≡ true)
    → (c : CellId) → on new c ≡ true → on old c ≡ false → p c ≡ true
only_next p old mid new first second c is isnt = by (on mid c) refl
  where
    by : (b : Bool) → on mid c ≡ b → p c ≡ true
    by true e = first c e isnt
    by false e = second c is e

-- the cells of a column were pushed
module _ (old new : List CellId) (t c : List ℕ) (rows : List ℕ) (is : new ≡ old ++ map (cell_of t c) rows) where
  pub pushed_stays : (d : CellId) → on old d ≡ true → on new d ≡ true
  pushed_stays d h = ap (λ l. on l d) is ∙ on_append old (map (cell_of t c) rows) d ∙ or_first (on old d) (on (map (cell_of t c) rows) d) h

  pub pushed_only : (d : CellId) → on new d ≡ true → on old d ≡ false → (bytes_eq d.table t && bytes_eq d.column c) ≡ true
  pushed_only d h isnt = in_column t c rows d (ap (λ b. b || on (map (cell_of t c) rows) d) (sym isnt) ∙ sym (on_append old (map (cell_of t c) rows) d) ∙ ap (λ l. on l d) (sym is) ∙ h)

  pub pushed_rows : (d : CellId) → on new d ≡ true → on old d ≡ false → has rows d.row ≡ true
  pushed_rows d h isnt = in_rows t c rows d (ap (λ b. b || on (map (cell_of t c) rows) d) (sym isnt) ∙ sym (on_append old (map (cell_of t c) rows) d) ∙ ap (λ l. on l d) (sym is) ∙ h)

  pub pushed_there : (r : ℕ) → has rows r ≡ true → on new (cell_of t c r) ≡ true
  pushed_there r h = ap (λ l. on l (cell_of t c r)) is ∙ on_append old (map (cell_of t c) rows) (cell_of t c r) ∙ or_second (on old (cell_of t c r)) (on (map (cell_of t c) rows) (cell_of t c r)) (on_rows t c rows r h)

-- where they are of each column, they are of the table
module _ (s : Document) (t rows : List ℕ) (cells : List CellId) (all : AllByRecursion (HasCellsOfColumn t rows cells) (grid_at s t).columns) where
  parts : (a b : Bool) → (a && b) ≡ true → (a ≡ true) × (b ≡ true)
  parts true true h = (refl, refl)
  parts true false h = absurd (false≢true h)
  parts false b h = absurd (false≢true h)

  by_flag : (f : List ℕ) (a b : Bool) → is_some (cond (a && b) (Some f) None) ≡ true → a ≡ true
  by_flag f true b h = refl
  by_flag f false b h = absurd (false≢true h)

  by_column : (c : CellId) → c.table ≡ t → has rows c.row ≡ true → (g : Grid ColDef) → AllByRecursion (HasCellsOfColumn t rows cells) g.columns → (o : Option ColDef) → find_id column_id c.column g.columns ≡ o
      → is_some (elim o as (λ _. Option (List ℕ)) [ None ↦ None | Some d ↦ formula_in g c.row d ]) ≡ true → on cells c ≡ true
  by_column c at here g each None e h = absurd (false≢true h)
  by_column c at here g each (Some d) e h =
      let name : d.id ≡ c.column = found_id column_id c.column g.columns d e in
      subst (λ (x : CellId). on cells x ≡ true) (λ i. record { table = sym at i; column = name i; row = c.row })
      (found_all column_id (HasCellsOfColumn t rows cells) c.column g.columns d each e (by_flag d.info.formula d.info.is_formula (has g.rows c.row) h) c.row here)

  by_table : (c : CellId) → c.table ≡ t → has rows c.row ≡ true → (o : Option Table) → find_id table_id c.table s ≡ o
      → is_some (elim o as (λ _. Option (List ℕ)) [ None ↦ None | Some u ↦ elim (find_id column_id c.column u.grid.columns) as (λ _. Option (List ℕ)) [ None ↦ None | Some d ↦ formula_in u.grid c.row d ] ]) ≡ true → on cells c ≡ true
  by_table c at here None e h = absurd (false≢true h)
  by_table c at here (Some u) e h =
      by_column c at here u.grid
      (subst (λ (g : Grid ColDef). AllByRecursion (HasCellsOfColumn t rows cells) g.columns) (ap (λ n. grid_at s n) (sym at) ∙ ap (λ (o : Option Table). elim o as (λ _. Grid ColDef) [ None ↦ no_grid | Some u ↦ u.grid ]) e) all)
      (find_id column_id c.column u.grid.columns) refl h

  pub cells_there : HasCellsOf s t rows cells
  cells_there c h there =
      let p = parts (bytes_eq c.table t) (has rows c.row) h in
      by_table c ((bytes_eq-Decides c.table t).0 p.0) p.1 (find_id table_id c.table s) refl there

-- the same rows from the last one on
pub has_reverse : (rows : List ℕ) (r : ℕ) → has (reverse rows) r ≡ has rows r
has_reverse [] r = refl
has_reverse (q ∷ rows) r =
    ap (λ l. has l r) (reverse-append (q ∷ []) rows) ∙ list_any-append (λ x. nat_eq x r) (reverse rows) (q ∷ [])
    ∙ ap (λ b. b || (nat_eq q r || false)) (has_reverse rows r) ∙ swapped (has rows r) (nat_eq q r)
  where
    swapped : (a b : Bool) → (a || (b || false)) ≡ (b || a)
    swapped true true = refl
    swapped true false = refl
    swapped false true = refl
    swapped false false = refl

-- one more of them put last
pub pushed_back : (t c : List ℕ) (old new : List CellId) (rows : List ℕ) (i : ℕ) (d : ℕ) → i < length rows → new ≡ old ++ cell_of t c (get_or rows i d) ∷ []
    → new ++ map (cell_of t c) (reverse (take i rows)) ≡ old ++ map (cell_of t c) (reverse (take (i + 1) rows))
pushed_back t c old new rows i d within is =
    ap (λ l. l ++ map (cell_of t c) (reverse (take i rows))) is ∙ append_assoc old (cell_of t c (get_or rows i d) ∷ []) (map (cell_of t c) (reverse (take i rows)))
    ∙ ap (λ l. old ++ map (cell_of t c) l) (sym (reverse-append (take i rows) (get_or rows i d ∷ [])))
    ∙ ap (λ l. old ++ map (cell_of t c) (reverse l)) (sym (take_more rows i d within))
