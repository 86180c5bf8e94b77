-- Cells that are lost, and cells that are not, one by one.
use Rattle.std.proofs.Common.{ℕ, Bool, true, false, cond, ◌||◌, ◌&&◌, List, [], ◌∷◌, ◌++◌, map, filter, ◌≡◌, refl, sym, ap, subst, ◌∙◌, Some, None, option_map, find, eqb}
use Rattle.std.proofs.lemmas.Bool.{and_parts, eqb-true, false≢true, or_parts, true≢false}
use Rattle.std.proofs.lemmas.Slice.Eq.{bytes_eq-Decides}
use Rattle.std.specs.List.{AllByRecursion, list_any}
use Rattle.std.specs.Str.{bytes_eq}
use Rattle.cell_types.specs.declared.cell.CellOld.{CellOld}
use Rattle.cell_types.specs.declared.value.CellValue.{CellValue}
use Rattle.doc_model.specs.declared.column.ColDef.{ColDef}
use Rattle.doc_model.specs.ByIds.{has_id}
use Rattle.doc_model.specs.Column.{column_id}
use Rattle.doc_model.specs.Document.{Document, table_id}
use Rattle.doc_model.specs.Grid.{Grid, cell}
use Rattle.doc_model.specs.Rows.{has}
use Rattle.doc_model.proofs.ByIdsLaws.{bytes_itself, has_id-by_id, has_id-map}
use Rattle.doc_model.proofs.Choices.{both_true, each_filter}
use Rattle.doc_model.proofs.RowsLaws.{number_itself}
use Rattle.doc_readers.specs.Parts.{grid_at}
use Rattle.recalc.specs.Cells.{cell_of}
use Rattle.recalc.specs.InOrder.{in_order, itself}
use Rattle.recalc.specs.Lost.{all_cells, cells_at, columns_cells, table_cells, tables_cells}
use Rattle.action_censor.specs.Back.{held_before}
use Rattle.action_censor.specs.Step.{is_in_row}

each_parts : {X : Type 0} (P : X → Type 0) (xs ys : List X) → AllByRecursion P (xs ++ ys) → AllByRecursion P xs × AllByRecursion P ys
each_parts P [] ys h = (tt, h)
each_parts P (x ∷ xs) ys h = let rest = each_parts P xs ys h.1 in ((h.0, rest.0), rest.1)

each_joined : {X : Type 0} (P : X → Type 0) (xs ys : List X) → AllByRecursion P xs → AllByRecursion P ys → AllByRecursion P (xs ++ ys)
each_joined P [] ys h k = k
each_joined P (x ∷ xs) ys h k = (h.0, each_joined P xs ys h.1 k)

-- ---- a cell that is there is among all cells

module _ (P : CellOld → Type 0) where
  cells_hold : (t : List ℕ) (g : Grid ColDef) (c : List ℕ) (rows : List ℕ) (r : ℕ) → AllByRecursion P (cells_at t g c rows) → has rows r ≡ true → P (record { cell = cell_of t c r; old = cell column_id g c r })
  cells_hold t g c [] r h there = absurd (false≢true there)
  cells_hold t g c (q ∷ rows) r h there =
      elim (eqb q r) as (λ b. eqb q r ≡ b → (b || has rows r) ≡ true → P (record { cell = cell_of t c r; old = cell column_id g c r })) [
        | true ↦ λ is _. subst (λ n. P (record { cell = cell_of t c n; old = cell column_id g c n })) (eqb-true q r is) h.0
        | false ↦ λ _ later. cells_hold t g c rows r h.1 later
      ] refl there

  columns_hold : (t : List ℕ) (g : Grid ColDef) (cs : List (List ℕ)) (c : List ℕ) → AllByRecursion P (columns_cells t g cs) → has_id itself cs c ≡ true → AllByRecursion P (cells_at t g c g.rows)
  columns_hold t g [] c h there = absurd (false≢true there)
  columns_hold t g (d ∷ cs) c h there =
      let parts = each_parts P (cells_at t g d g.rows) (columns_cells t g cs) h in
      elim (bytes_eq d c) as (λ b. bytes_eq d c ≡ b → (b || has_id itself cs c) ≡ true → AllByRecursion P (cells_at t g c g.rows)) [
        | true ↦ λ is _. subst (λ n. AllByRecursion P (cells_at t g n g.rows)) ((bytes_eq-Decides d c).0 is) parts.0
        | false ↦ λ _ later. columns_hold t g cs c parts.1 later
      ] refl there

  tables_hold : (v : Document) (ts : List (List ℕ)) (t : List ℕ) → AllByRecursion P (tables_cells v ts) → has_id itself ts t ≡ true → AllByRecursion P (table_cells v t)
  tables_hold v [] t h there = absurd (false≢true there)
  tables_hold v (u ∷ ts) t h there =
      let parts = each_parts P (table_cells v u) (tables_cells v ts) h in
      elim (bytes_eq u t) as (λ b. bytes_eq u t ≡ b → (b || has_id itself ts t) ≡ true → AllByRecursion P (table_cells v t)) [
        | true ↦ λ is _. subst (λ n. AllByRecursion P (table_cells v n)) ((bytes_eq-Decides u t).0 is) parts.0
        | false ↦ λ _ later. tables_hold v ts t parts.1 later
      ] refl there

  pub all_hold : (v : Document) (t c : List ℕ) (r : ℕ) → AllByRecursion P (all_cells v) → has_id table_id v t ≡ true → has_id column_id (grid_at v t).columns c ≡ true → has (grid_at v t).rows r ≡ true
      → P (record { cell = cell_of t c r; old = cell column_id (grid_at v t) c r })
  all_hold v t c r h at column row =
      cells_hold t (grid_at v t) c (grid_at v t).rows r
      (columns_hold t (grid_at v t) (in_order (map column_id (grid_at v t).columns)) c
      (tables_hold v (in_order (map table_id v)) t h (has_id-by_id itself (map table_id v) t ∙ has_id-map itself table_id v t ∙ at))
      (has_id-by_id itself (map column_id (grid_at v t).columns) c ∙ has_id-map itself column_id (grid_at v t).columns c ∙ column)) row

-- ---- each of all cells holds what the document holds there

abbrev pub IsHeld : Document → CellOld → Type 0
IsHeld v o = o.old ≡ cell column_id (grid_at v o.cell.table) o.cell.column o.cell.row

held_at : (v : Document) (t c : List ℕ) (rows : List ℕ) → AllByRecursion (IsHeld v) (cells_at t (grid_at v t) c rows)
held_at v t c [] = tt
held_at v t c (r ∷ rows) = (refl, held_at v t c rows)

held_columns : (v : Document) (t : List ℕ) (cs : List (List ℕ)) → AllByRecursion (IsHeld v) (columns_cells t (grid_at v t) cs)
held_columns v t [] = tt
held_columns v t (c ∷ cs) = each_joined (IsHeld v) (cells_at t (grid_at v t) c (grid_at v t).rows) (columns_cells t (grid_at v t) cs) (held_at v t c (grid_at v t).rows) (held_columns v t cs)

held_tables : (v : Document) (ts : List (List ℕ)) → AllByRecursion (IsHeld v) (tables_cells v ts)
held_tables v [] = tt
held_tables v (t ∷ ts) = each_joined (IsHeld v) (table_cells v t) (tables_cells v ts) (held_columns v t (in_order (map column_id (grid_at v t).columns))) (held_tables v ts)

each_held : (v : Document) → AllByRecursion (IsHeld v) (all_cells v)
each_held v = held_tables v (in_order (map table_id v))

-- ---- what is found among some of all cells

abbrev is_at : List ℕ → List ℕ → ℕ → CellOld → Bool
is_at t c r o = is_in_row t r o && bytes_eq o.cell.column c

held_found : (v : Document) (t c : List ℕ) (r : ℕ) (cells : List CellOld) (w : CellValue) → AllByRecursion (IsHeld v) cells → held_before cells t c r ≡ Some w → cell column_id (grid_at v t) c r ≡ w
held_found v t c r [] w each held = absurd (cc)
held_found v t c r (o ∷ cells) w each held =
    elim (is_at t c r o) as (λ b. is_at t c r o ≡ b → option_map (λ (o : CellOld). o.old) (cond b (Some o) (find (is_at t c r) cells)) ≡ Some w → cell column_id (grid_at v t) c r ≡ w) [
      | true ↦ λ is held.
          let parts : (is_in_row t r o ≡ true) × (bytes_eq o.cell.column c ≡ true) = and_parts (is_in_row t r o) (bytes_eq o.cell.column c) is in
          let row : (bytes_eq o.cell.table t ≡ true) × (eqb o.cell.row r ≡ true) = and_parts (bytes_eq o.cell.table t) (eqb o.cell.row r) parts.0 in
          let same : o.old ≡ w = cc in
          ap (λ n. cell column_id (grid_at v n) c r) (sym ((bytes_eq-Decides o.cell.table t).0 row.0))
          ∙ ap (λ n. cell column_id (grid_at v o.cell.table) n r) (sym ((bytes_eq-Decides o.cell.column c).0 parts.1))
          ∙ ap (cell column_id (grid_at v o.cell.table) o.cell.column) (sym (eqb-true o.cell.row r row.1))
          ∙ sym each.0 ∙ same
      | false ↦ λ _ held. held_found v t c r cells w each.1 held
    ] refl held

-- a lost cell held what is told of it
pub told_held : (v : Document) (p : CellOld → Bool) (t c : List ℕ) (r : ℕ) (w : CellValue) → held_before (filter p (all_cells v)) t c r ≡ Some w → cell column_id (grid_at v t) c r ≡ w
told_held v p t c r w held = held_found v t c r (filter p (all_cells v)) w (each_filter (IsHeld v) p (all_cells v) (each_held v)) held

-- ---- what is not told was not lost

none_found : (t c : List ℕ) (r : ℕ) (cells : List CellOld) → held_before cells t c r ≡ None → list_any (is_at t c r) cells ≡ false
none_found t c r [] none = refl
none_found t c r (o ∷ cells) none =
    elim (is_at t c r o) as (λ b. option_map (λ (o : CellOld). o.old) (cond b (Some o) (find (is_at t c r) cells)) ≡ None → (b || list_any (is_at t c r) cells) ≡ false) [
      | true ↦ λ none. absurd (cc)
      | false ↦ λ none. none_found t c r cells none
    ] none

none_kept : {X : Type 0} (test p : X → Bool) (xs : List X) → list_any test (filter p xs) ≡ false → AllByRecursion (λ x. test x ≡ true → p x ≡ false) xs
none_kept test p [] e = tt
none_kept test p (x ∷ xs) e =
    elim (p x) as (λ b. list_any test (cond b (x ∷ filter p xs) (filter p xs)) ≡ false → (test x ≡ true → b ≡ false) × AllByRecursion (λ x. test x ≡ true → p x ≡ false) xs) [
      | true ↦ λ e. let two = or_parts (test x) (list_any test (filter p xs)) e in (λ is. absurd (true≢false (sym is ∙ two.0)), none_kept test p xs two.1)
      | false ↦ λ e. (λ _. refl, none_kept test p xs e)
    ] e

pub not_lost : (v : Document) (p : CellOld → Bool) (t c : List ℕ) (r : ℕ) → held_before (filter p (all_cells v)) t c r ≡ None
    → has_id table_id v t ≡ true → has_id column_id (grid_at v t).columns c ≡ true → has (grid_at v t).rows r ≡ true
    → p (record { cell = cell_of t c r; old = cell column_id (grid_at v t) c r }) ≡ false
not_lost v p t c r none at column row =
    all_hold (λ o. is_at t c r o ≡ true → p o ≡ false) v t c r
    (none_kept (is_at t c r) p (all_cells v) (none_found t c r (filter p (all_cells v)) none)) at column row
    (both_true (bytes_eq t t && eqb r r) (bytes_eq c c) (both_true (bytes_eq t t) (eqb r r) (bytes_itself t) (number_itself r)) (bytes_itself c))
