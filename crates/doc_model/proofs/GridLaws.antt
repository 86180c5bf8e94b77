-- What the cells of a filled grid are, and that a grid is filled by its own cells.
use Rattle.std.proofs.Common.{ℕ, Bool, true, false, cond, ◌||◌, List, [], ◌∷◌, map, ◌≡◌, ◌<◌, length, refl, sym, ap, ◌∙◌, Some, arith, eqb, find}
use Rattle.std.proofs.lemmas.Bool.{false≢true, eqb-true, ne_eqb}
use Rattle.std.specs.List.{AllByRecursion}
use Rattle.std.specs.Str.{bytes_eq}
use Rattle.cell_types.specs.declared.value.CellValue.{CellValue}
use Rattle.cell_types.specs.declared.value.CellValue.TheVariants.{Null}
use Rattle.doc_model.specs.ByIds.{find_id, AreDistinct}
use Rattle.doc_model.specs.Rows.{has, IsAscending}
use Rattle.doc_model.specs.Grid.{Grid, beside, grid_of, IsGrid, cell}
use Rattle.doc_model.proofs.Choices.{cond_true, cond_false, each_weaker, each_map, map_each, map-map, length_map}
use Rattle.doc_model.proofs.ByIdsLaws.{bytes_itself, each_found}
use Rattle.doc_model.proofs.RowsLaws.{number_itself, each_has}

module _ {K : Type 0} (same : K → K → Bool) where
  -- no key is the same as a later one
  abbrev pub Apart : List K → Type 0
  Apart [] = Unit {0}
  Apart (k ∷ ks) = AllByRecursion (λ q. same k q ≡ false) ks × Apart ks

module _ {K V : Type 0} (same : K → K → Bool) (itself : (k : K) → same k k ≡ true) where
  -- what stands beside each key is the list
  pub beside_each : (ks : List K) (vs : List V) (d : V) → Apart same ks → length vs ≡ length ks → map (λ k. beside (λ q. same q k) ks vs d) ks ≡ vs
  beside_each [] [] d h e = refl
  beside_each [] (v ∷ vs) d h e = absurd (omega arith)
  beside_each (k ∷ ks) [] d h e = absurd (omega arith)
  beside_each (k ∷ ks) (v ∷ vs) d h e =
      ap (λ y. y ∷ map (λ q. cond (same k q) v (beside (λ p. same p q) ks vs d)) ks) (cond_true (same k k) v (beside (λ p. same p k) ks vs d) (itself k))
      ∙ ap (λ ys. v ∷ ys) (map_each (λ q. cond (same k q) v (beside (λ p. same p q) ks vs d)) (λ q. beside (λ p. same p q) ks vs d) ks
      (each_weaker (λ q. same k q ≡ false) (λ q. cond (same k q) v (beside (λ p. same p q) ks vs d) ≡ beside (λ p. same p q) ks vs d) (λ q apart. cond_false (same k q) v (beside (λ p. same p q) ks vs d) apart) ks h.0)
      ∙ beside_each ks vs d h.1 (omega arith))

pub beside_found : {K V : Type 0} (p : K → Bool) (f : K → V) (ks : List K) (d : V) (k : K) → find p ks ≡ Some k → beside p ks (map f ks) d ≡ f k
beside_found p f [] d k e = absurd (cc)
beside_found p f (q ∷ ks) d k e =
    elim (p q) as (λ b. cond b (Some q) (find p ks) ≡ Some k → cond b (f q) (beside p ks (map f ks) d) ≡ f k) [
      | true ↦ λ e. cc
      | false ↦ λ e. beside_found p f ks d k e
    ] e

pub beside_has : {V : Type 0} (f : ℕ → V) (rs : List ℕ) (d : V) (r : ℕ) → has rs r ≡ true → beside (λ q. eqb q r) rs (map f rs) d ≡ f r
beside_has f [] d r e = absurd (false≢true e)
beside_has f (q ∷ rs) d r e =
    elim (eqb q r) as (λ b. eqb q r ≡ b → (b || has rs r) ≡ true → cond b (f q) (beside (λ p. eqb p r) rs (map f rs) d) ≡ f r) [
      | true ↦ λ is _. ap f (eqb-true q r is)
      | false ↦ λ _ e. beside_has f rs d r e
    ] refl e

pub apart_rows : (rs : List ℕ) → IsAscending rs → Apart eqb rs
apart_rows [] h = tt
apart_rows (r ∷ rs) h = (each_weaker (λ q. r < q) (λ q. eqb r q ≡ false) (λ q lt. ne_eqb r q (λ e. absurd (omega arith))) rs h.0, apart_rows rs h.1)

module _ {C : Type 0} (id : C → List ℕ) where
  pub apart_columns : (cs : List C) → AreDistinct id cs → Apart (λ c d. bytes_eq (id c) (id d)) cs
  apart_columns [] h = tt
  apart_columns (c ∷ cs) h = (h.0, apart_columns cs h.1)

  -- the cell that was filled in
  pub cell-grid_of : (cs : List C) (rs : List ℕ) (f : C → ℕ → CellValue) (d : C) (r : ℕ)
      → find_id id (id d) cs ≡ Some d → has rs r ≡ true → cell id (grid_of cs rs f) (id d) r ≡ f d r
  cell-grid_of cs rs f d r found here =
      ap (λ row. beside (λ e. bytes_eq (id e) (id d)) cs row Null) (beside_has (λ q. map (λ e. f e q) cs) rs [] r here)
      ∙ beside_found (λ e. bytes_eq (id e) (id d)) (λ e. f e r) cs Null d found

  rows_again : (cs : List C) (cells : List (List CellValue)) → AreDistinct id cs → AllByRecursion (λ row. length row ≡ length cs) cells
      → map (λ row. map (λ d. beside (λ e. bytes_eq (id e) (id d)) cs row Null) cs) cells ≡ cells
  rows_again cs [] s w = refl
  rows_again cs (row ∷ cells) s w =
      ap (λ y. y ∷ map (λ row. map (λ d. beside (λ e. bytes_eq (id e) (id d)) cs row Null) cs) cells) (beside_each (λ c d. bytes_eq (id c) (id d)) (λ c. bytes_itself (id c)) cs row Null (apart_columns cs s) w.0)
      ∙ ap (λ ys. row ∷ ys) (rows_again cs cells s w.1)

  -- a grid is filled by its own cells
  pub grid_of-cell : (g : Grid C) → IsGrid id g → grid_of g.columns g.rows (λ d r. cell id g (id d) r) ≡ g
  grid_of-cell g h = ap (λ cells. let x : Grid C = record { columns = g.columns; rows = g.rows; cells = cells } in x) (
      map-map (λ row. map (λ d. beside (λ e. bytes_eq (id e) (id d)) g.columns row Null) g.columns) (λ r. beside (λ q. eqb q r) g.rows g.cells []) g.rows
      ∙ ap (λ rows. map (λ row. map (λ d. beside (λ e. bytes_eq (id e) (id d)) g.columns row Null) g.columns) rows) (beside_each eqb number_itself g.rows g.cells [] (apart_rows g.rows h.ascending) h.height)
      ∙ rows_again g.columns g.cells h.distinct h.width)

  -- functions that agree at each cell fill one grid
  pub grid_of_same : (cs : List C) (rs : List ℕ) (f g : C → ℕ → CellValue) → AreDistinct id cs
      → ((d : C) (r : ℕ) → find_id id (id d) cs ≡ Some d → has rs r ≡ true → f d r ≡ g d r) → grid_of cs rs f ≡ grid_of cs rs g
  grid_of_same cs rs f g s h =
      ap (λ cells. let x : Grid C = record { columns = cs; rows = rs; cells = cells } in x)
      (map_each (λ r. map (λ d. f d r) cs) (λ r. map (λ d. g d r) cs) rs
      (each_has (λ r. map (λ d. f d r) cs ≡ map (λ d. g d r) cs) rs (λ r here.
      map_each (λ d. f d r) (λ d. g d r) cs (each_found id (λ d. f d r ≡ g d r) cs s (λ d found. h d r found here)))))

  -- what is filled with the columns, the rows and the cells of a grid is that grid
  pub filled_again : (w : Grid C) → IsGrid id w → (cs : List C) (rs : List ℕ) (f : C → ℕ → CellValue) → cs ≡ w.columns → rs ≡ w.rows
      → ((d : C) (r : ℕ) → find_id id (id d) w.columns ≡ Some d → has w.rows r ≡ true → f d r ≡ cell id w (id d) r) → grid_of cs rs f ≡ w
  filled_again w s cs rs f ec er h =
      ap (λ c. grid_of c rs f) ec ∙ ap (λ q. grid_of w.columns q f) er
      ∙ grid_of_same w.columns w.rows f (λ d r. cell id w (id d) r) s.distinct h
      ∙ grid_of-cell w s

  -- a grid of the columns, the rows and the cells of another is that one
  pub same_grid : (w : Grid C) → IsGrid id w → (g : Grid C) → IsGrid id g → g.columns ≡ w.columns → g.rows ≡ w.rows
      → ((d : C) (r : ℕ) → find_id id (id d) w.columns ≡ Some d → has w.rows r ≡ true → cell id g (id d) r ≡ cell id w (id d) r) → g ≡ w
  same_grid w s g t ec er h = sym (grid_of-cell g t) ∙ filled_again w s g.columns g.rows (λ d r. cell id g (id d) r) ec er h

  -- what is filled is a grid
  pub IsGrid-grid_of : (cs : List C) (rs : List ℕ) (f : C → ℕ → CellValue) → AreDistinct id cs → IsAscending rs → IsGrid id (grid_of cs rs f)
  IsGrid-grid_of cs rs f s a = record {
    distinct = s;
    ascending = a;
    height = length_map (λ r. map (λ d. f d r) cs) rs;
    width = each_map (λ row. length row ≡ length cs) (λ r. map (λ d. f d r) cs) rs (λ r. length_map (λ d. f d r) cs);
  }
