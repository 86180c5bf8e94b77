-- What a table keeps is what the definitions tell of it.
use Rattle.std.proofs.Common.{ℕ, Bool, true, false, cond, ◌||◌, ◌&&◌, List, [], ◌∷◌, length, ◌≡◌, refl, sym, ap, ◌∙◌, Option, Some, None, unwrap_or, nat_eq, MatchOption, Bor, arith}
use Rattle.std.proofs.lemmas.Bool.{false≢true, true≢false}
use Rattle.std.specs.List.{list_any, AllByRecursion}
use Rattle.std.specs.Option.{option_copied}
use Rattle.std.specs.Str.{bytes_eq}
use Rattle.cell_types.specs.declared.value.CellValue.{CellValue}
use Rattle.cell_types.specs.declared.value.CellValue.TheVariants.{Null}
use Rattle.doc_model.specs.declared.column.ColDef.{ColDef}
use Rattle.doc_model.specs.ByIds.{find_id, has_id}
use Rattle.doc_model.specs.Rows.{has}
use Rattle.doc_model.specs.Column.{column_id}
use Rattle.doc_model.specs.Grid.{Grid, IsGrid, beside, cell}
use Rattle.doc_model.specs.Document.{Table, Document, table_id}
use Rattle.doc_model.specs.Readers.{cell_at}
use Rattle.doc_model.specs.Sound.{IsSoundGrid, IsSound}
use Rattle.doc_model.proofs.ByIdsLaws.{found_all}
use Rattle.row_tables.specs.Kept.{found_beside, kept}

module _ {K V : Type 0} (p : K → Bool) where
  pub found_or : (ks : List K) (vs : List V) (d : V) → unwrap_or (found_beside p ks vs) d ≡ beside p ks vs d
  found_or [] vs d = refl
  found_or (k ∷ ks) [] d = refl
  found_or (k ∷ ks) (v ∷ vs) d = elim (p k) as (λ b. unwrap_or (cond b (Some v) (found_beside p ks vs)) d ≡ cond b v (beside p ks vs d)) [ true ↦ refl | false ↦ found_or ks vs d ]

  -- beside as many keys something is found where a key passes
  found_where : (ks : List K) (vs : List V) (d : V) → length vs ≡ length ks → found_beside p ks vs ≡ cond (list_any p ks) (Some (beside p ks vs d)) None
  found_where [] vs d e = refl
  found_where (k ∷ ks) [] d e = absurd (omega arith)
  found_where (k ∷ ks) (v ∷ vs) d e =
      elim (p k) as (λ b. cond b (Some v) (found_beside p ks vs) ≡ cond (b || list_any p ks) (Some (cond b v (beside p ks vs d))) None) [ true ↦ refl | false ↦ found_where ks vs d (omega arith) ]

  -- what holds of each holds of what stands there
  each_beside : (P : V → Type 0) (ks : List K) (vs : List V) (d : V) → length vs ≡ length ks → AllByRecursion P vs → list_any p ks ≡ true → P (beside p ks vs d)
  each_beside P [] vs d e h any = absurd (false≢true any)
  each_beside P (k ∷ ks) [] d e h any = absurd (omega arith)
  each_beside P (k ∷ ks) (v ∷ vs) d e h any =
      elim (p k) as (λ b. (b || list_any p ks) ≡ true → P (cond b v (beside p ks vs d))) [ true ↦ λ _. h.0 | false ↦ λ any. each_beside P ks vs d (omega arith) h.1 any ] any

  pub beside_absent : (ks : List K) (vs : List V) (d : V) → list_any p ks ≡ false → beside p ks vs d ≡ d
  beside_absent [] vs d e = refl
  beside_absent (k ∷ ks) [] d e = refl
  beside_absent (k ∷ ks) (v ∷ vs) d e = elim (p k) as (λ b. (b || list_any p ks) ≡ false → cond b v (beside p ks vs d) ≡ d) [ true ↦ λ e. absurd (true≢false e) | false ↦ λ e. beside_absent ks vs d e ] e

found_nothing : {K V : Type 0} (p : K → Bool) (ks : List K) → ◌≡◌ {A = Option V} (found_beside p ks []) None
found_nothing p [] = refl
found_nothing p (k ∷ ks) = refl

-- a grid keeps a cell for each column and row that it has
pub kept-cell : (g : Grid ColDef) (c : List ℕ) (r : ℕ) → IsGrid column_id g → kept g c r ≡ cond (has_id column_id g.columns c && has g.rows r) (Some (cell column_id g c r)) None
kept-cell g c r grid =
    elim (has g.rows r) as (λ b. has g.rows r ≡ b → kept g c r ≡ cond (has_id column_id g.columns c && b) (Some (cell column_id g c r)) None) [
      | true ↦ λ here.
          found_where (λ d. bytes_eq (column_id d) c) g.columns (beside (λ q. nat_eq q r) g.rows g.cells []) Null
          (each_beside (λ q. nat_eq q r) (λ row. length row ≡ length g.columns) g.rows g.cells [] grid.height grid.width here)
          ∙ elim (has_id column_id g.columns c) as (λ a. cond a (Some (cell column_id g c r)) None ≡ cond (a && true) (Some (cell column_id g c r)) None) [ true ↦ refl | false ↦ refl ]
      | false ↦ λ absent.
          ap (found_beside (λ d. bytes_eq (column_id d) c) g.columns) (beside_absent (λ q. nat_eq q r) g.rows g.cells [] absent)
          ∙ found_nothing (λ d. bytes_eq (column_id d) c) g.columns
          ∙ elim (has_id column_id g.columns c) as (λ a. ◌≡◌ {A = Option CellValue} None (cond (a && false) (Some (cell column_id g c r)) None)) [ true ↦ refl | false ↦ refl ]
    ] refl

-- what is kept, or null, is the cell
pub kept_or : (g : Grid ColDef) (c : List ℕ) (r : ℕ) → unwrap_or (kept g c r) Null ≡ cell column_id g c r
kept_or g c r = found_or (λ d. bytes_eq (column_id d) c) g.columns (beside (λ q. nat_eq q r) g.rows g.cells []) Null

-- what a reference leads to, or that there is none
pub told_by : {X : Type 0} (answer : Option (Bor X)) (o : Option X) → option_copied answer ≡ o → MatchOption answer (o ≡ None) (λ x. o ≡ Some x.now)
told_by None o e = sym e
told_by (Some x) o e = sym e

-- the cell of a table that is found
pub cell-found : (s : Document) (table c : List ℕ) (r : ℕ) (t : Table) → IsSound s → find_id table_id table s ≡ Some t → kept t.grid c r ≡ cell_at s table c r
cell-found s table c r t sound found =
    let grid : IsSoundGrid t.grid = found_all table_id (λ t. IsSoundGrid t.grid) table s t sound.grids found in
    kept-cell t.grid c r grid.is_grid
    ∙ ap (λ o. elim o as (λ _. Option CellValue) [ None ↦ None | Some t ↦ cond (has_id column_id t.grid.columns c && has t.grid.rows r) (Some (cell column_id t.grid c r)) None ]) (sym found)
