-- Columns that were copied.
use Rattle.std.proofs.Common.{ℕ, ◌+◌, List, [], ◌∷◌, ◌++◌, map, take, slice_get, ◌≡◌, refl, sym, ap, ◌∙◌, Some, None, unwrap_or, Option}
use Rattle.std.proofs.lemmas.List.{map-append}
use Rattle.cell_types.specs.declared.value.CellValue.{CellValue}
use Rattle.cell_types.specs.declared.value.CellValue.TheVariants.{Null}
use Rattle.doc_model.specs.declared.column.ColDef.{ColDef}
use Rattle.doc_model.specs.Column.{column_id}
use Rattle.doc_model.specs.Document.{Document}
use Rattle.doc_model.specs.Grid.{Grid, cell}
use Rattle.doc_model.specs.Readers.{cell_at}
use Rattle.doc_readers.specs.Parts.{grid_at}
use Rattle.doc_readers.proofs.CellLemmas.{cell_absent, cell_there}
use Rattle.table_copies.specs.declared.columns.CopiedColumn.{CopiedColumn}
use Rattle.censored_view.proofs.PlacedLemmas.{take_next}

-- what is told of a cell, null where there is none
told_or_null : (s : Document) (t c : List ℕ) (r : ℕ) → unwrap_or (cell_at s t c r) Null ≡ cell column_id (grid_at s t) c r
told_or_null s t c r =
    elim (cell_at s t c r) as (λ (o : Option CellValue). cell_at s t c r ≡ o → unwrap_or o Null ≡ cell column_id (grid_at s t) c r) [
      | None ↦ λ is. cell_absent s t c r is
      | Some v ↦ λ is. cell_there s t c r v is
    ] refl

pub cells_told : (s : Document) (t c : List ℕ) (rows : List ℕ) (told : List (Option CellValue)) → told ≡ map (cell_at s t c) rows
    → map (λ o. unwrap_or o Null) told ≡ map (cell column_id (grid_at s t) c) rows
cells_told s t c [] told is = ap (map (λ o. unwrap_or o Null)) is
cells_told s t c (r ∷ rows) told is =
    ap (map (λ o. unwrap_or o Null)) is
    ∙ ap (λ v. v ∷ map (λ o. unwrap_or o Null) (map (cell_at s t c) rows)) (told_or_null s t c r)
    ∙ ap (λ l. cell column_id (grid_at s t) c r ∷ l) (cells_told s t c rows (map (cell_at s t c) rows) refl)

-- one more of the things that were made of a list
made_next : {X Y Z : Type 0} (f : Y → Z) (h : X → Z) (xs : List X) (n : ℕ) (x : X) (y : Y) (ys zs : List Y) → slice_get xs n ≡ Some x
    → map f ys ≡ map h (take n xs) → f y ≡ h x → zs ≡ ys ++ y ∷ [] → map f zs ≡ map h (take (n + 1) xs)
made_next f h xs n x y ys zs at so_far is new =
    ap (map f) new ∙ map-append f ys (y ∷ []) ∙ ap (λ l. l ++ f y ∷ []) so_far ∙ ap (λ z. map h (take n xs) ++ z ∷ []) is
    ∙ sym (map-append h (take n xs) (x ∷ [])) ∙ ap (map h) (sym (take_next xs n x at))

map_itself : {X : Type 0} (xs : List X) → map (λ x. x) xs ≡ xs
map_itself [] = refl
map_itself (x ∷ xs) = ap (λ l. x ∷ l) (map_itself xs)

-- one more column
pub columns_next : (g : Grid ColDef) (rows : List ℕ) (n : ℕ) (d : ColDef) (c : CopiedColumn) (ys zs : List CopiedColumn) → slice_get g.columns n ≡ Some d
    → (map (λ (c : CopiedColumn). c.column) ys ≡ take n g.columns) × (map (λ (c : CopiedColumn). c.cells.items) ys ≡ map (λ (d : ColDef). map (cell column_id g (column_id d)) rows) (take n g.columns))
    → c.column ≡ d → c.cells.items ≡ map (cell column_id g (column_id d)) rows → zs ≡ ys ++ c ∷ []
    → (map (λ (c : CopiedColumn). c.column) zs ≡ take (n + 1) g.columns) × (map (λ (c : CopiedColumn). c.cells.items) zs ≡ map (λ (d : ColDef). map (cell column_id g (column_id d)) rows) (take (n + 1) g.columns))
columns_next g rows n d c ys zs at so_far column cells new = (
  made_next (λ (c : CopiedColumn). c.column) (λ d. d) g.columns n d c ys zs at (so_far.0 ∙ sym (map_itself (take n g.columns))) column new ∙ map_itself (take (n + 1) g.columns),
  made_next (λ (c : CopiedColumn). c.cells.items) (λ (d : ColDef). map (cell column_id g (column_id d)) rows) g.columns n d c ys zs at so_far.1 cells new,
)
