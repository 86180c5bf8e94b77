-- What a document with its values in place tells.
use Rattle.std.proofs.Common.{ℕ, zero, suc, true, false, cond, List, [], ◌∷◌, slice_get, ◌≡◌, refl, ap, ◌∙◌, Option, Some, None}
use Rattle.std.specs.Option.{option_map}
use Rattle.std.specs.Str.{bytes_eq}
use Rattle.cell_types.specs.declared.value.CellValue.{CellValue}
use Rattle.doc_model.specs.declared.column.ColDef.{ColDef}
use Rattle.doc_model.specs.ByIds.{find_id}
use Rattle.doc_model.specs.Document.{Table, Document, table_id, on_grid}
use Rattle.doc_model.specs.Readers.{table_at, column_at, rows_at}
use Rattle.recalc.specs.Evaluated.{fill, filled_by}

module _ (v : List ℕ → List ℕ → ℕ → CellValue) where
  abbrev pub filled_table : Table → Table
  filled_table t = on_grid (fill (v t.id)) t

  pub find_filled : (id : List ℕ) (s : Document) → find_id table_id id (filled_by v s) ≡ option_map filled_table (find_id table_id id s)
  find_filled id [] = refl
  find_filled id (t ∷ s) = elim (bytes_eq t.id id) as (λ b. cond b (Some (filled_table t)) (find_id table_id id (filled_by v s)) ≡ option_map filled_table (cond b (Some t) (find_id table_id id s))) [ true ↦ refl | false ↦ find_filled id s ]

  pub table_filled : (s : Document) (i : ℕ) → table_at (filled_by v s) i ≡ table_at s i
  table_filled [] i = refl
  table_filled (t ∷ s) zero = refl
  table_filled (t ∷ s) (suc i) = table_filled s i

  pub column_filled : (s : Document) (t : List ℕ) (i : ℕ) → column_at (filled_by v s) t i ≡ column_at s t i
  column_filled s t i =
      ap (λ (o : Option Table). elim o as (λ _. Option ColDef) [ None ↦ None | Some u ↦ slice_get u.grid.columns i ]) (find_filled t s)
      ∙ elim (find_id table_id t s) as (λ (o : Option Table). elim (option_map filled_table o) as (λ _. Option ColDef) [ None ↦ None | Some u ↦ slice_get u.grid.columns i ] ≡ elim o as (λ _. Option ColDef) [ None ↦ None | Some u ↦ slice_get u.grid.columns i ]) [ None ↦ refl | Some u ↦ refl ]

  pub rows_filled : (s : Document) (t : List ℕ) → rows_at (filled_by v s) t ≡ rows_at s t
  rows_filled s t =
      ap (λ (o : Option Table). elim o as (λ _. Option (List ℕ)) [ None ↦ None | Some u ↦ Some u.grid.rows ]) (find_filled t s)
      ∙ elim (find_id table_id t s) as (λ (o : Option Table). elim (option_map filled_table o) as (λ _. Option (List ℕ)) [ None ↦ None | Some u ↦ Some u.grid.rows ] ≡ elim o as (λ _. Option (List ℕ)) [ None ↦ None | Some u ↦ Some u.grid.rows ]) [ None ↦ refl | Some u ↦ refl ]
