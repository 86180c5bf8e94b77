-- Columns as a document tells them.
use Rattle.std.proofs.Common.{ℕ, zero, suc, ◌+◌, true, false, cond, List, [], ◌∷◌, drop, slice_get, ◌≡◌, refl, sym, ap, ◌∙◌, Option, Some, None, arith}
use Rattle.std.specs.Str.{bytes_eq}
use Rattle.doc_readers.specs.Parts.{grid_at}
use Rattle.doc_model.specs.declared.column.ColDef.{ColDef}
use Rattle.doc_model.specs.ByIds.{find_id}
use Rattle.doc_model.specs.Column.{column_id}
use Rattle.doc_model.specs.Document.{Table, Document, table_id}
use Rattle.doc_model.specs.Grid.{Grid}
use Rattle.doc_model.specs.Readers.{column_at}
use Rattle.doc_model.specs.Schema.{no_grid}
use Rattle.doc_model.proofs.Choices.{cond_true, cond_false}

-- ---- what is told of a column

pub column_read : (s : Document) (t : List ℕ) (i : ℕ) (d : ColDef) → column_at s t i ≡ Some d → slice_get (grid_at s t).columns i ≡ Some d
column_read s t i d h =
    elim (find_id table_id t s) as (λ (o : Option Table). elim o as (λ _. Option ColDef) [ None ↦ None | Some t ↦ slice_get t.grid.columns i ] ≡ Some d
    → slice_get (elim o as (λ _. Grid ColDef) [ None ↦ no_grid | Some t ↦ t.grid ]).columns i ≡ Some d) [
      | None ↦ λ e. absurd (cc)
      | Some t ↦ λ e. e
    ] h

pub column_past : (s : Document) (t : List ℕ) (i : ℕ) → column_at s t i ≡ None → slice_get (grid_at s t).columns i ≡ None
column_past s t i h =
    elim (find_id table_id t s) as (λ (o : Option Table). elim o as (λ _. Option ColDef) [ None ↦ None | Some t ↦ slice_get t.grid.columns i ] ≡ None
    → slice_get (elim o as (λ _. Grid ColDef) [ None ↦ no_grid | Some t ↦ t.grid ]).columns i ≡ None) [
      | None ↦ λ e. refl
      | Some t ↦ λ e. e
    ] h

-- ---- a walk over the columns

drop_at : (cs : List ColDef) (i j : ℕ) (d : ColDef) → j ≡ suc i → slice_get cs i ≡ Some d → drop i cs ≡ d ∷ drop j cs
drop_at [] zero j d next h = absurd (cc)
drop_at [] (suc i) j d next h = absurd (cc)
drop_at (c ∷ cs) zero j d next h = let same : c ≡ d = cc in ap (λ x. x ∷ cs) same ∙ ap (λ n. d ∷ drop n (c ∷ cs)) (sym next)
drop_at (c ∷ cs) (suc i) j d next h = drop_at cs i (suc i) d refl h ∙ ap (λ n. d ∷ drop n (c ∷ cs)) (sym next)

drop_past : (cs : List ColDef) (i : ℕ) → slice_get cs i ≡ None → drop i cs ≡ []
drop_past [] zero h = refl
drop_past [] (suc i) h = refl
drop_past (c ∷ cs) zero h = absurd (cc)
drop_past (c ∷ cs) (suc i) h = drop_past cs i h

module _ (s : Document) (t c : List ℕ) (i : ℕ) (rest : find_id column_id c (drop i (grid_at s t).columns) ≡ find_id column_id c (grid_at s t).columns) where
  walk : (d : ColDef) → column_at s t i ≡ Some d → cond (bytes_eq d.id c) (Some d) (find_id column_id c (drop (i + 1) (grid_at s t).columns)) ≡ find_id column_id c (grid_at s t).columns
  walk d h = sym (ap (find_id column_id c) (drop_at (grid_at s t).columns i (i + 1) d (omega arith) (column_read s t i d h))) ∙ rest

  pub column_found : (d : ColDef) → column_at s t i ≡ Some d → bytes_eq d.id c ≡ true → Some d ≡ find_id column_id c (grid_at s t).columns
  column_found d h is = sym (cond_true (bytes_eq d.id c) (Some d) _ is) ∙ walk d h

  pub column_passed : (d : ColDef) → column_at s t i ≡ Some d → bytes_eq d.id c ≡ false → find_id column_id c (drop (i + 1) (grid_at s t).columns) ≡ find_id column_id c (grid_at s t).columns
  column_passed d h isnt = sym (cond_false (bytes_eq d.id c) (Some d) _ isnt) ∙ walk d h

  pub column_absent : column_at s t i ≡ None → None ≡ find_id column_id c (grid_at s t).columns
  column_absent h = sym (ap (find_id column_id c) (drop_past (grid_at s t).columns i (column_past s t i h))) ∙ rest
