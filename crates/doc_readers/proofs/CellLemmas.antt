-- Cells as a store tells them, and as definitions read them.
use Rattle.std.proofs.Common.{ℕ, Bool, true, false, cond, ◌&&◌, ◌||◌, nat_eq, List, [], ◌∷◌, ◌≡◌, refl, sym, ap, ◌∙◌, Option, Some, None}
use Rattle.std.proofs.lemmas.Bool.{true≢false}
use Rattle.std.specs.List.{list_any}
use Rattle.cell_types.specs.declared.value.CellValue.{CellValue}
use Rattle.cell_types.specs.declared.value.CellValue.TheVariants.{Null}
use Rattle.doc_model.specs.declared.column.ColDef.{ColDef}
use Rattle.doc_model.specs.ByIds.{find_id, has_id}
use Rattle.doc_model.specs.Rows.{has}
use Rattle.doc_model.specs.Grid.{Grid, beside, cell}
use Rattle.doc_model.specs.Column.{column_id}
use Rattle.doc_model.specs.Document.{Table, Document, table_id}
use Rattle.doc_model.specs.Readers.{cell_at}
use Rattle.doc_model.specs.Schema.{no_grid}
use Rattle.std.specs.Str.{bytes_eq}
use Rattle.doc_model.proofs.Choices.{cond_false}
use Rattle.doc_readers.specs.Parts.{grid_at}

-- where no key passes, the last argument stands
beside_none : {K V : Type 0} (test : K → Bool) (ks : List K) (vs : List V) (d : V) → list_any test ks ≡ false → beside test ks vs d ≡ d
beside_none test [] vs d h = refl
beside_none test (k ∷ ks) [] d h = refl
beside_none test (k ∷ ks) (v ∷ vs) d h =
    elim (test k) as (λ b. test k ≡ b → (b || list_any test ks) ≡ false → beside test (k ∷ ks) (v ∷ vs) d ≡ d) [
      | true ↦ λ _ h. absurd (true≢false h)
      | false ↦ λ no h. cond_false (test k) v (beside test ks vs d) no ∙ beside_none test ks vs d h
    ] refl h

-- where there are no values, too
beside_empty : {K V : Type 0} (test : K → Bool) (ks : List K) (d : V) → beside {V = V} test ks [] d ≡ d
beside_empty test [] d = refl
beside_empty test (k ∷ ks) d = refl

-- what a store tells of a grid's cell
abbrev told : Grid ColDef → List ℕ → ℕ → Option CellValue
told g c r = cond (has_id column_id g.columns c && has g.rows r) (Some (cell column_id g c r)) None

-- a grid's cell that is not there
no_cell : (g : Grid ColDef) (c : List ℕ) (r : ℕ) → (has_id column_id g.columns c && has g.rows r) ≡ false → Null ≡ cell column_id g c r
no_cell g c r h =
    elim (has_id column_id g.columns c) as (λ b. has_id column_id g.columns c ≡ b → (b && has g.rows r) ≡ false → Null ≡ cell column_id g c r) [
      | true ↦ λ _ no. sym (
          ap (λ vs. beside (λ d. bytes_eq (column_id d) c) g.columns vs Null) (beside_none (λ q. nat_eq q r) g.rows g.cells [] no)
          ∙ beside_empty (λ d. bytes_eq (column_id d) c) g.columns Null)
      | false ↦ λ no _. sym (beside_none (λ d. bytes_eq (column_id d) c) g.columns (beside (λ q. nat_eq q r) g.rows g.cells []) Null no)
    ] refl h

told_none : (g : Grid ColDef) (c : List ℕ) (r : ℕ) → told g c r ≡ None → Null ≡ cell column_id g c r
told_none g c r h =
    no_cell g c r (elim (has_id column_id g.columns c && has g.rows r) as (λ b. cond b (Some (cell column_id g c r)) None ≡ None → b ≡ false) [
      | true ↦ λ e. absurd (cc)
      | false ↦ λ _. refl
    ] h)

told_some : (g : Grid ColDef) (c : List ℕ) (r : ℕ) (v : CellValue) → told g c r ≡ Some v → v ≡ cell column_id g c r
told_some g c r v h =
    elim (has_id column_id g.columns c && has g.rows r) as (λ b. cond b (Some (cell column_id g c r)) None ≡ Some v → v ≡ cell column_id g c r) [
      | true ↦ λ e. cc
      | false ↦ λ e. absurd (cc)
    ] h

pub cell_absent : (s : Document) (t c : List ℕ) (r : ℕ) → cell_at s t c r ≡ None → Null ≡ cell column_id (grid_at s t) c r
cell_absent s t c r h =
    elim (find_id table_id t s) as (λ (o : Option Table). elim o as (λ _. Option CellValue) [ None ↦ None | Some t ↦ told t.grid c r ] ≡ None
    → Null ≡ cell column_id (elim o as (λ _. Grid ColDef) [ None ↦ no_grid | Some t ↦ t.grid ]) c r) [
      | None ↦ λ e. refl
      | Some t ↦ λ e. told_none t.grid c r e
    ] h

pub cell_there : (s : Document) (t c : List ℕ) (r : ℕ) (v : CellValue) → cell_at s t c r ≡ Some v → v ≡ cell column_id (grid_at s t) c r
cell_there s t c r v h =
    elim (find_id table_id t s) as (λ (o : Option Table). elim o as (λ _. Option CellValue) [ None ↦ None | Some t ↦ told t.grid c r ] ≡ Some v
    → v ≡ cell column_id (elim o as (λ _. Grid ColDef) [ None ↦ no_grid | Some t ↦ t.grid ]) c r) [
      | None ↦ λ e. absurd (cc)
      | Some t ↦ λ e. told_some t.grid c r v e
    ] h

pub ruleset cell_told = (cell_absent, cell_there)
