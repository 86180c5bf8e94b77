-- Which row an attribute finds.
use Rattle.std.proofs.Common.{◌≡◌, ◌∙◌, ◌≤◌, ◌<◌, ap, refl, sym, arith, ℕ, Bool, true, false, cond, ◌&&◌, ◌||◌, eqb, List, [], ◌∷◌, find, Option, Some, None}
use Rattle.std.proofs.lemmas.Bool.{false≢true, or_right}
use Rattle.cell_types.specs.declared.value.CellValue.{CellValue}
use Rattle.doc_model.specs.declared.column.ColDef.{ColDef}
use Rattle.doc_model.specs.ByIds.{find_id, has_id}
use Rattle.doc_model.specs.Column.{column_id}
use Rattle.doc_model.specs.Document.{Document, Table, table_id}
use Rattle.doc_model.specs.Grid.{Grid, cell}
use Rattle.doc_model.specs.Readers.{cell_at}
use Rattle.doc_model.specs.Rows.{IsAscending, has}
use Rattle.doc_model.specs.Schema.{no_grid}
use Rattle.doc_model.proofs.Choices.{each_weaker}
use Rattle.doc_model.proofs.RowsLaws.{number_itself}
use Rattle.doc_readers.specs.Parts.{grid_at}
use Rattle.user_attrs.specs.Laws.{AbsentLaw, IsLeast, LeastLaw}
use Rattle.user_attrs.specs.UserInfos.{first_with, holds}

least : (test : ℕ → Bool) (rows : List ℕ) → IsAscending rows → IsLeast test rows (find test rows)
least test [] a = tt
least test (r ∷ rows) a = by (test r) (find test rows) refl (least test rows a.1)
  where
    by : (b : Bool) (o : Option ℕ) → test r ≡ b → IsLeast test rows o → IsLeast test (r ∷ rows) (cond b (Some r) o)
    by true o e rest =
        (ap (λ b. b || has rows r) (number_itself r), e, (λ _. omega arith, each_weaker (λ q. r < q) (λ q. test q ≡ true → r ≤ q) (λ q lt _. omega (arith, lt)) rows a.0))
    by false None e rest = (e, rest)
    by false (Some q) e rest = (or_right (eqb r q) (has rows q) rest.0, rest.1, (λ h. absurd (false≢true (sym e ∙ h)), rest.2))

pub least_found : LeastLaw
least_found s table column v a = least (λ r. holds v (cell_at s table column r)) (grid_at s table).rows a

cell_absent : (s : Document) (table column : List ℕ) (r : ℕ) → has_id column_id (grid_at s table).columns column ≡ false → cell_at s table column r ≡ None
cell_absent s table column r h =
    elim (find_id table_id table s) as (λ (o : Option Table). has_id column_id (elim o as (λ _. Grid ColDef) [ None ↦ no_grid | Some t ↦ t.grid ]).columns column ≡ false
    → (elim o as (λ _. Option CellValue) [ None ↦ None | Some t ↦ cond (has_id column_id t.grid.columns column && has t.grid.rows r) (Some (cell column_id t.grid column r)) None ]) ≡ None) [
      | None ↦ λ _. refl
      | Some t ↦ λ e. ap (λ (b : Bool). cond (b && has t.grid.rows r) (Some (cell column_id t.grid column r)) None) e
    ] h

none_among : (s : Document) (table column : List ℕ) (v : CellValue) → has_id column_id (grid_at s table).columns column ≡ false → (rows : List ℕ) → first_with s table column v rows ≡ None
none_among s table column v h [] = refl
none_among s table column v h (r ∷ rows) =
    ap (λ (o : Option CellValue). cond (holds v o) (Some r) (first_with s table column v rows)) (cell_absent s table column r h) ∙ none_among s table column v h rows

pub absent_finds_none : AbsentLaw
absent_finds_none s table column v h = none_among s table column v h (grid_at s table).rows
