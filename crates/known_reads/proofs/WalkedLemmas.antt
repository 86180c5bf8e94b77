-- What holds of all formula cells once it holds of each, table by table, column by column, row by
-- row.
use Rattle.std.proofs.Common.{ℕ, ◌≤◌, true, false, cond, List, [], ◌∷◌, ◌++◌, map, length, slice_get, ◌≡◌, inl, inr, refl, subst, Option, None, Some}
use Rattle.std.specs.List.{AllByRecursion}
use Rattle.cell_types.specs.declared.cell.CellId.{CellId}
use Rattle.doc_model.specs.declared.column.ColDef.{ColDef}
use Rattle.doc_model.specs.Document.{Table, Document}
use Rattle.doc_model.specs.DocumentLaws.{IsWhole}
use Rattle.doc_model.specs.Grid.{Grid}
use Rattle.doc_model.proofs.Choices.{each_weaker}
use Rattle.doc_readers.specs.Parts.{grid_at}
use Rattle.dep_graph.specs.Graph.{Graph}
use Rattle.recalc.specs.Cells.{cell_of}
use Rattle.recalc.specs.Evaluated.{cells_of_column, cells_of_columns, formula_at, formula_cells, sheet_of}
use Rattle.recalc.specs.Sheet.{IsIn}
use Rattle.recalc.proofs.Progress.{EachOf, cells_of_table, each_all}
use Rattle.recalc.proofs.SheetLemmas.{is_sheet}
use Rattle.recalc.proofs.WholeLemmas.{grid_there}
use Rattle.known_reads.specs.Known.{EachIsRead, IsRead, KeepsReads}
use Rattle.known_reads.proofs.KnownLemmas.{read_stays}

pub each_stays : (s : Document) (old new : Graph) → KeepsReads (sheet_of s) old new → (cells : List CellId) → EachIsRead s old cells → EachIsRead s new cells
each_stays s old new keeps cells all = each_weaker (IsRead s old) (IsRead s new) (read_stays s old new keeps) cells all

module _ (P : CellId → Type 0) where
  append : (cs ds : List CellId) → AllByRecursion P cs → AllByRecursion P ds → AllByRecursion P (cs ++ ds)
  append [] ds a b = b
  append (c ∷ cs) ds a b = (a.0, append cs ds a.1 b)

  of_rows : (t c : List ℕ) (rows : List ℕ) → AllByRecursion (λ r. P (cell_of t c r)) rows → AllByRecursion P (map (cell_of t c) rows)
  of_rows t c [] a = tt
  of_rows t c (r ∷ rows) a = (a.0, of_rows t c rows a.1)

  pub of_column : (t : List ℕ) (g : Grid ColDef) (d : ColDef) (n : ℕ) → length g.rows ≤ n → EachOf (λ r. P (cell_of t d.id r)) g.rows n → AllByRecursion P (cells_of_column t g d)
  of_column t g d n le all =
      elim d.info.is_formula as (λ b. AllByRecursion P (cond b (map (cell_of t d.id) g.rows) [])) [
        | true ↦ of_rows t d.id g.rows (each_all (λ r. P (cell_of t d.id r)) g.rows n le all)
        | false ↦ tt
      ]

  pub of_columns : (t : List ℕ) (g : Grid ColDef) (ds : List ColDef) → AllByRecursion (λ d. AllByRecursion P (cells_of_column t g d)) ds → AllByRecursion P (cells_of_columns t g ds)
  of_columns t g [] a = tt
  of_columns t g (d ∷ ds) a = append (cells_of_column t g d) (cells_of_columns t g ds) a.0 (of_columns t g ds a.1)

  pub of_table : (s : Document) → IsWhole s → (i : ℕ) (t : Table) (id : List ℕ) → slice_get s i ≡ Some t → id ≡ t.id → AllByRecursion P (cells_of_columns id (grid_at s id) (grid_at s id).columns) → AllByRecursion P (cells_of_table t)
  of_table s whole i t id here same all =
      subst (λ (g : Grid ColDef). AllByRecursion P (cells_of_columns t.id g g.columns)) (grid_there s whole i t here) (subst (λ n. AllByRecursion P (cells_of_columns n (grid_at s n) (grid_at s n).columns)) same all)

  of_tables : (ts : List Table) → AllByRecursion (λ t. AllByRecursion P (cells_of_table t)) ts → AllByRecursion P (formula_cells ts)
  of_tables [] a = tt
  of_tables (t ∷ ts) a = append (cells_of_table t) (formula_cells ts) a.0 (of_tables ts a.1)

  of_listed : (c : CellId) (cs : List CellId) → AllByRecursion P cs → IsIn c cs → P c
  of_listed c [] a i = absurd i
  of_listed c (d ∷ ds) a (inl e) = subst P e a.0
  of_listed c (d ∷ ds) a (inr i) = of_listed c ds a.1 i

  -- where it holds of each cell without a formula
  pub of_cells : (s : Document) (n : ℕ) → length s ≤ n → EachOf (λ t. AllByRecursion P (cells_of_table t)) s n → ((c : CellId) → formula_at s c ≡ None → P c) → (c : CellId) → P c
  of_cells s n le all plain c = by (formula_at s c) refl
    where
      by : (o : Option (List ℕ)) → formula_at s c ≡ o → P c
      by None e = plain c e
      by (Some f) e = of_listed c (formula_cells s) (of_tables s (each_all (λ t. AllByRecursion P (cells_of_table t)) s n le all)) ((is_sheet s).listed c f e)
