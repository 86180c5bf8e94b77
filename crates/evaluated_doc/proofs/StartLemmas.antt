-- The first evaluation of a document that had no formulas.
use Rattle.std.proofs.Common.{ℕ, ◌+◌, ◌≤◌, true, false, cond, not, ◌&&◌, ◌||◌, List, [], ◌≡◌, refl, ap, Option, Some, None}
use Rattle.std.specs.Option.{is_some}
use Rattle.cell_types.specs.declared.cell.CellId.{CellId}
use Rattle.doc_model.specs.declared.action.DocAction.{DocAction}
use Rattle.doc_model.specs.declared.column.ColDef.{ColDef}
use Rattle.doc_model.specs.Apply.{apply}
use Rattle.doc_model.specs.ByIds.{find_id}
use Rattle.doc_model.specs.Column.{column_id}
use Rattle.doc_model.specs.Document.{Document, Table, table_id}
use Rattle.doc_model.specs.Rows.{has}
use Rattle.doc_model.specs.Valid.{valid}
use Rattle.doc_model.proofs.ByIdsLaws.{found_all}
use Rattle.recalc.specs.Current.{has_formula, has_formulas}
use Rattle.recalc.specs.Evaluated.{formula_at, formula_cells, formula_in, sheet_of}
use Rattle.recalc.proofs.PlainLemmas.{any_none}
use Rattle.affected_cells.specs.Affected.{is_modified}
use Rattle.affected_cells.specs.Bound.{attempt_bound, bound}
use Rattle.affected_search.specs.ExactNotes.{HasNoReads}
use Rattle.affected_search.proofs.ExactNotes.{none_exact}
use Rattle.known_reads.specs.Attempts.{HasFormulas}
use Rattle.known_reads.specs.Beside.{Beside, KnowsReads}
use Rattle.known_reads.proofs.BesideLemmas.{exact_reads}
use Rattle.evaluated_doc.proofs.SpentLemmas.{fresh_affected, spent_within}

-- a document without formulas has no formula cells
pub plain_cell : (s : Document) → has_formulas s ≡ false → (c : CellId) → formula_at s c ≡ None
plain_cell s plain c =
    elim (find_id table_id c.table s) as (λ (o : Option Table). find_id table_id c.table s ≡ o
    → elim o as (λ _. Option (List ℕ)) [ None ↦ None | Some t ↦ elim (find_id column_id c.column t.grid.columns) as (λ _. Option (List ℕ)) [ None ↦ None | Some d ↦ formula_in t.grid c.row d ] ] ≡ None) [
      | None ↦ λ e. refl
      | Some t ↦ λ e. in_table t (found_all table_id (λ (t : Table). has_formula t.grid.columns ≡ false) c.table s t (any_none (λ (t : Table). has_formula t.grid.columns) s plain) e)
    ] refl
  where
    in_table : (t : Table) → has_formula t.grid.columns ≡ false → elim (find_id column_id c.column t.grid.columns) as (λ _. Option (List ℕ)) [ None ↦ None | Some d ↦ formula_in t.grid c.row d ] ≡ None
    in_table t h =
        elim (find_id column_id c.column t.grid.columns) as (λ (o : Option ColDef). find_id column_id c.column t.grid.columns ≡ o → elim o as (λ _. Option (List ℕ)) [ None ↦ None | Some d ↦ formula_in t.grid c.row d ] ≡ None) [
          | None ↦ λ e. refl
          | Some d ↦ λ e. ap (λ b. cond (b && has t.grid.rows c.row) (Some d.info.formula) None)
              (found_all column_id (λ (d : ColDef). d.info.is_formula ≡ false) c.column t.grid.columns d (any_none (λ (d : ColDef). d.info.is_formula) t.grid.columns h) e)
        ] refl

-- where there were no formulas, each formula cell is one that the action may affect
pub whole_spent : (s now : Document) (a : DocAction) (old new : ℕ) → has_formulas s ≡ false → valid s a ≡ true → now ≡ apply s a
    → ((all : List CellId) → HasFormulas now (formula_cells now) all → new ≤ old + attempt_bound (sheet_of now) all) → new ≤ old + bound s a
whole_spent s now a old new plain ok done within =
    spent_within s now a (formula_cells now) old new ok done (λ ok c here there. fresh_affected s a c there (ap (λ o. not (is_some o) || is_modified a c) (plain_cell s plain c))) within

-- a graph without reads is right of it
pub plain_known : (s : Document) → has_formulas s ≡ false → (known : Beside) → known.stale ≡ [] → known.owed ≡ [] → HasNoReads known.graph → KnowsReads s known
plain_known s plain known none owed empty = exact_reads s known none owed (λ c. none_exact (sheet_of s) known.graph empty c (plain_cell s plain c))
