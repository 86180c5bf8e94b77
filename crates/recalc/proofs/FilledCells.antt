-- What is told of a cell, all values known, is what the document with its values in place holds.
use Rattle.std.proofs.Common.{ℕ, Bool, true, false, cond, ◌&&◌, List, ◌≡◌, refl, sym, ap, ◌∙◌, Option, Some, None, Bor}
use Rattle.std.specs.Option.{option_map, option_copied, is_some, MatchOption}
use Rattle.cell_types.specs.declared.value.CellValue.{CellValue}
use Rattle.doc_model.specs.declared.column.ColDef.{ColDef}
use Rattle.doc_model.specs.ByIds.{find_id, has_id}
use Rattle.doc_model.specs.Column.{column_id}
use Rattle.doc_model.specs.Document.{Table, Document, table_id}
use Rattle.doc_model.specs.Grid.{cell}
use Rattle.doc_model.specs.Readers.{cell_at}
use Rattle.doc_model.specs.Rows.{has}
use Rattle.doc_model.proofs.ByIdsLaws.{found_id, has_id-find}
use Rattle.doc_model.proofs.GridLaws.{cell-grid_of}
use Rattle.formula_eval.specs.Reader.{Told, known, no_table, no_row}
use Rattle.recalc.specs.Cells.{cell_of}
use Rattle.recalc.specs.Evaluated.{base_at, base_in, fill, filled_by, formula_at, formula_in}
use Rattle.recalc.specs.Seen.{value_told}
use Rattle.recalc.specs.Sheet.{Values, told_by}
use Rattle.recalc.proofs.FilledLemmas.{filled_table, find_filled}

pub copied_match : {X : Type 0} (o : Option (Bor X)) {p : Option X} → option_copied o ≡ p → MatchOption o (p ≡ None) (λ v. p ≡ Some v.now)
copied_match None e = sym e
copied_match (Some v) e = sym e

module _ (v : List ℕ → List ℕ → ℕ → CellValue) (s : Document) (k : Values) (t c : List ℕ) (r : ℕ)
    (all : (f : List ℕ) → formula_at s (cell_of t c r) ≡ Some f → k (cell_of t c r) ≡ Some (v t c r)) where
  abbrev formula_of : Option Table → Option (List ℕ)
  formula_of o = elim o as (λ _. Option (List ℕ)) [ None ↦ None | Some u ↦ elim (find_id column_id c u.grid.columns) as (λ _. Option (List ℕ)) [ None ↦ None | Some d ↦ formula_in u.grid r d ] ]

  abbrev told_of : Option Table → Option CellValue
  told_of o = value_told (told_by (formula_of o) (elim o as (λ _. Told) [ None ↦ no_table | Some u ↦ base_in u.grid (cell_of t c r) (find_id column_id c u.grid.columns) ]) (k (cell_of t c r)))

  abbrev held_of : Option Table → Option CellValue
  held_of o = elim o as (λ _. Option CellValue) [ None ↦ None | Some u ↦ cond (has_id column_id u.grid.columns c && has u.grid.rows r) (Some (cell column_id u.grid c r)) None ]

  module _ (u : Table) (at : find_id table_id t s ≡ Some u) where
    abbrev told_in : Option ColDef → Option CellValue
    told_in o = value_told (told_by (elim o as (λ _. Option (List ℕ)) [ None ↦ None | Some d ↦ formula_in u.grid r d ]) (base_in u.grid (cell_of t c r) o) (k (cell_of t c r)))

    in_column : (o : Option ColDef) → find_id column_id c u.grid.columns ≡ o → told_in o ≡ cond (has_id column_id u.grid.columns c && has u.grid.rows r) (Some (cell column_id (fill (v u.id) u.grid) c r)) None
    in_column None e = ap (λ b. cond (b && has u.grid.rows r) (Some (cell column_id (fill (v u.id) u.grid) c r)) None) (sym (has_id-find column_id c u.grid.columns ∙ ap is_some e))
    in_column (Some d) e =
        by_row (has u.grid.rows r) refl
        ∙ ap (λ b. cond (b && has u.grid.rows r) (Some (cell column_id (fill (v u.id) u.grid) c r)) None) (sym (has_id-find column_id c u.grid.columns ∙ ap is_some e))
      where
        named : d.id ≡ c
        named = found_id column_id c u.grid.columns d e

        formula_is : formula_at s (cell_of t c r) ≡ formula_in u.grid r d
        formula_is = ap formula_of at ∙ ap (λ (o : Option ColDef). elim o as (λ _. Option (List ℕ)) [ None ↦ None | Some d ↦ formula_in u.grid r d ]) e

        cell_is : has u.grid.rows r ≡ true → cell column_id (fill (v u.id) u.grid) c r ≡ cond d.info.is_formula (v t c r) (cell column_id u.grid c r)
        cell_is h =
            ap (λ n. cell column_id (fill (v u.id) u.grid) n r) (sym named)
            ∙ cell-grid_of column_id u.grid.columns u.grid.rows (λ e r. cond e.info.is_formula (v u.id e.id r) (cell column_id u.grid e.id r)) d r (ap (λ n. find_id column_id n u.grid.columns) named ∙ e) h
            ∙ ap (λ n. cond d.info.is_formula (v n d.id r) (cell column_id u.grid d.id r)) (found_id table_id t s u at)
            ∙ ap (λ n. cond d.info.is_formula (v t n r) (cell column_id u.grid n r)) named

        by_kind : (b : Bool) → d.info.is_formula ≡ b → has u.grid.rows r ≡ true
            → value_told (told_by (cond (b && true) (Some d.info.formula) None) (known (cell column_id u.grid c r)) (k (cell_of t c r))) ≡ Some (cond b (v t c r) (cell column_id u.grid c r))
        by_kind true is h = ap (λ o. value_told (told_by (Some d.info.formula) (known (cell column_id u.grid c r)) o))
            (all d.info.formula (formula_is ∙ ap (λ b. cond (b && has u.grid.rows r) (Some d.info.formula) None) is ∙ ap (λ b. cond b (Some d.info.formula) None) h))
        by_kind false is h = refl

        no_cell : (b : Bool) → None ≡ value_told (told_by (cond (b && false) (Some d.info.formula) None) no_row (k (cell_of t c r)))
        no_cell true = refl
        no_cell false = refl

        by_row : (b : Bool) → has u.grid.rows r ≡ b → told_in (Some d) ≡ cond b (Some (cell column_id (fill (v u.id) u.grid) c r)) None
        by_row true h =
            ap (λ b. value_told (told_by (cond (d.info.is_formula && b) (Some d.info.formula) None) (cond b (known (cell column_id u.grid c r)) no_row) (k (cell_of t c r)))) h
            ∙ by_kind d.info.is_formula refl h ∙ ap (λ x. Some x) (sym (cell_is h))
        by_row false h =
            ap (λ b. value_told (told_by (cond (d.info.is_formula && b) (Some d.info.formula) None) (cond b (known (cell column_id u.grid c r)) no_row) (k (cell_of t c r)))) h
            ∙ sym (no_cell d.info.is_formula)

  in_table : (o : Option Table) → find_id table_id t s ≡ o → told_of o ≡ held_of (option_map (filled_table v) o)
  in_table None e = refl
  in_table (Some u) e = in_column u e (find_id column_id c u.grid.columns) refl

  pub filled_told : value_told (told_by (formula_at s (cell_of t c r)) (base_at s (cell_of t c r)) (k (cell_of t c r))) ≡ cell_at (filled_by v s) t c r
  filled_told = in_table (find_id table_id t s) refl ∙ ap held_of (sym (find_filled v t s))
