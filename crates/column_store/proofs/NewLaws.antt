-- New rows and their lists of cells put in at their places, and taken out again.
use Rattle.std.proofs.Common.{ℕ, List, [], ◌∷◌, ◌+◌, map, drop, get_or, insert, length, ◌≡◌, ◌<◌, ◌≤◌, sym, ap, subst, ◌∙◌}
use Rattle.std.proofs.lemmas.List.Edits.{length-insert}
use Rattle.std.specs.List.{AllByRecursion}
use Rattle.cell_types.specs.declared.value.CellValue.{CellValue}
use Rattle.doc_model.specs.declared.column.ColDef.{ColDef}
use Rattle.doc_model.specs.Document.{Table, on_grid}
use Rattle.doc_model.proofs.Choices.{length_map}
use Rattle.row_tables.specs.InPlace.{on_rows}
use Rattle.row_tables.specs.RowIndexes.{AreWithin, new_indexes, put_at, taken_out}
use Rattle.row_tables.proofs.AddedLaws.{with_rows, taken_out-put_at, new_within, length-new_indexes}
use Rattle.row_tables.proofs.Walks.{drop_read}
use Rattle.column_store.specs.Changes.{rows_put}

-- each list of new cells is as long as the columns
pub lists_wide : (new : List ℕ) (cs : List ColDef) (f : ColDef → ℕ → CellValue) (lists : List (List CellValue)) (n : ℕ) → lists ≡ map (λ r. map (λ d. f d r) cs) new → n ≡ length cs → AllByRecursion (λ l. length l ≡ n) lists
lists_wide new cs f lists n e w = subst (AllByRecursion (λ l. length l ≡ n)) (sym e) (all new)
  where
    all : (new : List ℕ) → AllByRecursion (λ l. length l ≡ n) (map (λ r. map (λ d. f d r) cs) new)
    all [] = tt
    all (r ∷ new) = (length_map (λ d. f d r) cs ∙ sym w, all new)

pub within_first : (indexes : List ℕ) (n i p : ℕ) → AreWithin (drop i indexes) n → i < length indexes → p ≡ get_or indexes i p → p ≤ n
within_first indexes n i p w l e =
    let parts : (p ≤ n) × AreWithin (drop (i + 1) indexes) (n + 1) = subst (λ z. AreWithin z n) (drop_read indexes i p l e) w in
    parts.0

pub more_rows : {X : Type 0} (xs after : List X) (p : ℕ) (x : X) → p ≤ length xs → after ≡ insert xs p x → length after ≡ length xs + 1
more_rows xs after p x l e = ap length e ∙ length-insert xs p x l

module _ (t : Table) (new : List ℕ) (lists : List (List CellValue)) (indexes rows : List ℕ) (cells : List (List CellValue))
    (high : length t.grid.cells ≡ length t.grid.rows) (each : length lists ≡ length new)
    (noted : indexes ≡ new_indexes new t.grid.rows) (put : rows ≡ put_at (new_indexes new t.grid.rows) new t.grid.rows) (beside : cells ≡ put_at indexes lists t.grid.cells) where
  pub listed : with_rows t rows cells ≡ on_grid (rows_put new lists) t
  listed =
      ap (λ r. with_rows t r cells) put
      ∙ ap (with_rows t (put_at (new_indexes new t.grid.rows) new t.grid.rows)) (beside ∙ ap (λ ps. put_at ps lists t.grid.cells) noted)

  pub listed_back : on_grid (on_rows (taken_out indexes) (taken_out indexes)) (with_rows t rows cells) ≡ t
  listed_back =
      ap (λ r. with_rows t r (taken_out indexes cells)) (
      ap (taken_out indexes) put ∙ ap (λ ps. taken_out ps (put_at (new_indexes new t.grid.rows) new t.grid.rows)) noted
      ∙ taken_out-put_at (new_indexes new t.grid.rows) new t.grid.rows (new_within new t.grid.rows) (sym (length-new_indexes new t.grid.rows)))
      ∙ ap (with_rows t t.grid.rows) (
      ap (taken_out indexes) (beside ∙ ap (λ ps. put_at ps lists t.grid.cells) noted) ∙ ap (λ ps. taken_out ps (put_at (new_indexes new t.grid.rows) lists t.grid.cells)) noted
      ∙ taken_out-put_at (new_indexes new t.grid.rows) lists t.grid.cells (subst (AreWithin (new_indexes new t.grid.rows)) (sym high) (new_within new t.grid.rows)) (each ∙ sym (length-new_indexes new t.grid.rows)))
