-- The affected cells of a whole document.
use Rattle.std.proofs.Common.{ℕ, zero, suc, Bool, true, false, ◌&&◌, ◌||◌, List, [], ◌∷◌, length, ◌≡◌, refl, sym, ap, ◌∙◌}
use Rattle.std.proofs.lemmas.Bool.{false≢true, or_left, or_right, and_parts, and_from}
use Rattle.std.specs.List.{list_any}
use Rattle.std.specs.Option.{is_some}
use Rattle.std.specs.Str.{bytes_eq}
use Rattle.cell_types.specs.declared.cell.CellId.{CellId}
use Rattle.cell_types.specs.declared.cell.Read.{Read}
use Rattle.cell_types.specs.declared.cell.Read.TheVariants.{Cell, Key, Rows}
use Rattle.doc_model.specs.declared.action.DocAction.{DocAction}
use Rattle.doc_model.specs.declared.action.DocAction.TheVariants.{AddColumn, AddTable, BulkAdd, BulkRemove, BulkUpdate, ModifyColumn, RemoveColumn, RemoveTable, RenameColumn, RenameTable}
use Rattle.doc_model.specs.Apply.{apply}
use Rattle.doc_model.specs.Document.{Document}
use Rattle.doc_model.specs.DocumentLaws.{IsWhole}
use Rattle.doc_model.specs.Valid.{valid}
use Rattle.recalc.specs.Evaluated.{sheet_of}
use Rattle.recalc.specs.Sheet.{Sheet, IsListed, reads}
use Rattle.recalc.proofs.SheetLemmas.{is_sheet}
use Rattle.affected_cells.specs.Affected.{affect_step, affected, affected_by, affected_in, is_fresh_cell, names_one}
use Rattle.affected_cells.specs.Touched.{is_touched}
use Rattle.affected_cells.specs.TouchedRight.{TouchesRight}
use Rattle.affected_cells.proofs.AddedColumn.{add_column_law}
use Rattle.affected_cells.proofs.AddedTable.{add_table_law}
use Rattle.affected_cells.proofs.KeptLaws.{keeps_law, update_law}
use Rattle.affected_cells.proofs.ModifiedColumn.{modify_column_law}
use Rattle.affected_cells.proofs.RemovedColumn.{remove_column_law}
use Rattle.affected_cells.proofs.RemovedTable.{remove_table_law}
use Rattle.affected_cells.proofs.RenamedColumn.{rename_column_law}
use Rattle.affected_cells.proofs.RenamedTable.{rename_table_law}
use Rattle.affected_cells.proofs.RowsLaw.{rows_law}
use Rattle.affected_cells.proofs.Touches.{affected_rests}
use Rattle.affected_documents.specs.AffectedSets.{IsClosedSet, KeptCellsLaw, LeastSetLaw, ListedLaw}

-- a valid action on a whole document touches no other reads than is said of it
action_right : (s : Document) (a : DocAction) → IsWhole s → valid s a ≡ true → TouchesRight s a
action_right s (BulkAdd t rows ks) whole ok = (rows_law s t rows).added ks ok
action_right s (BulkUpdate t rows ks) whole ok = update_law s t rows ks ok
action_right s (BulkRemove t rows) whole ok = (rows_law s t rows).removed ok
action_right s (AddTable t row ds) whole ok = add_table_law s t row ds whole ok
action_right s (RemoveTable t) whole ok = remove_table_law s t whole ok
action_right s (RenameTable t new) whole ok = rename_table_law s t new whole ok
action_right s (AddColumn t d) whole ok = add_column_law s t d whole ok
action_right s (RemoveColumn t c) whole ok = remove_column_law s t c whole ok
action_right s (RenameColumn t c new) whole ok = rename_column_law s t c new whole ok
action_right s (ModifyColumn t c info) whole ok = modify_column_law s t c info whole ok

pub kept_cells : KeptCellsLaw
kept_cells s a whole ok = keeps_law s a (action_right s a whole ok)

pub listed : ListedLaw
listed s = (is_sheet s).listed

-- ---- the least closed set

any_more : {X : Type 0} (f g : X → Bool) (xs : List X) → ((x : X) → f x ≡ true → g x ≡ true) → list_any f xs ≡ true → list_any g xs ≡ true
any_more f g [] more h = absurd (false≢true h)
any_more f g (x ∷ xs) more h = by (any_more f g xs more) (f x) refl h
  where
    by : (list_any f xs ≡ true → list_any g xs ≡ true) → (b : Bool) → f x ≡ b → (b || list_any f xs) ≡ true → (g x || list_any g xs) ≡ true
    by later true e h = or_left (g x) (list_any g xs) (more x e)
    by later false e h = or_right (g x) (list_any g xs) (later h)

or_more : (a b c d : Bool) → (a ≡ true → c ≡ true) → (b ≡ true → d ≡ true) → (a || b) ≡ true → (c || d) ≡ true
or_more true b c d f g h = or_left c d (f refl)
or_more false b c d f g h = or_right c d (g h)

module _ (s t : Sheet) (fresh : CellId → Bool) (touched : Read → Bool) where
  names_more : (p r : CellId → Bool) → ((c : CellId) → p c ≡ true → r c ≡ true) → (q : Read) → names_one s t fresh touched p q ≡ true → names_one s t fresh touched r q ≡ true
  names_more p r more (Cell d) h = more d h
  names_more p r more (Key u k) h = any_more (λ d. bytes_eq d.table u && bytes_eq d.column k && p d) (λ d. bytes_eq d.table u && bytes_eq d.column k && r d) t.cells (λ d e. inner d e) h
    where
      inner : (d : CellId) → (bytes_eq d.table u && bytes_eq d.column k && p d) ≡ true → (bytes_eq d.table u && bytes_eq d.column k && r d) ≡ true
      inner d e =
          let two = and_parts (bytes_eq d.table u && bytes_eq d.column k) (p d) e in
          and_from (bytes_eq d.table u && bytes_eq d.column k) (r d) two.0 (more d two.1)
  names_more p r more (Rows u) h = absurd (false≢true h)

  step_more : (p r : CellId → Bool) → ((c : CellId) → p c ≡ true → r c ≡ true) → (c : CellId) → affect_step s t fresh touched p c ≡ true → affect_step s t fresh touched r c ≡ true
  step_more p r more c h =
      let f = list_any (λ q. touched q || names_one s t fresh touched p q) (reads s c) in
      let g = list_any (λ q. touched q || names_one s t fresh touched r q) (reads s c) in
      let two = and_parts (is_some (t.formula c)) (p c || (fresh c || f)) h in
      and_from (is_some (t.formula c)) (r c || (fresh c || g)) two.0
      (or_more (p c) (fresh c || f) (r c) (fresh c || g) (more c)
      (or_more (fresh c) f (fresh c) g (λ e. e)
      (any_more (λ q. touched q || names_one s t fresh touched p q) (λ q. touched q || names_one s t fresh touched r q) (reads s c)
      (λ q. or_more (touched q) (names_one s t fresh touched p q) (touched q) (names_one s t fresh touched r q) (λ e. e) (names_more p r more q)))) two.1)

  within : (p : CellId → Bool) → ((c : CellId) → affect_step s t fresh touched p c ≡ true → p c ≡ true) → (n : ℕ) (c : CellId) → affected_by s t fresh touched n c ≡ true → p c ≡ true
  within p closed zero c h = absurd (false≢true h)
  within p closed (suc n) c h = closed c (step_more (affected_by s t fresh touched n) p (within p closed n) c h)

pub least_set : LeastSetLaw
least_set s a =
    let t = sheet_of (apply s a) in
    let fresh = is_fresh_cell s a in
    let touched = is_touched s a in
    let rests = affected_rests (sheet_of s) t fresh touched (is_sheet (apply s a)).listed in
    record {
      formulas = λ c h. (and_parts (is_some (t.formula c)) (affected s a c || (fresh c || list_any (λ q. touched q || names_one (sheet_of s) t fresh touched (affected s a) q) (reads (sheet_of s) c))) (sym (ap (λ p. p c) rests) ∙ h)).0;
      closed = λ c h. ap (λ p. p c) rests ∙ h;
      least = λ p closed c h. within (sheet_of s) t fresh touched p closed (length t.cells) c h;
    }
