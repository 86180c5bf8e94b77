-- What evaluation tells of a record action makes it a step of each table.
use Rattle.std.proofs.Common.{ℕ, Bool, true, false, cond, not, ◌&&◌, List, ◌≡◌, refl, sym, ap, subst, ◌∙◌, Option, Some, None, option_map}
use Rattle.std.proofs.lemmas.Bool.{true≢false}
use Rattle.cell_types.specs.declared.value.CellValue.{CellValue}
use Rattle.doc_model.specs.declared.action.DocAction.{DocAction}
use Rattle.doc_model.specs.declared.action.DocAction.TheVariants.{BulkAdd, BulkUpdate, BulkRemove, AddTable, RemoveTable, RenameTable, AddColumn, RemoveColumn, RenameColumn, ModifyColumn}
use Rattle.doc_model.specs.declared.column.ColDef.{ColDef}
use Rattle.doc_model.specs.Apply.{apply}
use Rattle.doc_model.specs.ByIds.{find_id, has_id}
use Rattle.doc_model.specs.Column.{column_id}
use Rattle.doc_model.specs.Document.{Document, Table, table_id}
use Rattle.doc_model.specs.DocumentLaws.{IsWhole}
use Rattle.doc_model.specs.Grid.{Grid, cell}
use Rattle.doc_model.specs.Readers.{cell_at}
use Rattle.doc_model.specs.Rows.{has}
use Rattle.doc_model.specs.Same.{same_value}
use Rattle.doc_model.specs.Schema.{no_grid}
use Rattle.doc_model.specs.Valid.{valid}
use Rattle.doc_model.proofs.ByIdsLaws.{has_found}
use Rattle.doc_model.proofs.SameLaws.{same_value-Decides}
use Rattle.doc_readers.specs.Parts.{grid_at}
use Rattle.doc_readers.proofs.CellLemmas.{cell_there}
use Rattle.recalc.specs.Cells.{cell_of}
use Rattle.recalc.specs.Evaluated.{filled, value_of}
use Rattle.recalc.specs.Lost.{column_after, differs, is_lost, table_after}
use Rattle.recalc.proofs.FilledLemmas.{filled_table, find_filled}
use Rattle.recalc.proofs.WatchedCells.{grid_filled}
use Rattle.action_censor.specs.Back.{IsStepOf, rows_back}
use Rattle.action_censor.specs.Step.{is_of_records}
use Rattle.bundle_traces.specs.TraceLaws.{TraceLaw, step_done}
use Rattle.bundle_traces.proofs.LostCells.{not_lost, told_held}
use Rattle.bundle_traces.proofs.RecordActions.{Leads, leads}

-- record actions rename nothing
names_stay : (a : DocAction) → is_of_records a ≡ true → (t c : List ℕ) → (table_after a t ≡ t) × (column_after a t c ≡ c)
names_stay (BulkAdd table rows ks) is t c = (refl, refl)
names_stay (BulkUpdate table rows ks) is t c = (refl, refl)
names_stay (BulkRemove table rows) is t c = (refl, refl)
names_stay (AddTable table row columns) is t c = absurd (cc)
names_stay (RemoveTable table) is t c = absurd (cc)
names_stay (RenameTable table new) is t c = absurd (cc)
names_stay (AddColumn table d) is t c = absurd (cc)
names_stay (RemoveColumn table column) is t c = absurd (cc)
names_stay (RenameColumn table column new) is t c = absurd (cc)
names_stay (ModifyColumn table column info) is t c = absurd (cc)

-- ---- a cell that is told is there

in_rows : (g : Grid ColDef) (c : List ℕ) (r : ℕ) (w : CellValue) → cond (has_id column_id g.columns c && has g.rows r) (Some (cell column_id g c r)) None ≡ Some w → has g.rows r ≡ true
in_rows g c r w e =
    elim (has_id column_id g.columns c) as (λ b. cond (b && has g.rows r) (Some (cell column_id g c r)) None ≡ Some w → has g.rows r ≡ true) [
      | true ↦ λ e. elim (has g.rows r) as (λ b. cond b (Some (cell column_id g c r)) None ≡ Some w → b ≡ true) [
        | true ↦ λ _. refl
        | false ↦ λ e. absurd (cc)
      ] e
      | false ↦ λ e. absurd (cc)
    ] e

row_told : (v : Document) (t c : List ℕ) (r : ℕ) (w : CellValue) → cell_at v t c r ≡ Some w → has (grid_at v t).rows r ≡ true
row_told v t c r w e =
    elim (find_id table_id t v) as (λ (o : Option Table). elim o as (λ _. Option CellValue) [ None ↦ None | Some u ↦ cond (has_id column_id u.grid.columns c && has u.grid.rows r) (Some (cell column_id u.grid c r)) None ] ≡ Some w
    → has (elim o as (λ _. Grid ColDef) [ None ↦ no_grid | Some u ↦ u.grid ]).rows r ≡ true) [
      | None ↦ λ e. absurd (cc)
      | Some u ↦ λ e. in_rows u.grid c r w e
    ] e

-- ---- a cell that does not differ is there and holds the same

turned : (b : Bool) → not b ≡ false → b ≡ true
turned true e = refl
turned false e = absurd (true≢false e)

stays : (v : Document) (t c : List ℕ) (r : ℕ) (old : CellValue) (o : Option CellValue) → cell_at v t c r ≡ o → differs old o ≡ false → (has (grid_at v t).rows r ≡ true) × (old ≡ cell column_id (grid_at v t) c r)
stays v t c r old None told same = absurd (true≢false same)
stays v t c r old (Some w) told same =
    (row_told v t c r w told, (same_value-Decides old w).0 (turned (same_value old w) same) ∙ cell_there v t c r w told)

-- ---- the step

module _ (s : Document) (a : DocAction) (whole : IsWhole s) (v : valid s a ≡ true) (is : is_of_records a ≡ true) (t : List ℕ) where
  abbrev now : Document
  now = apply s a

  abbrev IsStep : Grid ColDef → Grid ColDef → Type 0
  IsStep g h = IsStepOf (step_done s a) t g h

  no_table : find_id table_id t s ≡ None → grid_at (filled s) t ≡ no_grid
  no_table e = ap (λ (o : Option Table). elim o as (λ _. Grid ColDef) [ None ↦ no_grid | Some u ↦ u.grid ]) (find_filled (value_of s) t s ∙ ap (option_map (filled_table (value_of s))) e)

  no_table_now : find_id table_id t now ≡ None → grid_at (filled now) t ≡ no_grid
  no_table_now e = ap (λ (o : Option Table). elim o as (λ _. Grid ColDef) [ None ↦ no_grid | Some u ↦ u.grid ]) (find_filled (value_of now) t now ∙ ap (option_map (filled_table (value_of now))) e)

  by_table : (o p : Option Table) → find_id table_id t s ≡ o → find_id table_id t now ≡ p → Leads (rows_back a t) o p → IsStep (grid_at (filled s) t) (grid_at (filled now) t)
  by_table None None e f h =
      subst (λ g. IsStep g (grid_at (filled now) t)) (sym (no_table e)) (subst (λ k. IsStep no_grid k) (sym (no_table_now f)) (record {
        columns = refl;
        rows = h;
        told = λ d r w found here held. absurd (cc);
        same = λ d r found here none. absurd (cc);
      }))
  by_table None (Some y) e f h = absurd h
  by_table (Some x) None e f h = absurd h
  by_table (Some x) (Some y) e f h =
      let g : grid_at (filled s) t ≡ (filled_table (value_of s) x).grid = grid_filled (value_of s) s x t e in
      let k : grid_at (filled now) t ≡ (filled_table (value_of now) y).grid = grid_filled (value_of now) now y t f in
      let at : has_id table_id (filled s) t ≡ true = has_found table_id t (filled s) (filled_table (value_of s) x) (find_filled (value_of s) t s ∙ ap (option_map (filled_table (value_of s))) e) in
      record {
        columns = ap (λ (g : Grid ColDef). g.columns) g ∙ h.0 ∙ sym (ap (λ (g : Grid ColDef). g.columns) k);
        rows = ap (λ (g : Grid ColDef). g.rows) g ∙ h.1 ∙ sym (ap (λ (g : Grid ColDef). rows_back a t g.rows) k);
        told = λ d r w found here held. told_held (filled s) (is_lost (filled now) a) t d.id r w held;
        same = λ d r found here none.
            let old : CellValue = cell column_id (grid_at (filled s) t) d.id r in
            let names : (table_after a t ≡ t) × (column_after a t d.id ≡ d.id) = names_stay a is t d.id in
            let lost : is_lost (filled now) a (record { cell = cell_of t d.id r; old = old }) ≡ false
            = not_lost (filled s) (is_lost (filled now) a) t d.id r none at (has_found column_id d.id (grid_at (filled s) t).columns d found) here in
            stays (filled now) t d.id r old (cell_at (filled now) t d.id r) refl
            (sym (ap (λ n. differs old (cell_at (filled now) n (column_after a t d.id) r)) names.0 ∙ ap (λ n. differs old (cell_at (filled now) t n r)) names.1) ∙ lost);
      }

pub is_step : TraceLaw
is_step s a whole v is t = by_table s a whole v is t (find_id table_id t s) (find_id table_id t (apply s a)) refl refl (leads s whole a v is t)
