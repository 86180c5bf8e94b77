-- What record actions do to the columns and rows of tables.
use Rattle.std.proofs.Common.{ℕ, Bool, true, false, cond, ◌&&◌, List, [], ◌≡◌, refl, sym, ap, subst, ◌∙◌, Option, Some, None, option_map}
use Rattle.std.proofs.lemmas.Bool.{and_parts}
use Rattle.std.proofs.lemmas.Slice.Eq.{bytes_eq-Decides}
use Rattle.std.specs.Str.{bytes_eq}
use Rattle.doc_model.specs.declared.action.DocAction.{DocAction}
use Rattle.doc_model.specs.declared.action.DocAction.TheVariants.{BulkAdd, BulkUpdate, BulkRemove, AddTable, RemoveTable, RenameTable, AddColumn, RemoveColumn, RenameColumn, ModifyColumn}
use Rattle.doc_model.specs.declared.column.CellColumn.{CellColumn}
use Rattle.doc_model.specs.declared.column.ColDef.{ColDef}
use Rattle.doc_model.specs.Apply.{apply, effect}
use Rattle.doc_model.specs.ByIds.{find_id}
use Rattle.doc_model.specs.Column.{column_id, start_of}
use Rattle.doc_model.specs.Document.{Document, Table, on_grid, table_id, with_table}
use Rattle.doc_model.specs.DocumentLaws.{IsWhole}
use Rattle.doc_model.specs.Grid.{Grid, IsGrid}
use Rattle.doc_model.specs.MetadataIds.{is_schema_id}
use Rattle.doc_model.specs.Records.{add_rows, remove_rows, update_rows}
use Rattle.doc_model.specs.Rows.{all_in, has_no_duplicates, insert_rows, none_in, without, IsAscending}
use Rattle.doc_model.specs.Valid.{from_one, gives_data, record_table, valid}
use Rattle.doc_model.proofs.ByIdsLaws.{found_all}
use Rattle.doc_model.proofs.ByRowLaws.{find-with_id}
use Rattle.doc_model.proofs.Choices.{cond_true}
use Rattle.doc_model.proofs.DocumentParts.{passes_parts}
use Rattle.doc_model.proofs.LaidOutLaws.{laid_out}
use Rattle.doc_model.proofs.RowsLaws.{insert_rows-again, without-insert_rows}
use Rattle.action_censor.specs.Back.{rows_back}
use Rattle.action_censor.specs.Step.{is_of_records}

-- neither is there, or both are with the same columns, and the rows of the first are given by those of the second
abbrev pub Leads : (List ℕ → List ℕ) → Option Table → Option Table → Type 0
Leads r None None = [] ≡ r []
Leads r (Some x) (Some y) = (x.grid.columns ≡ y.grid.columns) × (x.grid.rows ≡ r y.grid.rows)
Leads r None (Some y) = ⊥
Leads r (Some x) None = ⊥

itself : (o : Option Table) → Leads (λ now. now) o o
itself None = refl
itself (Some x) = (refl, refl)

-- one table changed in its rows
module _ (s : Document) (table : List ℕ) (f : Grid ColDef → Grid ColDef) (back : List ℕ → List ℕ) (same : (g : Grid ColDef) → g.columns ≡ (f g).columns) (x : Table) (found : find_id table_id table s ≡ Some x) (rows : x.grid.rows ≡ back (f x.grid).rows) where
  there : (t : List ℕ) → bytes_eq table t ≡ true → Leads back (find_id table_id t s) (option_map (on_grid f) (find_id table_id t s))
  there t is =
      subst (λ o. Leads back o (option_map (on_grid f) o)) (sym (ap (λ n. find_id table_id n s) (sym ((bytes_eq-Decides table t).0 is)) ∙ found))
      (same x.grid, rows)

  changed : (t : List ℕ) → Leads (λ now. cond (bytes_eq table t) (back now) now) (find_id table_id t s) (find_id table_id t (with_table table (on_grid f) s))
  changed t =
      subst (λ o. Leads (λ now. cond (bytes_eq table t) (back now) now) (find_id table_id t s) o) (sym (find-with_id table_id table (on_grid f) (λ t. refl) s t)) (
      elim (bytes_eq table t) as (λ b. bytes_eq table t ≡ b → Leads (λ now. cond b (back now) now) (find_id table_id t s) (cond b (option_map (on_grid f) (find_id table_id t s)) (find_id table_id t s))) [
        | true ↦ λ is. there t is
        | false ↦ λ _. itself (find_id table_id t s)
      ] refl)

-- rows that stay
leads_same : (b : Bool) (o p : Option Table) → Leads (λ now. cond b now now) o p → Leads (λ now. now) o p
leads_same true o p h = h
leads_same false o p h = h

in_record_table : (s : Document) (id : List ℕ) (x : Table) → record_table s id ≡ Some x → find_id table_id id s ≡ Some x
in_record_table s id x e =
    elim (is_schema_id id) as (λ b. cond b None (find_id table_id id s) ≡ Some x → find_id table_id id s ≡ Some x) [
      | true ↦ λ e. absurd (cc)
      | false ↦ λ e. e
    ] e

ascending_in : (s : Document) → IsWhole s → (id : List ℕ) (x : Table) → find_id table_id id s ≡ Some x → IsAscending x.grid.rows
ascending_in s whole id x found = (found_all table_id (λ (t : Table). IsGrid column_id t.grid) id s x (laid_out s whole).grids found).ascending

module _ (s : Document) (whole : IsWhole s) where
  added : (table rows : List ℕ) (ks : List CellColumn) → valid s (BulkAdd table rows ks) ≡ true → (t : List ℕ) → Leads (rows_back (BulkAdd table rows ks) t) (find_id table_id t s) (find_id table_id t (effect s (BulkAdd table rows ks)))
  added table rows ks v t =
      let parts : (x : Table) × ((record_table s table ≡ Some x) × ((has_no_duplicates rows && from_one rows && none_in rows x.grid.rows && gives_data x.grid rows ks) ≡ true))
      = passes_parts (record_table s table) (λ t. has_no_duplicates rows && from_one rows && none_in rows t.grid.rows && gives_data t.grid rows ks) v in
      let x : Table = parts.0 in
      let found : find_id table_id table s ≡ Some x = in_record_table s table x parts.1.0 in
      let one = and_parts (has_no_duplicates rows && from_one rows && none_in rows x.grid.rows) (gives_data x.grid rows ks) parts.1.1 in
      let two = and_parts (has_no_duplicates rows && from_one rows) (none_in rows x.grid.rows) one.0 in
      changed s table (add_rows column_id start_of rows ks) (without rows) (λ g. refl) x found
      (sym (without-insert_rows rows x.grid.rows (ascending_in s whole table x found) two.1)) t

  updated : (table rows : List ℕ) (ks : List CellColumn) → valid s (BulkUpdate table rows ks) ≡ true → (t : List ℕ) → Leads (rows_back (BulkUpdate table rows ks) t) (find_id table_id t s) (find_id table_id t (effect s (BulkUpdate table rows ks)))
  updated table rows ks v t =
      let parts : (x : Table) × ((record_table s table ≡ Some x) × ((has_no_duplicates rows && from_one rows && all_in rows x.grid.rows && gives_data x.grid rows ks) ≡ true))
      = passes_parts (record_table s table) (λ t. has_no_duplicates rows && from_one rows && all_in rows t.grid.rows && gives_data t.grid rows ks) v in
      let found : find_id table_id table s ≡ Some parts.0 = in_record_table s table parts.0 parts.1.0 in
      leads_same (bytes_eq table t) (find_id table_id t s) (find_id table_id t (effect s (BulkUpdate table rows ks)))
      (changed s table (update_rows column_id rows ks) (λ now. now) (λ g. refl) parts.0 found refl t)

  removed : (table rows : List ℕ) → valid s (BulkRemove table rows) ≡ true → (t : List ℕ) → Leads (rows_back (BulkRemove table rows) t) (find_id table_id t s) (find_id table_id t (effect s (BulkRemove table rows)))
  removed table rows v t =
      let parts : (x : Table) × ((record_table s table ≡ Some x) × ((has_no_duplicates rows && all_in rows x.grid.rows) ≡ true))
      = passes_parts (record_table s table) (λ t. has_no_duplicates rows && all_in rows t.grid.rows) v in
      let x : Table = parts.0 in
      let found : find_id table_id table s ≡ Some x = in_record_table s table x parts.1.0 in
      let two = and_parts (has_no_duplicates rows) (all_in rows x.grid.rows) parts.1.1 in
      changed s table (remove_rows column_id rows) (insert_rows rows) (λ g. refl) x found
      (sym (insert_rows-again rows x.grid.rows (ascending_in s whole table x found) two.1)) t

  done : (a : DocAction) → valid s a ≡ true → is_of_records a ≡ true → (t : List ℕ) → Leads (rows_back a t) (find_id table_id t s) (find_id table_id t (effect s a))
  done (BulkAdd table rows ks) v is t = added table rows ks v t
  done (BulkUpdate table rows ks) v is t = updated table rows ks v t
  done (BulkRemove table rows) v is t = removed table rows v t
  done (AddTable table row columns) v is t = absurd (cc)
  done (RemoveTable table) v is t = absurd (cc)
  done (RenameTable table new) v is t = absurd (cc)
  done (AddColumn table d) v is t = absurd (cc)
  done (RemoveColumn table column) v is t = absurd (cc)
  done (RenameColumn table column new) v is t = absurd (cc)
  done (ModifyColumn table column info) v is t = absurd (cc)

  pub leads : (a : DocAction) → valid s a ≡ true → is_of_records a ≡ true → (t : List ℕ) → Leads (rows_back a t) (find_id table_id t s) (find_id table_id t (apply s a))
  leads a v is t = subst (λ e. Leads (rows_back a t) (find_id table_id t s) (find_id table_id t e)) (sym (cond_true (valid s a) (effect s a) s v)) (done a v is t)
