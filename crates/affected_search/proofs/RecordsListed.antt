-- What is listed of an action on records is all that it changes.
use Rattle.std.proofs.Common.{ℕ, suc, Bool, true, false, cond, not, nat_eq, ◌&&◌, ◌||◌, ◌+◌, ◌≤◌, List, [], ◌∷◌, map, ◌≡◌, ◌⊎◌, inl, inr, refl, sym, ap, ◌∙◌, subst, Option, Some, None, arith}
use Rattle.std.proofs.lemmas.Bool.{false≢true, and_parts, or_cases, or_left, eqb-true}
use Rattle.std.proofs.lemmas.Slice.Eq.{bytes_eq-Decides}
use Rattle.std.specs.List.{list_any}
use Rattle.std.specs.Option.{is_some, option_map}
use Rattle.std.specs.Str.{bytes_eq}
use Rattle.cell_types.specs.declared.cell.CellId.{CellId}
use Rattle.cell_types.specs.declared.cell.KeyItem.{KeyItem}
use Rattle.cell_types.specs.declared.cell.Read.{Read}
use Rattle.cell_types.specs.declared.cell.Read.TheVariants.{Cell, Rows}
use Rattle.doc_model.specs.declared.action.DocAction.TheVariants.{BulkAdd, BulkRemove, BulkUpdate}
use Rattle.doc_model.specs.declared.column.CellColumn.{CellColumn}
use Rattle.doc_model.specs.declared.column.ColDef.{ColDef}
use Rattle.doc_model.specs.Apply.{apply, effect}
use Rattle.doc_model.specs.ByIds.{find_id}
use Rattle.doc_model.specs.Column.{column_id, start_of}
use Rattle.doc_model.specs.Document.{Document, Table, on_grid, table_id, with_table}
use Rattle.doc_model.specs.Grid.{Grid}
use Rattle.doc_model.specs.MetadataIds.{is_schema_id}
use Rattle.doc_model.specs.Readers.{rows_at}
use Rattle.doc_model.specs.Records.{add_rows, remove_rows}
use Rattle.doc_model.specs.Rows.{has, has_no_duplicates, insert_rows, none_in, without}
use Rattle.doc_model.specs.Valid.{from_one, gives_data, passes, valid}
use Rattle.doc_model.proofs.Choices.{cond_true, false_from}
use Rattle.formula_parse.specs.Lexemes.{is_id}
use Rattle.recalc.specs.Cells.{cell_of}
use Rattle.recalc.specs.Evaluated.{sheet_of}
use Rattle.affected_cells.specs.Affected.{is_fresh_cell}
use Rattle.affected_cells.specs.Met.{IsUnmet}
use Rattle.affected_cells.specs.Touched.{Touch, cells_written, is_touched, rows_moved, touched_by}
use Rattle.affected_cells.specs.TouchedRight.{IsSameCell, IsTouchedRight}
use Rattle.affected_cells.proofs.KeptLaws.{update_law}
use Rattle.affected_cells.proofs.RowTouches.{none_gone}
use Rattle.affected_cells.proofs.RowsLaw.{rows_law}
use Rattle.affected_cells.proofs.Tests.{found_once}
use Rattle.dep_graph.specs.declared.numbers.ReadNumber.{ReadNumber}
use Rattle.dep_graph.specs.Records.{holds}
use Rattle.dep_graph.specs.Sources.{all_source, read_source, source_in}
use Rattle.affected_search.specs.Noted.{IsFree, IsFreeKey, ListsChanges, ListsRows}
use Rattle.affected_search.specs.RecordsListed.{AreListed, ListsCells, ListsGiven, ListsValues, RecordsListedLaw}

-- ---- rows

-- a number from which on no row stands in the list
beyond : (rows : List ℕ) → (b : ℕ) × ((r : ℕ) → b ≤ r → has rows r ≡ false)
beyond [] = (0, λ r l. refl)
beyond (q ∷ rows) =
    let w = beyond rows in (
      suc q + w.0,
      λ r l. ap (λ e. e || has rows r) (false_from (nat_eq q r) (λ e. let same = eqb-true q r e in absurd (omega (arith, same)))) ∙ w.1 r (omega (arith)),
    )

abbrev rows_of : Option Table → Option (List ℕ)
rows_of o = elim o as (λ _. Option (List ℕ)) [ None ↦ None | Some u ↦ Some u.grid.rows ]

-- the rows of a table whose grid is changed
rows_mapped : (t : List ℕ) (f : Grid ColDef → Grid ColDef) (R : List ℕ → List ℕ) → ((g : Grid ColDef) → (f g).rows ≡ R g.rows) → (s : Document) → rows_at (with_table t (on_grid f) s) t ≡ option_map R (rows_at s t)
rows_mapped t f R h [] = refl
rows_mapped t f R h (x ∷ s) = by (rows_mapped t f R h s) (bytes_eq x.id t) refl
  where
    by : rows_at (with_table t (on_grid f) s) t ≡ option_map R (rows_at s t) → (b : Bool) → bytes_eq x.id t ≡ b
        → rows_at (cond (bytes_eq x.id t) (on_grid f x) x ∷ with_table t (on_grid f) s) t ≡ option_map R (rows_of (cond (bytes_eq x.id t) (Some x) (find_id table_id t s)))
    by later true is =
        ap (λ b. rows_at (cond b (on_grid f x) x ∷ with_table t (on_grid f) s) t) is
        ∙ ap (λ b. rows_of (cond b (Some (on_grid f x)) (find_id table_id t (with_table t (on_grid f) s)))) is
        ∙ ap (λ l. Some l) (h x.grid)
        ∙ sym (ap (λ b. option_map R (rows_of (cond b (Some x) (find_id table_id t s)))) is)
    by later false is =
        ap (λ b. rows_at (cond b (on_grid f x) x ∷ with_table t (on_grid f) s) t) is
        ∙ ap (λ b. rows_of (cond b (Some x) (find_id table_id t (with_table t (on_grid f) s)))) is
        ∙ later
        ∙ sym (ap (λ b. option_map R (rows_of (cond b (Some x) (find_id table_id t s)))) is)

some_mapped : (R : List ℕ → List ℕ) (o : Option (List ℕ)) → is_some o ≡ is_some (option_map R o)
some_mapped R None = refl
some_mapped R (Some l) = refl

-- ---- any change of records of one table

module _ (names : List (List ℕ)) (numbers : List ReadNumber) (s n : Document) (t : List ℕ) (fresh : CellId → Bool) (touched : Read → Bool) (right : IsTouchedRight (sheet_of s) (sheet_of n) fresh touched)
    (of_table : (d : CellId) → touched (Cell d) ≡ true → d.table ≡ t) (of_rows : (u : List ℕ) → touched (Rows u) ≡ true → u ≡ t)
    (bound : ℕ) (past : (u c : List ℕ) (r : ℕ) → bound ≤ r → touched (Cell (cell_of u c r)) ≡ false)
    (cell_listed : (d : CellId) (m : ReadNumber) → touched (Cell d) ≡ true → source_in names (read_source (Cell d)) ≡ Some m → holds numbers m ≡ true)
    (all_listed : (m : ReadNumber) → touched (Rows t) ≡ true → source_in names (all_source t) ≡ Some m → holds numbers m ≡ true)
    (there_still : is_some (rows_at s t) ≡ is_some (rows_at n t))
    (met_there : (rs : List ℕ) → rows_at s t ≡ Some rs → ListsRows names numbers (sheet_of s) (sheet_of n) t) where
  same_cell : (d : CellId) → touched (Cell d) ≡ false → IsSameCell (sheet_of s) (sheet_of n) (λ c. false) (λ q. false) d
  same_cell d free = (right.cell d free).1

  there : (u : List ℕ) (b : Bool) → touched (Rows u) ≡ b → is_some (rows_at s u) ≡ is_some (rows_at n u)
  there u false free = ap is_some (right.rows u free)
  there u true on = subst (λ x. is_some (rows_at s x) ≡ is_some (rows_at n x)) (sym (of_rows u on)) there_still

  cell : (d : CellId) → IsFree names numbers (read_source (Cell d)) → (b : Bool) → touched (Cell d) ≡ b → IsSameCell (sheet_of s) (sheet_of n) (λ c. false) (λ q. false) d
  cell d free false off = same_cell d off
  cell d free true on = absurd (false≢true (sym free.2 ∙ cell_listed d free.0 on free.1))

  all : (u : List ℕ) → IsFree names numbers (all_source u) → (b : Bool) → touched (Rows u) ≡ b → rows_at s u ≡ rows_at n u
  all u free false off = right.rows u off
  all u free true on =
      let same = of_rows u on in
      absurd (false≢true (sym free.2 ∙ all_listed free.0 (subst (λ x. touched (Rows x) ≡ true) same on) (subst (λ x. source_in names (all_source x) ≡ Some free.0) same free.1)))

  -- a table in which nothing is touched
  other : (u rs : List ℕ) → bytes_eq u t ≡ false → rows_at s u ≡ Some rs → ListsRows names numbers (sheet_of s) (sheet_of n) u
  other u rs apart at = record {
    rows = rs;
    gone = [];
    new = [];
    before = at;
    after = sym (right.rows u (false_from (touched (Rows u)) (λ on. false≢true (sym apart ∙ (bytes_eq-Decides u t).1 (of_rows u on))))) ∙ at ∙ ap (λ l. Some l) (sym (none_gone rs));
    stays = λ r among off k free. inr (inl (same_cell (cell_of u k.column r) (false_from (touched (Cell (cell_of u k.column r))) (λ on. false≢true (sym apart ∙ (bytes_eq-Decides u t).1 (of_table (cell_of u k.column r) on))))));
    goes = λ r among on. absurd (false≢true on);
    comes = λ r on. absurd (false≢true on);
  }

  met : (u rs : List ℕ) → rows_at s u ≡ Some rs → (b : Bool) → bytes_eq u t ≡ b → ListsRows names numbers (sheet_of s) (sheet_of n) u
  met u rs at false apart = other u rs apart at
  met u rs at true is =
      let same = (bytes_eq-Decides u t).0 is in
      subst (ListsRows names numbers (sheet_of s) (sheet_of n)) (sym same) (met_there rs (subst (λ x. rows_at s x ≡ Some rs) same at))

  pub lists_changes : ListsChanges names numbers (sheet_of s) (sheet_of n)
  lists_changes = record {
    kind = λ u c. (right.cell (cell_of u c bound) (past u c bound (omega arith))).0;
    there = λ u. there u (touched (Rows u)) refl;
    cell = λ d free. cell d free (touched (Cell d)) refl;
    all = λ u free. all u free (touched (Rows u)) refl;
    met = λ u rs at. met u rs at (bytes_eq u t) refl;
  }

-- ---- rows that come or go

module _ (t rows : List ℕ) where
  abbrev pub came : Read → Bool
  came q = list_any (λ (m : Touch). touched_by m q) (rows_moved t rows)

pub came_cell : (t rows : List ℕ) (d : CellId) → came t rows (Cell d) ≡ true → (d.table ≡ t) × (has rows d.row ≡ true)
came_cell t [] d on = absurd (false≢true on)
came_cell t (q ∷ rows) d on = elim (or_cases (bytes_eq d.table t && has (q ∷ rows) d.row) false on) [
  | inl is ↦ let p = and_parts (bytes_eq d.table t) (has (q ∷ rows) d.row) is in ((bytes_eq-Decides d.table t).0 p.0, p.1)
  | inr never ↦ absurd (false≢true never)
]

came_rows : (t rows u : List ℕ) → came t rows (Rows u) ≡ true → u ≡ t
came_rows t [] u on = absurd (false≢true on)
came_rows t (q ∷ rows) u on = elim (or_cases (bytes_eq u t) false on) [ inl is ↦ (bytes_eq-Decides u t).0 is | inr never ↦ absurd (false≢true never) ]

-- a cell of a row that comes or goes
moved_cell : (t rows c : List ℕ) (r : ℕ) → has rows r ≡ true → came t rows (Cell (cell_of t c r)) ≡ true
moved_cell t [] c r among = absurd (false≢true among)
moved_cell t (q ∷ rows) c r among = or_left (bytes_eq t t && has (q ∷ rows) r) false (ap (λ b. b && has (q ∷ rows) r) ((bytes_eq-Decides t t).1 refl) ∙ among)

still_cell : (t rows u c : List ℕ) (r : ℕ) → has rows r ≡ false → came t rows (Cell (cell_of u c r)) ≡ false
still_cell t rows u c r apart = false_from (came t rows (Cell (cell_of u c r))) (λ on. false≢true (sym apart ∙ (came_cell t rows (cell_of u c r) on).1))

-- a row that comes is not there
none_there : (new rs : List ℕ) (r : ℕ) → none_in new rs ≡ true → has new r ≡ true → has rs r ≡ true → ⊥
none_there [] rs r none on there = false≢true on
none_there (q ∷ new) rs r none on there =
    let p = and_parts (not (has rs q)) (none_in new rs) none in
    elim (or_cases (nat_eq q r) (has new r) on) [
      | inl is ↦ false≢true (ap not (sym (subst (λ m. has rs m ≡ true) (sym (eqb-true q r is)) there)) ∙ p.0)
      | inr later ↦ none_there new rs r p.1 later there
    ]

new_apart : (s : Document) (t rows : List ℕ) (ks : List CellColumn) (rs : List ℕ) (r : ℕ) → valid s (BulkAdd t rows ks) ≡ true → rows_at s t ≡ Some rs → has rs r ≡ true → has rows r ≡ false
new_apart s t rows ks rs r ok at among = false_from (has rows r) (λ on. by (is_schema_id t) (find_id table_id t s) ok at on)
  where
    by : (b : Bool) (o : Option Table) → passes (cond b None o) (λ (u : Table). has_no_duplicates rows && from_one rows && none_in rows u.grid.rows && gives_data u.grid rows ks) ≡ true → rows_of o ≡ Some rs → has rows r ≡ true → ⊥
    by true o ok at on = false≢true ok
    by false None ok at on = false≢true ok
    by false (Some u) ok at on =
        let parts = and_parts (has_no_duplicates rows && from_one rows && none_in rows u.grid.rows) (gives_data u.grid rows ks) ok in
        let none = (and_parts (has_no_duplicates rows && from_one rows) (none_in rows u.grid.rows) parts.0).1 in
        none_there rows u.grid.rows r none on (subst (λ l. has l r ≡ true) (sym (found_once u.grid.rows rs at)) among)

module _ (names : List (List ℕ)) (numbers : List ReadNumber) (s : Document) (t rows : List ℕ) where
  removed_listed : valid s (BulkRemove t rows) ≡ true → ListsCells names numbers s (BulkRemove t rows) t rows → ListsValues names numbers s (BulkRemove t rows) t rows s → AreListed names numbers s (BulkRemove t rows) t rows
  removed_listed ok cells before =
      let w = beyond rows in
      let right = (rows_law s t rows).removed ok in
      lists_changes names numbers s (apply s (BulkRemove t rows)) t (is_fresh_cell s (BulkRemove t rows)) (is_touched s (BulkRemove t rows)) right
      (λ d on. (came_cell t rows d on).0) (came_rows t rows) w.0 (λ u c r l. still_cell t rows u c r (w.1 r l)) (λ d m on is. cells.cell d m on is) (λ m on is. cells.all m on is)
      (some_mapped (without rows) (rows_at s t) ∙ ap is_some (sym mapped))
      (λ rs at. record {
        rows = rs;
        gone = rows;
        new = [];
        before = at;
        after = mapped ∙ ap (option_map (without rows)) at;
        stays = λ r among off k free. inr (inl (right.cell (cell_of t k.column r) (still_cell t rows t k.column r off)).1);
        goes = λ r among on k free. before r on k (moved_cell t rows k.column r on) free;
        comes = λ r on. absurd (false≢true on);
      })
    where
      mapped : rows_at (apply s (BulkRemove t rows)) t ≡ option_map (without rows) (rows_at s t)
      mapped = ap (λ x. rows_at x t) (cond_true (valid s (BulkRemove t rows)) (effect s (BulkRemove t rows)) s ok) ∙ rows_mapped t (remove_rows column_id rows) (without rows) (λ g. refl) s

  added_listed : (ks : List CellColumn) → valid s (BulkAdd t rows ks) ≡ true → ListsCells names numbers s (BulkAdd t rows ks) t rows → ListsValues names numbers s (BulkAdd t rows ks) t rows (apply s (BulkAdd t rows ks))
      → AreListed names numbers s (BulkAdd t rows ks) t rows
  added_listed ks ok cells after =
      let w = beyond rows in
      let right = (rows_law s t rows).added ks ok in
      lists_changes names numbers s (apply s (BulkAdd t rows ks)) t (is_fresh_cell s (BulkAdd t rows ks)) (is_touched s (BulkAdd t rows ks)) right
      (λ d on. (came_cell t rows d on).0) (came_rows t rows) w.0 (λ u c r l. still_cell t rows u c r (w.1 r l)) (λ d m on is. cells.cell d m on is) (λ m on is. cells.all m on is)
      (some_mapped (insert_rows rows) (rows_at s t) ∙ ap is_some (sym mapped))
      (λ rs at. record {
        rows = rs;
        gone = [];
        new = rows;
        before = at;
        after = mapped ∙ ap (option_map (insert_rows rows)) at ∙ ap (λ l. Some (insert_rows rows l)) (sym (none_gone rs));
        stays = λ r among off k free. inr (inl (right.cell (cell_of t k.column r) (still_cell t rows t k.column r (new_apart s t rows ks rs r ok at among))).1);
        goes = λ r among on. absurd (false≢true on);
        comes = λ r on k free. after r on k (moved_cell t rows k.column r on) free;
      })
    where
      mapped : rows_at (apply s (BulkAdd t rows ks)) t ≡ option_map (insert_rows rows) (rows_at s t)
      mapped = ap (λ x. rows_at x t) (cond_true (valid s (BulkAdd t rows ks)) (effect s (BulkAdd t rows ks)) s ok) ∙ rows_mapped t (add_rows column_id start_of rows ks) (insert_rows rows) (λ g. refl) s

-- ---- cells that are written

module _ (t rows : List ℕ) where
  abbrev pub wrote : List CellColumn → Read → Bool
  wrote ks q = list_any (λ (m : Touch). touched_by m q) (map (λ (k : CellColumn). cells_written t k.id rows) ks)

  wrote_cell : (ks : List CellColumn) (d : CellId) → wrote ks (Cell d) ≡ true → (d.table ≡ t) × (has rows d.row ≡ true)
  wrote_cell [] d on = absurd (false≢true on)
  wrote_cell (k ∷ ks) d on = elim (or_cases (bytes_eq d.table t && (bytes_eq d.column k.id && has rows d.row)) (wrote ks (Cell d)) on) [
    | inl is ↦ let p = and_parts (bytes_eq d.table t) (bytes_eq d.column k.id && has rows d.row) is in ((bytes_eq-Decides d.table t).0 p.0, (and_parts (bytes_eq d.column k.id) (has rows d.row) p.1).1)
    | inr later ↦ wrote_cell ks d later
  ]

  pub no_rows : (ks : List CellColumn) (u : List ℕ) → wrote ks (Rows u) ≡ false
  no_rows [] u = refl
  no_rows (k ∷ ks) u = no_rows ks u

  other_row : (ks : List CellColumn) (u c : List ℕ) (r : ℕ) → has rows r ≡ false → wrote ks (Cell (cell_of u c r)) ≡ false
  other_row ks u c r apart = false_from (wrote ks (Cell (cell_of u c r))) (λ on. false≢true (sym apart ∙ (wrote_cell ks (cell_of u c r) on).1))

module _ (names : List (List ℕ)) (numbers : List ReadNumber) (s : Document) (t rows : List ℕ) (ks : List CellColumn) where
  updated_listed : valid s (BulkUpdate t rows ks) ≡ true → ListsCells names numbers s (BulkUpdate t rows ks) t rows → ListsGiven names numbers s (BulkUpdate t rows ks) t rows s
      → ListsGiven names numbers s (BulkUpdate t rows ks) t rows (apply s (BulkUpdate t rows ks)) → AreListed names numbers s (BulkUpdate t rows ks) t rows
  updated_listed ok cells before after =
      let w = beyond rows in
      let same : rows_at s t ≡ rows_at n t = right.rows t (no_rows t rows ks t) in
      lists_changes names numbers s n t (is_fresh_cell s (BulkUpdate t rows ks)) (is_touched s (BulkUpdate t rows ks)) right
      (λ d on. (wrote_cell t rows ks d on).0) (λ u on. absurd (false≢true (sym (no_rows t rows ks u) ∙ on))) w.0 (λ u c r l. other_row t rows ks u c r (w.1 r l)) (λ d m on is. cells.cell d m on is) (λ m on is. cells.all m on is)
      (ap is_some same)
      (λ rs at. record {
        rows = rs;
        gone = [];
        new = [];
        before = at;
        after = sym same ∙ at ∙ ap (λ l. Some l) (sym (none_gone rs));
        stays = λ r among off k free. kept r k free (is_id k.column) refl;
        goes = λ r among on. absurd (false≢true on);
        comes = λ r on. absurd (false≢true on);
      })
    where
      n : Document
      n = apply s (BulkUpdate t rows ks)

      right : IsTouchedRight (sheet_of s) (sheet_of (apply s (BulkUpdate t rows ks))) (is_fresh_cell s (BulkUpdate t rows ks)) (is_touched s (BulkUpdate t rows ks))
      right = update_law s t rows ks ok

      stayed : (r : ℕ) (k : KeyItem) → IsFreeKey names numbers t k → is_id k.column ≡ false → (b : Bool) → wrote t rows ks (Cell (cell_of t k.column r)) ≡ b
          → IsSameCell (sheet_of s) (sheet_of (apply s (BulkUpdate t rows ks))) (λ d. false) (λ q. false) (cell_of t k.column r)
          ⊎ (IsUnmet (sheet_of s) t r k × IsUnmet (sheet_of (apply s (BulkUpdate t rows ks))) t r k)
      stayed r k free named false off = inl (right.cell (cell_of t k.column r) off).1
      stayed r k free named true on = inr (before r (wrote_cell t rows ks (cell_of t k.column r) on).1 k named on free, after r (wrote_cell t rows ks (cell_of t k.column r) on).1 k named on free)

      kept : (r : ℕ) (k : KeyItem) → IsFreeKey names numbers t k → (b : Bool) → is_id k.column ≡ b
          → (is_id k.column ≡ true)
          ⊎ (IsSameCell (sheet_of s) (sheet_of (apply s (BulkUpdate t rows ks))) (λ d. false) (λ q. false) (cell_of t k.column r)
          ⊎ (IsUnmet (sheet_of s) t r k × IsUnmet (sheet_of (apply s (BulkUpdate t rows ks))) t r k))
      kept r k free true is = inl is
      kept r k free false named = inr (stayed r k free named (wrote t rows ks (Cell (cell_of t k.column r))) refl)

pub records_listed_law : RecordsListedLaw
records_listed_law names numbers s t rows = record {
  removed = removed_listed names numbers s t rows;
  added = added_listed names numbers s t rows;
  updated = updated_listed names numbers s t rows;
}
