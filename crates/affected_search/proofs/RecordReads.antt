-- What is listed of an action on records in the documents before and after is all that it changes.
use Rattle.std.proofs.Common.{ℕ, zero, suc, true, ◌&&◌, ◌||◌, nat_eq, List, [], ◌∷◌, ◌++◌, ◌+◌, map, length, ◌≡◌, inl, inr, refl, sym, ap, ◌∙◌, subst, Option, Some, None, arith}
use Rattle.std.proofs.lemmas.Bool.{false≢true, and_parts, or_cases, or_left, or_right, eq-eqb}
use Rattle.std.proofs.lemmas.List.Folds.{list_any-append}
use Rattle.std.proofs.lemmas.Slice.Eq.{bytes_eq-Decides}
use Rattle.std.specs.Str.{bytes_eq}
use Rattle.cell_types.specs.declared.cell.CellId.{CellId}
use Rattle.cell_types.specs.declared.cell.Read.TheVariants.{Cell}
use Rattle.doc_model.specs.declared.action.DocAction.{DocAction}
use Rattle.doc_model.specs.declared.action.DocAction.TheVariants.{BulkAdd, BulkUpdate, BulkRemove, AddTable, RemoveTable, RenameTable, AddColumn, RemoveColumn, RenameColumn, ModifyColumn}
use Rattle.doc_model.specs.declared.column.CellColumn.{CellColumn}
use Rattle.doc_model.specs.declared.column.ColDef.{ColDef}
use Rattle.doc_model.specs.Apply.{apply}
use Rattle.doc_model.specs.ByIds.{find_id}
use Rattle.doc_model.specs.Column.{column_id}
use Rattle.doc_model.specs.Document.{Document}
use Rattle.doc_model.specs.Grid.{Grid}
use Rattle.doc_model.specs.Rows.{has}
use Rattle.doc_model.proofs.ByIdsLaws.{found_id}
use Rattle.doc_readers.specs.Parts.{grid_at}
use Rattle.recalc.specs.Cells.{cell_of}
use Rattle.recalc.specs.Evaluated.{sheet_of}
use Rattle.recalc.proofs.SheetLemmas.{is_sheet}
use Rattle.affected_cells.specs.Affected.{is_fresh_cell}
use Rattle.affected_cells.specs.Touched.{is_touched}
use Rattle.dep_graph.specs.declared.numbers.CellNumber.{CellNumber}
use Rattle.dep_graph.specs.declared.numbers.ColumnNumber.{ColumnNumber}
use Rattle.dep_graph.specs.declared.numbers.ReadNumber.{ReadNumber}
use Rattle.dep_graph.specs.declared.numbers.ReadNumber.TheVariants as read
use Rattle.dep_graph.specs.Graph.{Graph}
use Rattle.dep_graph.specs.Names.{number_in}
use Rattle.dep_graph.specs.NumberLaws.{read_itself}
use Rattle.dep_graph.specs.Numbers.{is_read}
use Rattle.dep_graph.specs.Records.{holds}
use Rattle.dep_graph.specs.Sources.{all_source, cell_in, column_in, read_source, source_in}
use Rattle.affected_search.specs.Listed.{KeepsListed, RecordReadsLaw, cells_below, given_reads, moved_cells, moved_reads, update_reads}
use Rattle.affected_search.specs.Reached.{IsAffected}
use Rattle.affected_search.specs.RecordsListed.{ListsCells, ListsGiven, ListsValues}
use Rattle.affected_search.specs.RowValues.{column_values, row_values}
use Rattle.affected_search.specs.CellNumbers.{cell_at, column_at}
use Rattle.affected_search.proofs.ActionLaws.{record_right}
use Rattle.affected_search.proofs.NarrowLaws.{old_cell}
use Rattle.affected_search.proofs.NotedLaws.{found_notes_law}
use Rattle.affected_search.proofs.RecordsListed.{came_cell, no_rows, records_listed_law, wrote}
use Rattle.affected_search.proofs.RowValueLaws.{at_cell, first_list, made_listed, row_values_law, second_list}
use Rattle.affected_search.proofs.CellNumbers.{cells_hold, column_below, column_parts, is_below, mapped, mixed, nothing}

-- ---- what the lists hold

below_hold : (t : ℕ) (rows : List ℕ) (n : ℕ) (c : CellNumber) → holds (cells_below t rows n) (read.Cell c) ≡ ((nat_eq c.column.table t && is_below n c.column.column) && has rows c.row)
below_hold t rows zero c = ap (λ b. b && has rows c.row) (nothing (nat_eq c.column.table t))
below_hold t rows (suc n) c =
    list_any-append (is_read (read.Cell c)) (cells_below t rows n) (map (λ r. read.Cell (cell_at (column_at t n) r)) rows)
    ∙ ap (λ b. b || holds (map (λ r. read.Cell (cell_at (column_at t n) r)) rows) (read.Cell c)) (below_hold t rows n c)
    ∙ ap (λ b. ((nat_eq c.column.table t && is_below n c.column.column) && has rows c.row) || b) (cells_hold c (column_at t n) rows)
    ∙ mixed (nat_eq c.column.table t) (is_below n c.column.column) (nat_eq c.column.column n) (has rows c.row)

pub cells_pushed : (now new : List ReadNumber) (t : ℕ) (rows : List ℕ) (n m : ℕ) → now ≡ read.All t ∷ cells_below t rows n → new ≡ now ++ map (λ r. read.Cell (cell_at (column_at t n) r)) rows → m ≡ n + 1 → new ≡ read.All t ∷ cells_below t rows m
cells_pushed now new t rows n m was put next =
    let after : suc n ≡ m = omega (arith, next) in
    put ∙ ap (λ l. l ++ map (λ r. read.Cell (cell_at (column_at t n) r)) rows) was ∙ ap (λ k. read.All t ∷ cells_below t rows k) after

module _ (names : List (List ℕ)) (s : Document) (t rows : List ℕ) where
  all_listed : (m : ReadNumber) → source_in names (all_source t) ≡ Some m → holds (moved_cells names (number_in names t) rows) m ≡ true
  all_listed m is =
      let i = mapped read.All (number_in names t) m is in
      subst (λ o. holds (moved_cells names o rows) m ≡ true) (sym i.1)
      (subst (λ q. holds (moved_cells names (Some i.0) rows) q ≡ true) i.2 (or_left (is_read (read.All i.0) (read.All i.0)) (holds (cells_below i.0 rows (length names)) (read.All i.0)) (read_itself (read.All i.0))))

  cell_listed : (d : CellId) (m : ReadNumber) → d.table ≡ t → has rows d.row ≡ true → source_in names (read_source (Cell d)) ≡ Some m → holds (moved_cells names (number_in names t) rows) m ≡ true
  cell_listed d m of among is =
      let c = mapped read.Cell (cell_in names d) m is in
      let k = mapped (λ (j : ColumnNumber). cell_at j d.row) (column_in names d.table d.column) c.0 c.1 in
      let parts = column_parts names d.table d.column k.0 k.1 in
      let number : number_in names t ≡ Some k.0.table = ap (number_in names) (sym of) ∙ parts.0 in
      let cell : CellNumber = cell_at k.0 d.row in
      let tests : holds (cells_below k.0.table rows (length names)) (read.Cell cell) ≡ true =
      below_hold k.0.table rows (length names) cell
      ∙ ap (λ b. (b && is_below (length names) k.0.column) && has rows d.row) (eq-eqb k.0.table k.0.table refl)
      ∙ ap (λ b. b && has rows d.row) (column_below names d.table d.column k.0 k.1) ∙ among in
      subst (λ o. holds (moved_cells names o rows) m ≡ true) (sym number)
      (subst (λ q. holds (moved_cells names (Some k.0.table) rows) q ≡ true) (ap read.Cell k.2 ∙ c.2) (or_right (is_read (read.Cell cell) (read.All k.0.table)) (holds (cells_below k.0.table rows (length names)) (read.Cell cell)) tests))

  abbrev cells : List ReadNumber
  cells = moved_cells names (number_in names t) rows

  abbrev values : List ReadNumber
  values = row_values names s t rows

  -- numbers that hold what is listed of rows that come or go
  module _ (numbers : List ReadNumber) (listed : (n : ReadNumber) → holds (moved_reads names s t rows) n ≡ true → holds numbers n ≡ true) where
    moved_cells_in : (b : Document) (a : DocAction) → ((d : CellId) → is_touched b a (Cell d) ≡ true → (d.table ≡ t) × (has rows d.row ≡ true)) → ListsCells names numbers b a t rows
    moved_cells_in b a came = record {
      cell = λ d m on is. let p = came d on in listed m (first_list (is_read m) cells values (cell_listed d m p.0 p.1 is));
      all = λ m on is. listed m (first_list (is_read m) cells values (all_listed m is));
    }

    moved_values_in : (b : Document) (a : DocAction) → ListsValues names numbers b a t rows s
    moved_values_in b a r among k on free = row_values_law names numbers s t rows (λ m h. listed m (second_list (is_read m) cells values h)) r among k free

-- ---- what is listed of an update

module _ (names : List (List ℕ)) (t rows : List ℕ) (g : Grid ColDef) where
  given_cell : (k : ColumnNumber) (r : ℕ) (o : Option ColDef) → has rows r ≡ true → holds (given_reads g (Some k) rows o) (read.Cell (cell_at k r)) ≡ true
  given_cell k r o among =
      first_list (is_read (read.Cell (cell_at k r))) (map (λ q. read.Cell (cell_at k q)) rows) (elim o as (λ _. List ReadNumber) [ None ↦ [] | Some d ↦ column_values g (Some k) rows d ])
      (made_listed (λ q. read.Cell (cell_at k q)) rows r among)

  update_cell : (ks : List CellColumn) (d : CellId) (m : ReadNumber) → wrote t rows ks (Cell d) ≡ true → source_in names (read_source (Cell d)) ≡ Some m → holds (update_reads names t g rows ks) m ≡ true
  update_cell [] d m on is = absurd (false≢true on)
  update_cell (k ∷ ks) d m on is = elim (or_cases (bytes_eq d.table t && (bytes_eq d.column k.id && has rows d.row)) (wrote t rows ks (Cell d)) on) [
    | inl this ↦
        let p = and_parts (bytes_eq d.table t) (bytes_eq d.column k.id && has rows d.row) this in
        let q = and_parts (bytes_eq d.column k.id) (has rows d.row) p.1 in
        let c = mapped read.Cell (cell_in names d) m is in
        let j = mapped (λ (i : ColumnNumber). cell_at i d.row) (column_in names d.table d.column) c.0 c.1 in
        let number : column_in names t k.id ≡ Some j.0 = ap (λ u. column_in names u k.id) (sym ((bytes_eq-Decides d.table t).0 p.0)) ∙ ap (column_in names d.table) (sym ((bytes_eq-Decides d.column k.id).0 q.0)) ∙ j.1 in
        first_list (is_read m) (given_reads g (column_in names t k.id) rows (find_id column_id k.id g.columns)) (update_reads names t g rows ks)
        (subst (λ o. holds (given_reads g o rows (find_id column_id k.id g.columns)) m ≡ true) (sym number)
        (subst (λ n. holds (given_reads g (Some j.0) rows (find_id column_id k.id g.columns)) n ≡ true) (ap read.Cell j.2 ∙ c.2) (given_cell j.0 d.row (find_id column_id k.id g.columns) q.1)))
    | inr later ↦ second_list (is_read m) (given_reads g (column_in names t k.id) rows (find_id column_id k.id g.columns)) (update_reads names t g rows ks) (update_cell ks d m later is)
  ]

  given_value : (o : Option ColumnNumber) (p : Option ColDef) (d : ColDef) (n : ReadNumber) → p ≡ Some d → holds (column_values g o rows d) n ≡ true → holds (given_reads g o rows p) n ≡ true
  given_value None p d n at h = absurd (false≢true h)
  given_value (Some k) p d n at h =
      subst (λ e. holds (given_reads g (Some k) rows e) n ≡ true) (sym at) (second_list (is_read n) (map (λ q. read.Cell (cell_at k q)) rows) (column_values g (Some k) rows d) h)

  update_value : (ks : List CellColumn) (c : List ℕ) (r : ℕ) → wrote t rows ks (Cell (cell_of t c r)) ≡ true → (d : ColDef) → find_id column_id c g.columns ≡ Some d → (n : ReadNumber)
      → holds (column_values g (column_in names t d.id) rows d) n ≡ true → holds (update_reads names t g rows ks) n ≡ true
  update_value [] c r on d at n h = absurd (false≢true on)
  update_value (k ∷ ks) c r on d at n h = elim (or_cases (bytes_eq t t && (bytes_eq c k.id && has rows r)) (wrote t rows ks (Cell (cell_of t c r))) on) [
    | inl this ↦
        let same : c ≡ k.id = (bytes_eq-Decides c k.id).0 (and_parts (bytes_eq c k.id) (has rows r) (and_parts (bytes_eq t t) (bytes_eq c k.id && has rows r) this).1).0 in
        let found : find_id column_id k.id g.columns ≡ Some d = ap (λ e. find_id column_id e g.columns) (sym same) ∙ at in
        first_list (is_read n) (given_reads g (column_in names t k.id) rows (find_id column_id k.id g.columns)) (update_reads names t g rows ks)
        (given_value (column_in names t k.id) (find_id column_id k.id g.columns) d n found
        (subst (λ e. holds (column_values g (column_in names t e) rows d) n ≡ true) (found_id column_id k.id g.columns d found) h))
    | inr later ↦ second_list (is_read n) (given_reads g (column_in names t k.id) rows (find_id column_id k.id g.columns)) (update_reads names t g rows ks) (update_value ks c r later d at n h)
  ]

-- numbers that hold what is listed of an update in a document
module _ (names : List (List ℕ)) (numbers : List ReadNumber) (x : Document) (t rows : List ℕ) (ks : List CellColumn)
    (listed : (n : ReadNumber) → holds (update_reads names t (grid_at x t) rows ks) n ≡ true → holds numbers n ≡ true) where
  update_cells_in : (s : Document) → ListsCells names numbers s (BulkUpdate t rows ks) t rows
  update_cells_in s = record {
    cell = λ d m on is. listed m (update_cell names t rows (grid_at x t) ks d m on is);
    all = λ m on is. absurd (false≢true (sym (no_rows t rows ks t) ∙ on));
  }

  update_values_in : (s : Document) → ListsGiven names numbers s (BulkUpdate t rows ks) t rows x
  update_values_in s r among k named on free =
      at_cell names numbers t r k free x rows (λ there. among) (λ d at n h. listed n (update_value names t rows (grid_at x t) ks k.column r on d at n h)) named

-- ---- the law

pub record_reads_law : RecordReadsLaw
record_reads_law names numbers s (BulkAdd t [] ks) of ok before after =
    (records_listed_law names numbers s t []).added ks ok
    (record { cell = λ d m on is. absurd (false≢true on); all = λ m on is. absurd (false≢true on) }) (λ r among k on free. absurd (false≢true among))
record_reads_law names numbers s (BulkAdd t (r ∷ rows) ks) of ok before after =
    (records_listed_law names numbers s t (r ∷ rows)).added ks ok
    (moved_cells_in names (apply s (BulkAdd t (r ∷ rows) ks)) t (r ∷ rows) numbers after s (BulkAdd t (r ∷ rows) ks) (λ d on. came_cell t (r ∷ rows) d on))
    (moved_values_in names (apply s (BulkAdd t (r ∷ rows) ks)) t (r ∷ rows) numbers after s (BulkAdd t (r ∷ rows) ks))
record_reads_law names numbers s (BulkRemove t []) of ok before after =
    (records_listed_law names numbers s t []).removed ok
    (record { cell = λ d m on is. absurd (false≢true on); all = λ m on is. absurd (false≢true on) }) (λ r among k on free. absurd (false≢true among))
record_reads_law names numbers s (BulkRemove t (r ∷ rows)) of ok before after =
    (records_listed_law names numbers s t (r ∷ rows)).removed ok
    (moved_cells_in names s t (r ∷ rows) numbers before s (BulkRemove t (r ∷ rows)) (λ d on. came_cell t (r ∷ rows) d on))
    (moved_values_in names s t (r ∷ rows) numbers before s (BulkRemove t (r ∷ rows)))
record_reads_law names numbers s (BulkUpdate t rows ks) of ok before after =
    (records_listed_law names numbers s t rows).updated ks ok
    (update_cells_in names numbers s t rows ks before s) (update_values_in names numbers s t rows ks before s)
    (update_values_in names numbers (apply s (BulkUpdate t rows ks)) t rows ks after s)
record_reads_law names numbers s (AddTable t row ds) of ok before after = absurd (false≢true of)
record_reads_law names numbers s (RemoveTable t) of ok before after = absurd (false≢true of)
record_reads_law names numbers s (RenameTable t new) of ok before after = absurd (false≢true of)
record_reads_law names numbers s (AddColumn t d) of ok before after = absurd (false≢true of)
record_reads_law names numbers s (RemoveColumn t c) of ok before after = absurd (false≢true of)
record_reads_law names numbers s (RenameColumn t c new) of ok before after = absurd (false≢true of)
record_reads_law names numbers s (ModifyColumn t c info) of ok before after = absurd (false≢true of)

-- ---- the search from what is listed

pub listed_keeps : (graph : Graph) (before after : List ReadNumber) (cells : List CellNumber) → IsAffected graph.reads (before ++ after) cells → KeepsListed graph before after cells
listed_keeps graph before after cells found s a of shown now held ok =
    found_notes_law (sheet_of s) (sheet_of (apply s a)) graph (before ++ after) cells (is_fresh_cell s a) (is_sheet s).listed (is_sheet (apply s a)).listed
    (old_cell s a of) (λ c f e new. (record_right a of s ok).was c f e new) held
    (record_reads_law graph.names (before ++ after) s a of ok
    (λ n h. first_list (is_read n) before after (subst (λ l. holds l n ≡ true) (sym shown) h))
    (λ n h. second_list (is_read n) before after (subst (λ l. holds l n ≡ true) (sym now) h)))
    found.closed
