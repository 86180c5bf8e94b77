-- What is found by the graph of a sheet's reads is closed in the sheet.
use Rattle.std.proofs.Common.{ℕ, Bool, true, false, not, ◌&&◌, ◌||◌, List, [], ◌∷◌, ◌++◌, ◌≡◌, inl, inr, sym, ap, ◌∙◌, subst, Option, Some, None}
use Rattle.std.proofs.lemmas.Bool.{false≢true, or_left, or_right, or_parts, or_from}
use Rattle.std.specs.List.{AllByRecursion}
use Rattle.std.specs.Option.{option_map, is_some}
use Rattle.std.specs.Str.{bytes_eq}
use Rattle.cell_types.specs.declared.cell.CellId.{CellId}
use Rattle.cell_types.specs.declared.cell.Read.{Read}
use Rattle.cell_types.specs.declared.cell.Read.TheVariants.{Cell, Key, Rows}
use Rattle.doc_model.specs.declared.action.DocAction.{DocAction}
use Rattle.doc_model.specs.declared.action.DocAction.TheVariants.{BulkAdd, BulkUpdate, BulkRemove, AddTable, RemoveTable, RenameTable, AddColumn, RemoveColumn, RenameColumn, ModifyColumn}
use Rattle.doc_model.specs.Apply.{apply}
use Rattle.doc_model.specs.Document.{Document}
use Rattle.doc_model.proofs.Choices.{false_from}
use Rattle.formula_eval.specs.declared.note.Note.{Note}
use Rattle.formula_eval.specs.declared.note.Note.TheVariants as note
use Rattle.formula_eval.specs.Run.{reads_of}
use Rattle.recalc.specs.Cells.{cell_of}
use Rattle.recalc.specs.Evaluated.{sheet_of}
use Rattle.recalc.specs.Sheet.{Sheet, reads}
use Rattle.recalc.proofs.SheetLemmas.{is_sheet}
use Rattle.affected_cells.specs.Affected.{is_fresh_cell, is_modified}
use Rattle.affected_cells.specs.Touched.{is_touched}
use Rattle.affected_cells.specs.TouchedRight.{IsSameCell, IsTouchedRight, TouchesRight}
use Rattle.affected_cells.specs.Untouched as sheet
use Rattle.affected_cells.specs.Untouched.{IsUntouchedCell, IsUntouched}
use Rattle.affected_cells.proofs.Tests.{all_weaker, found_once}
use Rattle.affected_cells.proofs.Unaffected.{closed_by_notes, reads_noted, unaffected_notes_law}
use Rattle.dep_graph.specs.declared.numbers.CellNumber.{CellNumber}
use Rattle.dep_graph.specs.declared.numbers.ColumnNumber.{ColumnNumber}
use Rattle.dep_graph.specs.declared.numbers.ReadNumber.{ReadNumber}
use Rattle.dep_graph.specs.declared.numbers.ReadNumber.TheVariants as read
use Rattle.dep_graph.specs.Graph.{Graph}
use Rattle.dep_graph.specs.NumberLaws.{read_itself}
use Rattle.dep_graph.specs.Numbers.{is_read}
use Rattle.dep_graph.specs.Records.{holds, reads_under}
use Rattle.dep_graph.specs.Sources.{AreNumbers, Source, all_source, cell_in, column_in, read_source, source_in, sources, sources_of_keys}
use Rattle.affected_search.specs.Noted.{KeepsNotes}
use Rattle.affected_search.specs.Reached.{is_among, reads_naming, reads_one, IsClosed}
use Rattle.affected_search.specs.Sheets.{IsHeld, HoldsReads, is_found, HeldLaw, FoundLaw}

-- ---- what a search over the graph tells of a sheet

module _ (graph : Graph) (numbers : List ReadNumber) (cells : List CellNumber) (closed : IsClosed graph.reads numbers cells) where
  -- a cell that is not found reads no cell that is
  module _ (k : CellNumber) (free : is_among cells k ≡ false) where
    apart : (d : CellNumber) → is_among cells d ≡ true → reads_one graph.reads (reads_naming d) k ≡ true → ⊥
    apart d there h = false≢true (sym free ∙ closed.of_cells d k there h)

    pub not_found : (d : CellId) (n : ReadNumber) → source_in graph.names (read_source (Cell d)) ≡ Some n → holds (reads_under graph.reads k) n ≡ true → is_found graph cells d ≡ false
    not_found d n is h = false_from (is_found graph cells d) (by (cell_in graph.names d) is)
      where
        by : (o : Option CellNumber) → option_map read.Cell o ≡ Some n → elim o as (λ _. Bool) [ None ↦ false | Some j ↦ is_among cells j ] ≡ true → ⊥
        by None e there = false≢true there
        by (Some j) e there = apart j there (or_left (holds (reads_under graph.reads k) (read.Cell j)) (holds (reads_under graph.reads k) (read.Key j.column) || false) (subst (λ q. holds (reads_under graph.reads k) q ≡ true) (sym (found_once (read.Cell j) n e)) h))

    pub none_found : (u c : List ℕ) (r : ℕ) (n : ReadNumber) → source_in graph.names (read_source (Key u c)) ≡ Some n → holds (reads_under graph.reads k) n ≡ true → is_found graph cells (cell_of u c r) ≡ false
    none_found u c r n is h = false_from (is_found graph cells (cell_of u c r)) (by (column_in graph.names u c) is)
      where
        by : (o : Option ColumnNumber) → option_map read.Key o ≡ Some n → elim (option_map {U = CellNumber} (λ (j : ColumnNumber). record { column = j; row = r }) o) as (λ _. Bool) [ None ↦ false | Some j ↦ is_among cells j ] ≡ true → ⊥
        by None e there = false≢true there
        by (Some j) e there =
            let d : CellNumber = record { column = j; row = r } in
            apart d there (or_right (holds (reads_under graph.reads k) (read.Cell d)) (holds (reads_under graph.reads k) (read.Key j) || false)
            (or_left (holds (reads_under graph.reads k) (read.Key j)) false (subst (λ q. holds (reads_under graph.reads k) q ≡ true) (sym (found_once (read.Key j) n e)) h)))

  -- where the cell reads something touched, it reads one of the numbers
  abbrev pub ListsReads : (Read → Bool) → CellNumber → Type 0
  ListsReads touched k = (q : Read) (n : ReadNumber) → source_in graph.names (read_source q) ≡ Some n → touched q ≡ true
      → holds (reads_under graph.reads k) n ≡ true → reads_one graph.reads numbers k ≡ true

  -- so it is of each formula cell
  abbrev pub ListsReadsOf : Sheet → (Read → Bool) → Type 0
  ListsReadsOf s touched = (c : CellId) (f : List ℕ) (k : CellNumber) → s.formula c ≡ Some f → cell_in graph.names c ≡ Some k → ListsReads touched k

  module _ (s t : Sheet) (fresh : CellId → Bool) (touched : Read → Bool) (right : IsTouchedRight s t fresh touched) (held : HoldsReads graph s) (lists : ListsReadsOf s touched)
      (fresh_cell : (d : CellId) (f : List ℕ) → s.formula d ≡ Some f → fresh d ≡ true → touched (Cell d) ≡ true)
      (fresh_key : (u c : List ℕ) (r : ℕ) (f : List ℕ) → s.formula (cell_of u c r) ≡ Some f → fresh (cell_of u c r) ≡ true → touched (Key u c) ≡ true) where
    abbrev affected : CellId → Bool
    affected c = fresh c || is_found graph cells c

    -- what a cell that is not found reads is not touched
    not_touched : (k : CellNumber) → ListsReads touched k → is_among cells k ≡ false → (q : Read) → IsHeld graph.names (reads_under graph.reads k) q → touched q ≡ false
    not_touched k listed free q h = false_from (touched q) (λ e. false≢true (sym free ∙ closed.of_touched k (listed q h.0 h.1 e h.2)))

    same_cell_free : (d : CellId) → (touch : Bool) → touch ≡ false → ((f : List ℕ) → s.formula d ≡ Some f → fresh d ≡ true → touch ≡ true) → is_found graph cells d ≡ false → IsSameCell s t fresh touched d → IsUntouchedCell s t affected d
    same_cell_free d touch off on free (inl h) = inl h
    same_cell_free d touch off on free (inr h) = inr (h.0, h.1, h.2, or_from (fresh d) (is_found graph cells d) (false_from (fresh d) (λ e. false≢true (sym off ∙ on h.0 h.1 e))) free)

    untouched : (k : CellNumber) → ListsReads touched k → is_among cells k ≡ false → (q : Read) → IsHeld graph.names (reads_under graph.reads k) q → IsUntouched s t affected q
    untouched k listed free (Cell d) h =
        let off = not_touched k listed free (Cell d) h in
        let w = right.cell d off in
        (w.0, same_cell_free d (touched (Cell d)) off (fresh_cell d) (not_found k free d h.0 h.1 h.2) w.1)
    untouched k listed free (Key u c) h =
        let off = not_touched k listed free (Key u c) h in
        let w = right.key u c off in
        (w.0, λ r. same_cell_free (cell_of u c r) (touched (Key u c)) off (fresh_key u c r) (none_found k free u c r h.0 h.1 h.2) (w.1 r))
    untouched k listed free (Rows u) h = right.rows u (not_touched k listed free (Rows u) h)

    by_number : (c : CellId) (k : CellNumber) → cell_in graph.names c ≡ Some k → is_found graph cells c ≡ false → is_among cells k ≡ false
    by_number c k is free = sym (ap (λ o. elim o as (λ _. Bool) [ None ↦ false | Some j ↦ is_among cells j ]) is) ∙ free

    pub sheet_closed : sheet.IsClosed s t affected
    sheet_closed = record {
      was = λ c f e free. right.was c f e (or_parts (fresh c) (is_found graph cells c) free).0;
      kind = λ c f e free. right.kind c f e (or_parts (fresh c) (is_found graph cells c) free).0;
      untouched = λ c f e free.
          let parts = or_parts (fresh c) (is_found graph cells c) free in
          let was = right.was c f e parts.0 in
          let has = held c f was in
          all_weaker (IsHeld graph.names (reads_under graph.reads has.0)) (IsUntouched s t affected) (untouched has.0 (lists c f has.0 was has.1) (by_number c has.0 has.1 parts.1)) (reads s c) has.2;
    }

-- ---- documents and actions

-- a formula cell that an action affects itself stands in a column that the action modifies
modified : (s : Document) (a : DocAction) (d : CellId) (f : List ℕ) → (sheet_of s).formula d ≡ Some f → is_fresh_cell s a d ≡ true → is_modified a d ≡ true
modified s a d f e h = sym (ap (λ o. not (is_some o) || is_modified a d) e) ∙ h

cell_modified : (s : Document) (a : DocAction) (d : CellId) → is_modified a d ≡ true → is_touched s a (Cell d) ≡ true
cell_modified s (ModifyColumn t k info) d h = or_left (bytes_eq d.table t && bytes_eq d.column k) _ h
cell_modified s (BulkAdd t rows ks) d h = absurd (false≢true h)
cell_modified s (BulkUpdate t rows ks) d h = absurd (false≢true h)
cell_modified s (BulkRemove t rows) d h = absurd (false≢true h)
cell_modified s (AddTable t row ds) d h = absurd (false≢true h)
cell_modified s (RemoveTable t) d h = absurd (false≢true h)
cell_modified s (RenameTable t new) d h = absurd (false≢true h)
cell_modified s (AddColumn t e) d h = absurd (false≢true h)
cell_modified s (RemoveColumn t k) d h = absurd (false≢true h)
cell_modified s (RenameColumn t k new) d h = absurd (false≢true h)

key_modified : (s : Document) (a : DocAction) (u c : List ℕ) (r : ℕ) → is_modified a (cell_of u c r) ≡ true → is_touched s a (Key u c) ≡ true
key_modified s (ModifyColumn t k info) u c r h = or_left (bytes_eq u t && bytes_eq c k) _ h
key_modified s (BulkAdd t rows ks) u c r h = absurd (false≢true h)
key_modified s (BulkUpdate t rows ks) u c r h = absurd (false≢true h)
key_modified s (BulkRemove t rows) u c r h = absurd (false≢true h)
key_modified s (AddTable t row ds) u c r h = absurd (false≢true h)
key_modified s (RemoveTable t) u c r h = absurd (false≢true h)
key_modified s (RenameTable t new) u c r h = absurd (false≢true h)
key_modified s (AddColumn t e) u c r h = absurd (false≢true h)
key_modified s (RemoveColumn t k) u c r h = absurd (false≢true h)
key_modified s (RenameColumn t k new) u c r h = absurd (false≢true h)

module _ (s : Document) (a : DocAction) (graph : Graph) (numbers : List ReadNumber) (cells : List CellNumber) (right : TouchesRight s a) (held : HoldsReads graph (sheet_of s))
    (closed : IsClosed graph.reads numbers cells) (lists : ListsReadsOf graph numbers cells closed (sheet_of s) (is_touched s a)) where
  -- a formula cell that is not found keeps what its run notes
  pub found_keeps : KeepsNotes (sheet_of s) (sheet_of (apply s a)) (is_fresh_cell s a) graph cells
  found_keeps c f e new free =
      unaffected_notes_law (sheet_of s) (sheet_of (apply s a)) (λ d. is_fresh_cell s a d || is_found graph cells d) (is_sheet s).listed (is_sheet (apply s a)).listed
      (closed_by_notes (sheet_of s) (sheet_of (apply s a)) (λ d. is_fresh_cell s a d || is_found graph cells d)
      (sheet_closed graph numbers cells closed (sheet_of s) (sheet_of (apply s a)) (is_fresh_cell s a) (is_touched s a) right held lists
      (λ d g i h. cell_modified s a d (modified s a d g i h)) (λ u k r g i h. key_modified s a u k r (modified s a (cell_of u k r) g i h))))
      c f e (or_from (is_fresh_cell s a c) (is_found graph cells c) new free)

pub found_law : FoundLaw
found_law s a graph numbers cells right held lists closed c f e new free =
    let same = found_keeps s a graph numbers cells right held closed (λ d g k at is q n. lists q n k) c f e new free in
    (same.0, reads_noted (sheet_of (apply s a)) c ∙ ap reads_of same.1 ∙ sym (reads_noted (sheet_of s) c))

-- ---- what is recorded

-- numbers of what was before, and of what follows
module _ (names : List (List ℕ)) where
  held_more : (numbers : List ReadNumber) (n : ReadNumber) (qs : List Read) → AllByRecursion (IsHeld names numbers) qs → AllByRecursion (IsHeld names (n ∷ numbers)) qs
  held_more numbers n = all_weaker (IsHeld names numbers) (IsHeld names (n ∷ numbers)) (λ q h. (h.0, h.1, or_right (is_read h.0 n) (holds numbers h.0) h.2))

  -- past the numbers of a lookup's keys
  past_keys : (front : List Source) (rest : List Source) (numbers : List ReadNumber) (qs : List Read) → ((later : List ReadNumber) → AreNumbers names rest later → AllByRecursion (IsHeld names later) qs)
      → AreNumbers names (front ++ rest) numbers → AllByRecursion (IsHeld names numbers) qs
  past_keys [] rest numbers qs go h = go numbers h
  past_keys (x ∷ front) rest [] qs go h = absurd h
  past_keys (x ∷ front) rest (n ∷ numbers) qs go h = held_more numbers n qs (past_keys front rest numbers qs go h.1)

  pub held : (notes : List Note) (numbers : List ReadNumber) → AreNumbers names (sources notes) numbers → AllByRecursion (IsHeld names numbers) (reads_of notes)
  held [] numbers h = tt
  held (note.Read q ∷ notes) [] h = absurd h
  held (note.Read q ∷ notes) (n ∷ numbers) h = ((n, h.0, or_left (is_read n n) (holds numbers n) (read_itself n)), held_more numbers n (reads_of notes) (held notes numbers h.1))
  held (note.All t ∷ notes) numbers h = past_keys (all_source t ∷ []) (sources notes) numbers (reads_of notes) (held notes) h
  held (note.Met t ks ∷ notes) numbers h = past_keys (sources_of_keys t ks) (sources notes) numbers (reads_of notes) (held notes) h

pub held_law : HeldLaw
held_law = held
