-- What is listed of an action on records stands beside a read that the action touches.
use Rattle.std.proofs.Common.{ℕ, zero, suc, Bool, true, false, cond, nat_eq, ◌&&◌, ◌||◌, List, [], ◌∷◌, ◌++◌, map, filter, length, ◌≡◌, inl, inr, refl, sym, ap, ◌∙◌, subst, Option, Some, None}
use Rattle.std.proofs.lemmas.Bool.{false≢true, or_cases, or_left, or_right, and_from, eq-eqb, eqb-true}
use Rattle.std.proofs.lemmas.Slice.Eq.{bytes_eq-Decides}
use Rattle.std.specs.List.{AllByRecursion, list_any}
use Rattle.std.specs.Option.{is_some, option_map}
use Rattle.std.specs.Str.{bytes_eq}
use Rattle.cell_types.specs.declared.cell.CellId.{CellId}
use Rattle.cell_types.specs.declared.cell.Read.{Read}
use Rattle.cell_types.specs.declared.cell.Read.TheVariants.{Cell, Key, Rows}
use Rattle.cell_types.specs.declared.column_type.ColType.{ColType}
use Rattle.cell_types.specs.declared.value.CellValue.{CellValue}
use Rattle.doc_model.specs.declared.action.DocAction.{DocAction}
use Rattle.doc_model.specs.declared.action.DocAction.TheVariants.{BulkAdd, BulkUpdate, BulkRemove, AddTable, RemoveTable, RenameTable, AddColumn, RemoveColumn, RenameColumn, ModifyColumn}
use Rattle.doc_model.specs.declared.column.CellColumn.{CellColumn}
use Rattle.doc_model.specs.declared.column.ColDef.{ColDef}
use Rattle.doc_model.specs.Apply.{apply}
use Rattle.doc_model.specs.ByIds.{find_id}
use Rattle.doc_model.specs.Column.{column_id}
use Rattle.doc_model.specs.Document.{Document}
use Rattle.doc_model.specs.Grid.{Grid, cell}
use Rattle.doc_model.specs.Rows.{has}
use Rattle.doc_readers.specs.Parts.{grid_at}
use Rattle.formula_parse.specs.Lexemes.{id_word}
use Rattle.formula_eval.specs.Reading.{as_read}
use Rattle.lookup_index.specs.Buckets.{bucket_of, part_buckets}
use Rattle.recalc.specs.Evaluated.{sheet_of}
use Rattle.recalc.specs.Indexes.{is_error}
use Rattle.recalc.specs.MayLose.{is_record}
use Rattle.recalc.specs.Sheet.{Sheet, evaluated, reads, reads_by}
use Rattle.affected_cells.specs.Touched.{cells_written, is_touched, rows_come_or_go, touched_by}
use Rattle.affected_cells.proofs.Tests.{all_weaker, found_once}
use Rattle.dep_graph.proofs.NameLaws.{number_there}
use Rattle.dep_graph.specs.declared.numbers.CellNumber.{CellNumber}
use Rattle.dep_graph.specs.declared.numbers.ColumnNumber.{ColumnNumber}
use Rattle.dep_graph.specs.declared.numbers.ReadNumber.{ReadNumber}
use Rattle.dep_graph.specs.declared.numbers.ReadNumber.TheVariants as read
use Rattle.dep_graph.specs.Graph.{Graph}
use Rattle.dep_graph.specs.Names.{number_in}
use Rattle.dep_graph.specs.NumberLaws.{same_cell, same_column, same_read}
use Rattle.dep_graph.specs.Numbers.{is_read}
use Rattle.dep_graph.specs.Records.{holds, reads_under}
use Rattle.dep_graph.specs.Sources.{cell_in, column_in}
use Rattle.affected_search.specs.Listed.{FindsListed, HoldsNoMore, cells_below, given_reads, moved_cells, moved_reads, read_beside, record_reads, update_reads}
use Rattle.affected_search.specs.Reached.{IsAffected}
use Rattle.affected_search.specs.RowValues.{cells_values, column_values, columns_values, id_reads, row_values, value_at, value_reads}
use Rattle.affected_search.specs.Sheets.{has_number, HoldsOnlyReads, ListsOnlyTouched}
use Rattle.affected_search.specs.CellNumbers.{cell_at, column_at}
use Rattle.affected_search.proofs.ActionLaws.{one_of, record_right}
use Rattle.affected_search.proofs.RecordsListed.{wrote}
use Rattle.affected_search.proofs.CellNumbers.{column_parts, mapped}
use Rattle.affected_search.proofs.WithinLaws.{any_weaker, within_law}

-- ---- lists

module _ (P : ReadNumber → Type 0) where
  held_each : (ns : List ReadNumber) → AllByRecursion P ns → (n : ReadNumber) → holds ns n ≡ true → P n
  held_each [] all n h = absurd (false≢true h)
  held_each (m ∷ ns) all n h = elim (or_cases (is_read n m) (holds ns n) h) [
    | inl here ↦ subst P (sym (same_read n m here)) all.0
    | inr later ↦ held_each ns all.1 n later
  ]

  each_append : (xs ys : List ReadNumber) → AllByRecursion P xs → AllByRecursion P ys → AllByRecursion P (xs ++ ys)
  each_append [] ys h g = g
  each_append (x ∷ xs) ys h g = (h.0, each_append xs ys h.1 g)

  each_made : (f : ℕ → ReadNumber) (rows : List ℕ) → ((r : ℕ) → has rows r ≡ true → P (f r)) → AllByRecursion P (map f rows)
  each_made f [] h = tt
  each_made f (q ∷ rows) h = (h q (or_left (nat_eq q q) (has rows q) (eq-eqb q q refl)), each_made f rows (λ r there. h r (or_right (nat_eq q r) (has rows r) there)))

-- ---- numbers of reads

numbered : {A : Type 0} (f : A → ReadNumber) (n : ReadNumber) (o : Option A) → elim (option_map f o) as (λ _. Bool) [ None ↦ false | Some m ↦ is_read m n ] ≡ true → (x : A) × (o ≡ Some x) × (is_read (f x) n ≡ true)
numbered f n None h = absurd (false≢true h)
numbered f n (Some x) h = (x, refl, h)

module _ (names : List (List ℕ)) where
  pub one_name : (u t : List ℕ) (i : ℕ) → number_in names u ≡ Some i → number_in names t ≡ Some i → u ≡ t
  one_name u t i p q = found_once u t (sym (number_there names u i p) ∙ number_there names t i q)

  pub one_column : (u c t b : List ℕ) (k : ColumnNumber) → column_in names u c ≡ Some k → column_in names t b ≡ Some k → (u ≡ t) × (c ≡ b)
  one_column u c t b k p q =
      let v = column_parts names u c k p in
      let w = column_parts names t b k q in
      (one_name u t k.table v.0 w.0, one_name c b k.column v.1 w.1)

  -- a cell of this number stands in the row, and its column has the column's number
  pub cell_of_number : (e : CellId) (k : ColumnNumber) (r : ℕ) → cell_in names e ≡ Some (cell_at k r) → (column_in names e.table e.column ≡ Some k) × (e.row ≡ r)
  cell_of_number e k r is =
      let w = mapped (λ (j : ColumnNumber). cell_at j e.row) (column_in names e.table e.column) (cell_at k r) is in
      (w.1 ∙ ap (λ (d : CellNumber). Some d.column) w.2, ap (λ (d : CellNumber). d.row) w.2)

  module _ (touched : Read → Bool) where
    -- what has the number is touched
    abbrev pub OnTouched : ReadNumber → Type 0
    OnTouched n = (q : Read) → has_number names n q ≡ true → touched q ≡ true

    pub on_cell : (d : CellNumber) → ((e : CellId) → cell_in names e ≡ Some d → touched (Cell e) ≡ true) → OnTouched (read.Cell d)
    on_cell d h (Cell e) there = let w = numbered read.Cell (read.Cell d) (cell_in names e) there in h e (w.1 ∙ ap (λ j. Some j) (same_cell w.0 d w.2))
    on_cell d h (Key u c) there = absurd (false≢true (numbered read.Key (read.Cell d) (column_in names u c) there).2)
    on_cell d h (Rows u) there = absurd (false≢true (numbered read.Rows (read.Cell d) (number_in names u) there).2)

    pub on_key : (k : ColumnNumber) → ((u c : List ℕ) → column_in names u c ≡ Some k → touched (Key u c) ≡ true) → OnTouched (read.Key k)
    on_key k h (Cell e) there = absurd (false≢true (numbered read.Cell (read.Key k) (cell_in names e) there).2)
    on_key k h (Key u c) there = let w = numbered read.Key (read.Key k) (column_in names u c) there in h u c (w.1 ∙ ap (λ j. Some j) (same_column w.0 k w.2))
    on_key k h (Rows u) there = absurd (false≢true (numbered read.Rows (read.Key k) (number_in names u) there).2)

    pub on_rows : (i : ℕ) → ((u : List ℕ) → number_in names u ≡ Some i → touched (Rows u) ≡ true) → OnTouched (read.Rows i)
    on_rows i h (Cell e) there = absurd (false≢true (numbered read.Cell (read.Rows i) (cell_in names e) there).2)
    on_rows i h (Key u c) there = absurd (false≢true (numbered read.Key (read.Rows i) (column_in names u c) there).2)
    on_rows i h (Rows u) there = let w = numbered read.Rows (read.Rows i) (number_in names u) there in h u (w.1 ∙ ap (λ j. Some j) (eqb-true w.0 i w.2))

    -- so it is of what is read beside the number
    abbrev pub IsBeside : ReadNumber → Type 0
    IsBeside n = OnTouched (read_beside n)

-- ---- values of a column

-- the column as a key column is read beside it
abbrev OnKey : ColumnNumber → ReadNumber → Type 0
OnKey k n = read_beside n ≡ read.Key k

value_on : (k : ColumnNumber) (v : CellValue) → AllByRecursion (OnKey k) (value_reads k v)
value_on k v = by (is_error v)
  where
    by : (b : Bool) → AllByRecursion (OnKey k) (cond b (read.Key k ∷ []) (read.Value (value_at k (bucket_of v)) ∷ map (λ b. read.Part (value_at k b)) (part_buckets v)))
    by true = (refl, tt)
    by false = (refl, each_made (OnKey k) (λ b. read.Part (value_at k b)) (part_buckets v) (λ b there. refl))

cells_on : (k : ColumnNumber) (ty : ColType) (f : ℕ → CellValue) (rows : List ℕ) → AllByRecursion (OnKey k) (cells_values k ty f rows)
cells_on k ty f [] = tt
cells_on k ty f (r ∷ rows) = each_append (OnKey k) (value_reads k (as_read ty (f r))) (cells_values k ty f rows) (value_on k (as_read ty (f r))) (cells_on k ty f rows)

column_on : (g : Grid ColDef) (k : ColumnNumber) (rows : List ℕ) (d : ColDef) → AllByRecursion (OnKey k) (column_values g (Some k) rows d)
column_on g k rows d = by d.info.is_formula
  where
    by : (b : Bool) → AllByRecursion (OnKey k) (cond b (read.Key k ∷ []) (cells_values k d.info.ty (cell column_id g d.id) rows))
    by true = (refl, tt)
    by false = cells_on k d.info.ty (cell column_id g d.id) rows

column_beside : (names : List (List ℕ)) (touched : Read → Bool) (g : Grid ColDef) (k : ColumnNumber) (rows : List ℕ) (d : ColDef) → OnTouched names touched (read.Key k) → AllByRecursion (IsBeside names touched) (column_values g (Some k) rows d)
column_beside names touched g k rows d h = all_weaker (OnKey k) (IsBeside names touched) (λ n is. subst (OnTouched names touched) (sym is) h) (column_values g (Some k) rows d) (column_on g k rows d)

-- ---- rows that come or go

module _ (names : List (List ℕ)) (t rows : List ℕ) where
  abbrev came : Read → Bool
  came q = touched_by (rows_come_or_go t rows) q || false

  abbrev IsMoved : ReadNumber → Type 0
  IsMoved = IsBeside names came

  came_table : (u : List ℕ) → u ≡ t → (bytes_eq u t || false) ≡ true
  came_table u is = or_left (bytes_eq u t) false ((bytes_eq-Decides u t).1 is)

  came_key : (c : List ℕ) (k : ColumnNumber) → column_in names t c ≡ Some k → OnTouched names came (read.Key k)
  came_key c k at = on_key names came k (λ u b is. came_table u (one_column names u b t c k is at).0)

  came_cell : (i n r : ℕ) → number_in names t ≡ Some i → has rows r ≡ true → IsMoved (read.Cell (cell_at (column_at i n) r))
  came_cell i n r at among = on_cell names came (cell_at (column_at i n) r) (λ e is.
      let w = cell_of_number names e (column_at i n) r is in
      let table : e.table ≡ t = one_name names e.table t i (column_parts names e.table e.column (column_at i n) w.0).0 at in
      or_left (bytes_eq e.table t && has rows e.row) false (and_from (bytes_eq e.table t) (has rows e.row) ((bytes_eq-Decides e.table t).1 table) (subst (λ q. has rows q ≡ true) (sym w.1) among)))

  below_moved : (i n : ℕ) → number_in names t ≡ Some i → AllByRecursion IsMoved (cells_below i rows n)
  below_moved i zero at = tt
  below_moved i (suc n) at =
      each_append IsMoved (cells_below i rows n) (map (λ r. read.Cell (cell_at (column_at i n) r)) rows) (below_moved i n at)
      (each_made IsMoved (λ r. read.Cell (cell_at (column_at i n) r)) rows (λ r among. came_cell i n r at among))

  cells_moved : (o : Option ℕ) → number_in names t ≡ o → AllByRecursion IsMoved (moved_cells names o rows)
  cells_moved None at = tt
  cells_moved (Some i) at = (on_rows names came i (λ u is. came_table u (one_name names u t i is at)), below_moved i (length names) at)

  ids_moved : (o : Option ColumnNumber) → column_in names t id_word ≡ o → AllByRecursion IsMoved (id_reads o rows)
  ids_moved None at = tt
  ids_moved (Some k) at = each_made IsMoved (λ r. read.Value (value_at k r)) rows (λ r among. came_key id_word k at)

  column_moved : (g : Grid ColDef) (there : List ℕ) (d : ColDef) (o : Option ColumnNumber) → column_in names t d.id ≡ o → AllByRecursion IsMoved (column_values g o there d)
  column_moved g there d None at = tt
  column_moved g there d (Some k) at = column_beside names came g k there d (came_key d.id k at)

  columns_moved : (g : Grid ColDef) (there : List ℕ) (ds : List ColDef) → AllByRecursion IsMoved (columns_values names t g there ds)
  columns_moved g there [] = tt
  columns_moved g there (d ∷ ds) =
      each_append IsMoved (column_values g (column_in names t d.id) there d) (columns_values names t g there ds) (column_moved g there d (column_in names t d.id) refl) (columns_moved g there ds)

  moved : (x : Document) → AllByRecursion IsMoved (moved_reads names x t rows)
  moved x =
      let there = filter (has rows) (grid_at x t).rows in
      each_append IsMoved (moved_cells names (number_in names t) rows) (row_values names x t rows) (cells_moved (number_in names t) refl)
      (each_append IsMoved (id_reads (column_in names t id_word) rows) (columns_values names t (grid_at x t) there (grid_at x t).columns) (ids_moved (column_in names t id_word) refl) (columns_moved (grid_at x t) there (grid_at x t).columns))

-- ---- cells that are written

module _ (names : List (List ℕ)) (t rows : List ℕ) (g : Grid ColDef) where
  abbrev IsWritten : List CellColumn → ReadNumber → Type 0
  IsWritten ks = IsBeside names (wrote t rows ks)

  wrote_cell : (k : CellColumn) (ks : List CellColumn) (j : ColumnNumber) (r : ℕ) → column_in names t k.id ≡ Some j → has rows r ≡ true → IsWritten (k ∷ ks) (read.Cell (cell_at j r))
  wrote_cell k ks j r at among = on_cell names (wrote t rows (k ∷ ks)) (cell_at j r) (λ e is.
      let w = cell_of_number names e j r is in
      let same = one_column names e.table e.column t k.id j w.0 at in
      or_left (bytes_eq e.table t && (bytes_eq e.column k.id && has rows e.row)) (wrote t rows ks (Cell e))
      (and_from (bytes_eq e.table t) (bytes_eq e.column k.id && has rows e.row) ((bytes_eq-Decides e.table t).1 same.0)
      (and_from (bytes_eq e.column k.id) (has rows e.row) ((bytes_eq-Decides e.column k.id).1 same.1) (subst (λ q. has rows q ≡ true) (sym w.1) among))))

  wrote_key : (k : CellColumn) (ks : List CellColumn) (j : ColumnNumber) → column_in names t k.id ≡ Some j → OnTouched names (wrote t rows (k ∷ ks)) (read.Key j)
  wrote_key k ks j at = on_key names (wrote t rows (k ∷ ks)) j (λ u c is.
      let same = one_column names u c t k.id j is at in
      or_left (bytes_eq u t && bytes_eq c k.id) (wrote t rows ks (Key u c)) (and_from (bytes_eq u t) (bytes_eq c k.id) ((bytes_eq-Decides u t).1 same.0) ((bytes_eq-Decides c k.id).1 same.1)))

  given_written : (k : CellColumn) (ks : List CellColumn) (o : Option ColumnNumber) (p : Option ColDef) → column_in names t k.id ≡ o → AllByRecursion (IsWritten (k ∷ ks)) (given_reads g o rows p)
  given_written k ks None p at = tt
  given_written k ks (Some j) None at =
      each_append (IsWritten (k ∷ ks)) (map (λ r. read.Cell (cell_at j r)) rows) [] (each_made (IsWritten (k ∷ ks)) (λ r. read.Cell (cell_at j r)) rows (λ r among. wrote_cell k ks j r at among)) tt
  given_written k ks (Some j) (Some d) at =
      each_append (IsWritten (k ∷ ks)) (map (λ r. read.Cell (cell_at j r)) rows) (column_values g (Some j) rows d)
      (each_made (IsWritten (k ∷ ks)) (λ r. read.Cell (cell_at j r)) rows (λ r among. wrote_cell k ks j r at among)) (column_beside names (wrote t rows (k ∷ ks)) g j rows d (wrote_key k ks j at))

  written : (ks : List CellColumn) → AllByRecursion (IsWritten ks) (update_reads names t g rows ks)
  written [] = tt
  written (k ∷ ks) =
      each_append (IsWritten (k ∷ ks)) (given_reads g (column_in names t k.id) rows (find_id column_id k.id g.columns)) (update_reads names t g rows ks)
      (given_written k ks (column_in names t k.id) (find_id column_id k.id g.columns) refl)
      (all_weaker (IsWritten ks) (IsWritten (k ∷ ks)) (λ n h q is. or_right (touched_by (cells_written t k.id rows) q) (wrote t rows ks q) (h q is)) (update_reads names t g rows ks) (written ks))

-- ---- actions on records

-- whatever document shows the rows
listed_touched : (names : List (List ℕ)) (s x : Document) (a : DocAction) → is_record a ≡ true → AllByRecursion (IsBeside names (is_touched s a)) (record_reads names x a)
listed_touched names s x (BulkAdd t [] ks) of = tt
listed_touched names s x (BulkAdd t (r ∷ rows) ks) of = moved names t (r ∷ rows) x
listed_touched names s x (BulkRemove t []) of = tt
listed_touched names s x (BulkRemove t (r ∷ rows)) of = moved names t (r ∷ rows) x
listed_touched names s x (BulkUpdate t rows ks) of = written names t rows (grid_at x t) ks
listed_touched names s x (AddTable t row ds) of = absurd (false≢true of)
listed_touched names s x (RemoveTable t) of = absurd (false≢true of)
listed_touched names s x (RenameTable t new) of = absurd (false≢true of)
listed_touched names s x (AddColumn t d) of = absurd (false≢true of)
listed_touched names s x (RemoveColumn t c) of = absurd (false≢true of)
listed_touched names s x (RenameColumn t c new) of = absurd (false≢true of)
listed_touched names s x (ModifyColumn t c info) of = absurd (false≢true of)

-- ---- the search from what is listed

module _ (graph : Graph) (s : Sheet) (exact : HoldsNoMore graph s) where
  -- what makes a read is a formula cell
  has_formula : (p : Read → Bool) (c : CellId) → list_any p (reads s c) ≡ true → is_some (s.formula c) ≡ true
  has_formula p c h = by (s.formula c) h
    where
      by : (o : Option (List ℕ)) → list_any p (reads_by s (λ d. Some (evaluated s d)) c o) ≡ true → is_some o ≡ true
      by None h = absurd (false≢true h)
      by (Some f) h = refl

  pub only_reads : HoldsOnlyReads graph s
  only_reads = record {
    formula = λ c k n is h. has_formula (has_number graph.names (read_beside n)) c (exact c k n is h);
    cell = λ c k d is h. exact c k (read.Cell d) is h;
    key = λ c k j is h. exact c k (read.Key j) is h;
  }

  pub only_touched : (touched : Read → Bool) (numbers : List ReadNumber) → AllByRecursion (IsBeside graph.names touched) numbers → ListsOnlyTouched graph s touched numbers
  only_touched touched numbers all c k is h =
      let w = one_of (holds (reads_under graph.reads k)) numbers h in
      any_weaker (has_number graph.names (read_beside w.0)) touched (held_each (IsBeside graph.names touched) numbers all w.0 w.1) (reads s c) (exact c k w.0 is w.2)

pub listed_finds : (graph : Graph) (before after : List ReadNumber) (cells : List CellNumber) → IsAffected graph.reads (before ++ after) cells → FindsListed graph before after cells
listed_finds graph before after cells found s a of shown now ok exact c k f e is there =
    let beside = IsBeside graph.names (is_touched s a) in
    let all = each_append beside before after (subst (AllByRecursion beside) (sym shown) (listed_touched graph.names s s a of)) (subst (AllByRecursion beside) (sym now) (listed_touched graph.names s (apply s a) a of)) in
    within_law s a graph (before ++ after) (record_right a of s ok) (only_reads graph (sheet_of s) exact) (only_touched graph (sheet_of s) exact (is_touched s a) (before ++ after) all) c k f e is (found.reached k there)
