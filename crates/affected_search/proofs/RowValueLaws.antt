-- Rows whose values are listed do not meet a key that is not.
use Rattle.std.proofs.Common.{ℕ, pos, Bool, true, false, cond, nat_eq, ◌&&◌, ◌||◌, List, [], ◌∷◌, ◌++◌, filter, map, ◌≡◌, refl, sym, ap, ◌∙◌, subst, Option, Some, None}
use Rattle.std.proofs.lemmas.Bool.{false≢true, or_left, or_right, eqb-true}
use Rattle.std.proofs.lemmas.List.Folds.{list_any-append}
use Rattle.std.proofs.lemmas.Slice.Eq.{bytes_eq-Decides}
use Rattle.std.specs.List.{list_any}
use Rattle.std.specs.Option.{option_map}
use Rattle.std.specs.Str.{bytes_eq}
use Rattle.cell_types.specs.declared.cell.CellId.{CellId}
use Rattle.cell_types.specs.declared.cell.KeyItem.{KeyItem}
use Rattle.cell_types.specs.declared.column_type.ColType.{ColType}
use Rattle.cell_types.specs.declared.column_type.ColType.TheVariants as ty
use Rattle.cell_types.specs.declared.value.CellValue.{CellValue}
use Rattle.cell_types.specs.declared.value.CellValue.TheVariants as value
use Rattle.doc_model.specs.declared.column.ColDef.{ColDef}
use Rattle.doc_model.specs.ByIds.{find_id}
use Rattle.doc_model.specs.Column.{column_id}
use Rattle.doc_model.specs.Document.{Document, Table, table_id}
use Rattle.doc_model.specs.Grid.{Grid, cell}
use Rattle.doc_model.specs.Rows.{has}
use Rattle.doc_model.specs.Schema.{no_grid}
use Rattle.doc_readers.specs.Parts.{grid_at}
use Rattle.doc_model.proofs.ByIdsLaws.{found_id}
use Rattle.doc_model.proofs.Choices.{false_from}
use Rattle.doc_model.proofs.RowsLaws.{has-filter}
use Rattle.formula_parse.specs.Lexemes.{is_id, id_word}
use Rattle.formula_eval.specs.Lookup.{agrees, key_met, meets, met_by, value_meets}
use Rattle.formula_eval.specs.Lookup as lookup
use Rattle.formula_eval.specs.Reader.{known, no_row}
use Rattle.formula_eval.specs.Reading.{as_read, told_out}
use Rattle.formula_eval.specs.Run.{gives}
use Rattle.lookup_index.specs.Buckets.{bucket_of, has_part, part_buckets}
use Rattle.lookup_index.proofs.Buckets.{same_bucket}
use Rattle.lookup_index.proofs.PartBuckets.{same_part}
use Rattle.value_ops.specs.Equality.{is_equal, is_row_of}
use Rattle.recalc.specs.Cells.{cell_of}
use Rattle.recalc.specs.Evaluated.{base_in, formula_in, sheet_of}
use Rattle.recalc.specs.Indexes.{is_error}
use Rattle.recalc.specs.Sheet.{over, told_by}
use Rattle.affected_cells.specs.Met.{IsUnmet}
use Rattle.affected_cells.proofs.Alike.{base_of, form_of, kind_of}
use Rattle.affected_cells.proofs.Tests.{found_once}
use Rattle.dep_graph.specs.declared.numbers.ColumnNumber.{ColumnNumber}
use Rattle.dep_graph.specs.declared.numbers.ReadNumber.{ReadNumber}
use Rattle.dep_graph.specs.declared.numbers.ReadNumber.TheVariants as read
use Rattle.dep_graph.specs.NumberLaws.{read_itself}
use Rattle.dep_graph.specs.Numbers.{is_read}
use Rattle.dep_graph.specs.Records.{holds}
use Rattle.dep_graph.specs.Sources.{column_in, part_source, source_in, source_of_key, value_source}
use Rattle.affected_search.specs.Noted.{IsFreeKey}
use Rattle.affected_search.specs.RowValues.{RowValuesLaw, cells_values, column_values, columns_values, id_reads, value_at, value_reads}

-- ---- values

bucket_same : (w v : CellValue) → agrees w v ≡ true → bucket_of w ≡ bucket_of v
bucket_same w v h =
    elim (is_equal v w) as (λ b. is_equal v w ≡ b → (b || is_row_of w v) ≡ true → bucket_of w ≡ bucket_of v) [
      | true ↦ λ e _. sym (same_bucket v w (or_left (is_equal v w) (is_row_of v w) e))
      | false ↦ λ _ e. same_bucket w v (or_right (is_equal w v) (is_row_of w v) e)
    ] refl h

parts_same : (w v : CellValue) → lookup.holds w v ≡ has_part w v
parts_same value.Null v = refl
parts_same (value.Int n) v = refl
parts_same (value.Bool b) v = refl
parts_same (value.Text t) v = refl
parts_same (value.Date n) v = refl
parts_same (value.Rec r) v = refl
parts_same (value.RecSet s) v = refl
parts_same (value.List items) v = refl
parts_same (value.Err e) v = refl
parts_same value.Censored v = refl

error_read : (t : ColType) (w : CellValue) → is_error w ≡ true → as_read t w ≡ w
error_read t (value.Err e) h = by t
  where
    by : (k : ColType) → as_read k (value.Err e) ≡ value.Err e
    by (ty.Ref u) = refl
    by (ty.RefList u) = refl
    by ty.Text = refl
    by ty.Int = refl
    by ty.Bool = refl
    by ty.Date = refl
    by ty.Any = refl
error_read t value.Null h = absurd (false≢true h)
error_read t (value.Int n) h = absurd (false≢true h)
error_read t (value.Bool b) h = absurd (false≢true h)
error_read t (value.Text x) h = absurd (false≢true h)
error_read t (value.Date n) h = absurd (false≢true h)
error_read t (value.Rec r) h = absurd (false≢true h)
error_read t (value.RecSet s) h = absurd (false≢true h)
error_read t (value.List items) h = absurd (false≢true h)
error_read t value.Censored h = absurd (false≢true h)

-- ---- what is listed

module _ (p : ReadNumber → Bool) where
  -- what one of the first, or one of the second
  pub first_list : (xs ys : List ReadNumber) → list_any p xs ≡ true → list_any p (xs ++ ys) ≡ true
  first_list xs ys h = list_any-append p xs ys ∙ or_left (list_any p xs) (list_any p ys) h

  pub second_list : (xs ys : List ReadNumber) → list_any p ys ≡ true → list_any p (xs ++ ys) ≡ true
  second_list xs ys h = list_any-append p xs ys ∙ or_right (list_any p xs) (list_any p ys) h

-- the number of one of some numbers, made of each
pub made_listed : (f : ℕ → ReadNumber) (bs : List ℕ) (b : ℕ) → has bs b ≡ true → holds (map f bs) (f b) ≡ true
made_listed f [] b h = absurd (false≢true h)
made_listed f (c ∷ bs) b h = by (made_listed f bs b) (nat_eq c b) refl h
  where
    by : (has bs b ≡ true → holds (map f bs) (f b) ≡ true) → (e : Bool) → nat_eq c b ≡ e → (e || has bs b) ≡ true → (is_read (f b) (f c) || holds (map f bs) (f b)) ≡ true
    by later true is h = or_left (is_read (f b) (f c)) (holds (map f bs) (f b)) (subst (λ n. is_read (f b) (f n) ≡ true) (sym (eqb-true c b is)) (read_itself (f b)))
    by later false is h = or_right (is_read (f b) (f c)) (holds (map f bs) (f b)) (later h)

cells_listed : (k : ColumnNumber) (t : ColType) (f : ℕ → CellValue) (rows : List ℕ) (r : ℕ) (n : ReadNumber) → has rows r ≡ true → holds (value_reads k (as_read t (f r))) n ≡ true → holds (cells_values k t f rows) n ≡ true
cells_listed k t f [] r n h there = absurd (false≢true h)
cells_listed k t f (q ∷ rows) r n h there = by (λ g. cells_listed k t f rows r n g there) (nat_eq q r) refl h
  where
    by : (has rows r ≡ true → holds (cells_values k t f rows) n ≡ true) → (e : Bool) → nat_eq q r ≡ e → (e || has rows r) ≡ true → holds (value_reads k (as_read t (f q)) ++ cells_values k t f rows) n ≡ true
    by later true is h = first_list (is_read n) (value_reads k (as_read t (f q))) (cells_values k t f rows) (subst (λ m. holds (value_reads k (as_read t (f m))) n ≡ true) (sym (eqb-true q r is)) there)
    by later false is h = second_list (is_read n) (value_reads k (as_read t (f q))) (cells_values k t f rows) (later h)

columns_listed : (names : List (List ℕ)) (t : List ℕ) (g : Grid ColDef) (rows : List ℕ) (ds : List ColDef) (c : List ℕ) (d : ColDef) (n : ReadNumber) → find_id column_id c ds ≡ Some d
    → holds (column_values g (column_in names t d.id) rows d) n ≡ true → holds (columns_values names t g rows ds) n ≡ true
columns_listed names t g rows [] c d n at h = absurd (cc)
columns_listed names t g rows (e ∷ ds) c d n at h = by (λ later. columns_listed names t g rows ds c d n later h) (bytes_eq e.id c) at
  where
    by : (find_id column_id c ds ≡ Some d → holds (columns_values names t g rows ds) n ≡ true) → (b : Bool) → cond b (Some e) (find_id column_id c ds) ≡ Some d
        → holds (column_values g (column_in names t e.id) rows e ++ columns_values names t g rows ds) n ≡ true
    by later true here = first_list (is_read n) (column_values g (column_in names t e.id) rows e) (columns_values names t g rows ds) (subst (λ x. holds (column_values g (column_in names t x.id) rows x) n ≡ true) (sym (found_once e d here)) h)
    by later false here = second_list (is_read n) (column_values g (column_in names t e.id) rows e) (columns_values names t g rows ds) (later here)

-- ---- a key that is not listed

-- what a number of a column makes of it
made_of : (f : ColumnNumber → ReadNumber) (o : Option ColumnNumber) (n : ReadNumber) → option_map f o ≡ Some n → (k : ColumnNumber) × (o ≡ Some k) × (f k ≡ n)
made_of f None n h = absurd (cc)
made_of f (Some k) n h = (k, refl, found_once (f k) n h)

-- the number of a key's value in a column
abbrev key_number : ColumnNumber → KeyItem → ReadNumber
key_number k key = cond key.contains (read.Part (value_at k (bucket_of key.value))) (read.Value (value_at k (bucket_of key.value)))

-- a key that has a number has a column with one
key_source : (names : List (List ℕ)) (t : List ℕ) (key : KeyItem) (n : ReadNumber) → source_in names (source_of_key t key) ≡ Some n → (k : ColumnNumber) × (column_in names t key.column ≡ Some k) × (key_number k key ≡ n)
key_source names t key n = by key.contains
  where
    by : (b : Bool) → source_in names (cond b (part_source t key.column (bucket_of key.value)) (value_source t key.column (bucket_of key.value))) ≡ Some n
        → (k : ColumnNumber) × (column_in names t key.column ≡ Some k) × (cond b (read.Part (value_at k (bucket_of key.value))) (read.Value (value_at k (bucket_of key.value))) ≡ n)
    by true h = made_of (λ k. read.Part (value_at k (bucket_of key.value))) (column_in names t key.column) n h
    by false h = made_of (λ k. read.Value (value_at k (bucket_of key.value))) (column_in names t key.column) n h

-- a value that meets a key is no error
met_plain : (key : KeyItem) (w : CellValue) → value_meets key w ≡ true → (is_error w ≡ false) × (meets key w ≡ true)
met_plain key value.Null h = (refl, h)
met_plain key (value.Int n) h = (refl, h)
met_plain key (value.Bool b) h = (refl, h)
met_plain key (value.Text x) h = (refl, h)
met_plain key (value.Date n) h = (refl, h)
met_plain key (value.Rec x) h = (refl, h)
met_plain key (value.RecSet x) h = (refl, h)
met_plain key (value.List x) h = (refl, h)
met_plain key (value.Err e) h = absurd (false≢true h)
met_plain key value.Censored h = (refl, h)

told_plain : (c : CellId) (v : CellValue) → is_error v ≡ false → told_out c (known v) ≡ gives (known v)
told_plain c value.Null h = refl
told_plain c (value.Int n) h = refl
told_plain c (value.Bool b) h = refl
told_plain c (value.Text x) h = refl
told_plain c (value.Date n) h = refl
told_plain c (value.Rec x) h = refl
told_plain c (value.RecSet x) h = refl
told_plain c (value.List x) h = refl
told_plain c (value.Err e) h = absurd (false≢true (sym h))
told_plain c value.Censored h = refl

-- a value that meets the key is listed by it
met_listed : (k : ColumnNumber) (key : KeyItem) (w : CellValue) → is_error w ≡ false → meets key w ≡ true
    → holds (value_reads k w) (key_number k key) ≡ true
met_listed k key w plain h =
    subst (λ e. holds (cond e (read.Key k ∷ []) (read.Value (value_at k (bucket_of w)) ∷ map (λ b. read.Part (value_at k b)) (part_buckets w))) (key_number k key) ≡ true) (sym plain) (by key.contains refl)
  where
    by : (b : Bool) → key.contains ≡ b → holds ((read.Value (value_at k (bucket_of w))) ∷ map (λ b. read.Part (value_at k b)) (part_buckets w)) (cond key.contains (read.Part (value_at k (bucket_of key.value))) (read.Value (value_at k (bucket_of key.value)))) ≡ true
    by true is = subst (λ b. holds ((read.Value (value_at k (bucket_of w))) ∷ map (λ b. read.Part (value_at k b)) (part_buckets w)) (cond b (read.Part (value_at k (bucket_of key.value))) (read.Value (value_at k (bucket_of key.value)))) ≡ true) (sym is)
        (made_listed (λ b. read.Part (value_at k b)) (part_buckets w) (bucket_of key.value)
        (same_part w key.value (sym (parts_same w key.value) ∙ sym (ap (λ b. cond b (lookup.holds w key.value) (agrees w key.value)) is) ∙ h)))
    by false is = subst (λ b. holds ((read.Value (value_at k (bucket_of w))) ∷ map (λ b. read.Part (value_at k b)) (part_buckets w)) (cond b (read.Part (value_at k (bucket_of key.value))) (read.Value (value_at k (bucket_of key.value)))) ≡ true) (sym is)
        (or_left (is_read (read.Value (value_at k (bucket_of key.value))) (read.Value (value_at k (bucket_of w)))) (holds (map (λ b. read.Part (value_at k b)) (part_buckets w)) (read.Value (value_at k (bucket_of key.value))))
        (subst (λ n. is_read (read.Value (value_at k n)) (read.Value (value_at k (bucket_of w))) ≡ true) (bucket_same w key.value (sym (ap (λ b. cond b (lookup.holds w key.value) (agrees w key.value)) is) ∙ h)) (read_itself (read.Value (value_at k (bucket_of w))))))

module _ (names : List (List ℕ)) (numbers : List ReadNumber) (t : List ℕ) (r : ℕ) (key : KeyItem) (free : IsFreeKey names numbers t key) where
  abbrev here : CellId
  here = cell_of t key.column r

  -- the column of the key, and what is not listed
  column : (k : ColumnNumber) × (column_in names t key.column ≡ Some k) × (key_number k key ≡ free.0.0)
  column = key_source names t key free.0.0 free.0.1

  no_value : holds numbers (key_number column.0 key) ≡ true → ⊥
  no_value h = false≢true (sym free.0.2 ∙ subst (λ n. holds numbers n ≡ true) column.2 h)

  no_column_read : holds numbers (read.Key column.0) ≡ true → ⊥
  no_column_read h =
      let m = made_of read.Key (column_in names t key.column) free.1.0 free.1.1 in
      let same : column.0 ≡ m.0 = found_once column.0 m.0 (sym column.1 ∙ m.1) in
      false≢true (sym free.1.2 ∙ subst (λ n. holds numbers n ≡ true) (ap read.Key same ∙ m.2) h)

  -- a column of a table whose values are listed in rows, this one among them where it is there
  module _ (g : Grid ColDef) (rows : List ℕ) (among : has g.rows r ≡ true → has rows r ≡ true)
      (listed : (d : ColDef) → find_id column_id key.column g.columns ≡ Some d → (n : ReadNumber) → holds (column_values g (column_in names t d.id) rows d) n ≡ true → holds numbers n ≡ true) (v : Option CellValue) where
    in_column : (d : ColDef) → find_id column_id key.column g.columns ≡ Some d → (n : ReadNumber) → holds (column_values g (Some column.0) rows d) n ≡ true → holds numbers n ≡ true
    in_column d at n h =
        listed d at n
        (subst (λ o. holds (column_values g o rows d) n ≡ true) (sym (ap (column_in names t) (found_id column_id key.column g.columns d at) ∙ column.1)) h)

    whole_column : (d : ColDef) → find_id column_id key.column g.columns ≡ Some d → d.info.is_formula ≡ true → ⊥
    whole_column d at is =
        no_column_read (in_column d at (read.Key column.0) (subst (λ b. holds (cond b (read.Key column.0 ∷ []) (cells_values column.0 d.info.ty (cell column_id g d.id) rows)) (read.Key column.0) ≡ true) (sym is)
        (or_left (is_read (read.Key column.0) (read.Key column.0)) false (read_itself (read.Key column.0)))))

    in_cell : (d : ColDef) → find_id column_id key.column g.columns ≡ Some d → d.info.is_formula ≡ false → has g.rows r ≡ true → (n : ReadNumber) → holds (value_reads column.0 (as_read d.info.ty (cell column_id g key.column r))) n ≡ true → holds numbers n ≡ true
    in_cell d at plain there n h =
        in_column d at n (subst (λ b. holds (cond b (read.Key column.0 ∷ []) (cells_values column.0 d.info.ty (cell column_id g d.id) rows)) n ≡ true) (sym plain)
        (cells_listed column.0 d.info.ty (cell column_id g d.id) rows r n (among there)
        (subst (λ c. holds (value_reads column.0 (as_read d.info.ty (cell column_id g c r))) n ≡ true) (sym (found_id column_id key.column g.columns d at)) h)))

    -- a cell that holds this
    at_value : (d : ColDef) → find_id column_id key.column g.columns ≡ Some d → d.info.is_formula ≡ false → has g.rows r ≡ true → (b : Bool) → is_error (cell column_id g key.column r) ≡ b
        → met_by key (Some d.info.ty) (told_out here (known (cell column_id g key.column r))) ≡ gives false
    at_value d at plain there true is =
        absurd (no_column_read (in_cell d at plain there (read.Key column.0)
        (subst (λ w. holds (value_reads column.0 w) (read.Key column.0) ≡ true) (sym (error_read d.info.ty (cell column_id g key.column r) is))
        (subst (λ b. holds (cond b (read.Key column.0 ∷ []) (read.Value (value_at column.0 (bucket_of (cell column_id g key.column r))) ∷ map (λ e. read.Part (value_at column.0 e)) (part_buckets (cell column_id g key.column r)))) (read.Key column.0) ≡ true) (sym is)
        (or_left (is_read (read.Key column.0) (read.Key column.0)) false (read_itself (read.Key column.0)))))))
    at_value d at plain there false is =
        ap (met_by key (Some d.info.ty)) (told_plain here (cell column_id g key.column r) is)
        ∙ ap (λ (b : Bool). gives b) (false_from (value_meets key (as_read d.info.ty (cell column_id g key.column r))) (λ h.
        let m = met_plain key (as_read d.info.ty (cell column_id g key.column r)) h in
        no_value (in_cell d at plain there (key_number column.0 key) (met_listed column.0 key (as_read d.info.ty (cell column_id g key.column r)) m.0 m.1))))

    at_row : (d : ColDef) → find_id column_id key.column g.columns ≡ Some d → d.info.is_formula ≡ false → (b : Bool) → has g.rows r ≡ b
        → met_by key (Some d.info.ty) (told_out here (cond b (known (cell column_id g key.column r)) no_row)) ≡ gives false
    at_row d at plain true is = at_value d at plain is (is_error (cell column_id g key.column r)) refl
    at_row d at plain false is = refl

    at_kind : (d : ColDef) → find_id column_id key.column g.columns ≡ Some d → (b : Bool) → d.info.is_formula ≡ b
        → met_by key (Some d.info.ty) (told_out here (told_by (cond (b && has g.rows r) (Some d.info.formula) None) (cond (has g.rows r) (known (cell column_id g key.column r)) no_row) v)) ≡ gives false
    at_kind d at true is = absurd (whole_column d at is)
    at_kind d at false is = at_row d at is (has g.rows r) refl

    at_column : (p : Option ColDef) → find_id column_id key.column g.columns ≡ p
        → met_by key (option_map (λ (d : ColDef). d.info.ty) p) (told_out here (told_by (elim p as (λ _. Option (List ℕ)) [ None ↦ None | Some d ↦ formula_in g r d ]) (base_in g here p) v)) ≡ gives false
    at_column None at = refl
    at_column (Some d) at = at_kind d at d.info.is_formula refl

  abbrev grid_of : Option Table → Grid ColDef
  grid_of o = elim o as (λ _. Grid ColDef) [ None ↦ no_grid | Some u ↦ u.grid ]

  at_table : (o : Option Table) (rows : List ℕ) → (has (grid_of o).rows r ≡ true → has rows r ≡ true)
      → ((d : ColDef) → find_id column_id key.column (grid_of o).columns ≡ Some d → (n : ReadNumber) → holds (column_values (grid_of o) (column_in names t d.id) rows d) n ≡ true → holds numbers n ≡ true)
      → (v : Option CellValue) → met_by key (kind_of o key.column) (told_out here (told_by (form_of o here) (base_of o here) v)) ≡ gives false
  at_table None rows among listed v = refl
  at_table (Some u) rows among listed v = at_column u.grid rows among listed v (find_id column_id key.column u.grid.columns) refl

  -- a row of which the values are listed of the key's column
  pub at_cell : (s : Document) (rows : List ℕ) → (has (grid_at s t).rows r ≡ true → has rows r ≡ true)
      → ((d : ColDef) → find_id column_id key.column (grid_at s t).columns ≡ Some d → (n : ReadNumber) → holds (column_values (grid_at s t) (column_in names t d.id) rows d) n ≡ true → holds numbers n ≡ true)
      → is_id key.column ≡ false → IsUnmet (sheet_of s) t r key
  at_cell s rows among listed named v =
      ap (λ b. cond b (gives (meets key (value.Int (pos r)))) (met_by key ((sheet_of s).kind t key.column) (told_out (cell_of t key.column r) ((over (sheet_of s) v).cell (cell_of t key.column r))))) named
      ∙ at_table (find_id table_id t s) rows among listed (v (cell_of t key.column r))

  -- the row itself
  pub at_id : (rows : List ℕ) → has rows r ≡ true → is_id key.column ≡ true → ((n : ReadNumber) → holds (id_reads (column_in names t id_word) rows) n ≡ true → holds numbers n ≡ true) → meets key (value.Int (pos r)) ≡ false
  at_id rows among is listed = false_from (meets key (value.Int (pos r))) (λ h. by key.contains refl h)
    where
      numbered : column_in names t id_word ≡ Some column.0
      numbered = ap (column_in names t) (sym ((bytes_eq-Decides key.column id_word).0 is)) ∙ column.1

      by : (b : Bool) → key.contains ≡ b → meets key (value.Int (pos r)) ≡ true → ⊥
      by true whole h = false≢true (sym (ap (λ b. cond b (lookup.holds (value.Int (pos r)) key.value) (agrees (value.Int (pos r)) key.value)) whole) ∙ h)
      by false whole h =
          let same : r ≡ bucket_of key.value = bucket_same (value.Int (pos r)) key.value (sym (ap (λ b. cond b (lookup.holds (value.Int (pos r)) key.value) (agrees (value.Int (pos r)) key.value)) whole) ∙ h) in
          no_value (subst (λ b. holds numbers (cond b (read.Part (value_at column.0 (bucket_of key.value))) (read.Value (value_at column.0 (bucket_of key.value)))) ≡ true) (sym whole)
          (subst (λ n. holds numbers (read.Value (value_at column.0 n)) ≡ true) same
          (listed (read.Value (value_at column.0 r)) (subst (λ o. holds (id_reads o rows) (read.Value (value_at column.0 r)) ≡ true) (sym numbered) (made_listed (λ n. read.Value (value_at column.0 n)) rows r among)))))

pub row_values_law : RowValuesLaw
row_values_law names numbers s t rows listed r among key free v = by (is_id key.column) refl
  where
    ids : (n : ReadNumber) → holds (id_reads (column_in names t id_word) rows) n ≡ true → holds numbers n ≡ true
    ids n h = listed n (first_list (is_read n) (id_reads (column_in names t id_word) rows) (columns_values names t (grid_at s t) (filter (has rows) (grid_at s t).rows) (grid_at s t).columns) h)

    columns : (d : ColDef) → find_id column_id key.column (grid_at s t).columns ≡ Some d → (n : ReadNumber)
        → holds (column_values (grid_at s t) (column_in names t d.id) (filter (has rows) (grid_at s t).rows) d) n ≡ true → holds numbers n ≡ true
    columns d at n h =
        listed n (second_list (is_read n) (id_reads (column_in names t id_word) rows) (columns_values names t (grid_at s t) (filter (has rows) (grid_at s t).rows) (grid_at s t).columns)
        (columns_listed names t (grid_at s t) (filter (has rows) (grid_at s t).rows) (grid_at s t).columns key.column d n at h))

    by : (b : Bool) → is_id key.column ≡ b → key_met (over (sheet_of s) v) t r key ≡ gives false
    by true is =
        ap (λ b. cond b (gives (meets key (value.Int (pos r)))) (met_by key ((sheet_of s).kind t key.column) (told_out (cell_of t key.column r) ((over (sheet_of s) v).cell (cell_of t key.column r))))) is
        ∙ ap (λ (b : Bool). gives b) (at_id names numbers t r key free rows among is ids)
    by false named =
        at_cell names numbers t r key free s (filter (has rows) (grid_at s t).rows)
        (λ there. has-filter (has rows) (grid_at s t).rows r ∙ ap (λ b. b && has (grid_at s t).rows r) among ∙ there) columns named v
