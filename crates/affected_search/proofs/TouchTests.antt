-- Touches by numbers tell of a read that has a number what touches by name tell.
use Rattle.std.proofs.Common.{ℕ, Bool, true, false, cond, ◌&&◌, ◌||◌, nat_eq, List, [], ◌∷◌, ◌++◌, ◌+◌, ◌<◌, map, take, get_or, length, ◌≡◌, refl, sym, ap, ◌∙◌, subst, Some, None, slice_get}
use Rattle.std.proofs.Math.Bool.{and_assoc, and-true}
use Rattle.std.proofs.lemmas.Bool.{eqb-true, eq-eqb}
use Rattle.std.proofs.lemmas.List.Folds.{list_any-append, list_any_more}
use Rattle.std.proofs.lemmas.Slice.Eq.{bytes_eq-Decides}
use Rattle.std.specs.List.{list_any}
use Rattle.std.specs.Str.{bytes_eq}
use Rattle.cell_types.specs.declared.cell.CellId.{CellId}
use Rattle.cell_types.specs.declared.cell.Read.{Read}
use Rattle.cell_types.specs.declared.cell.Read.TheVariants.{Cell, Key, Rows}
use Rattle.doc_model.specs.declared.action.DocAction.{DocAction}
use Rattle.doc_model.specs.declared.action.DocAction.TheVariants.{BulkAdd, BulkUpdate, BulkRemove, AddTable, RemoveTable, RenameTable, AddColumn, RemoveColumn, RenameColumn, ModifyColumn}
use Rattle.doc_model.specs.Document.{Document}
use Rattle.doc_model.specs.Rows.{has}
use Rattle.doc_model.proofs.Choices.{or_assoc, or_false}
use Rattle.recalc.proofs.SortedRows.{same_tests}
use Rattle.affected_cells.specs.Touched.{Touch, cells_written, column_altered, rows_come_or_go, table_altered, touched_by, touches}
use Rattle.affected_cells.proofs.Tests.{found_once}
use Rattle.dep_graph.proofs.NameLaws.{append_none, mapped_more, number_there}
use Rattle.dep_graph.specs.declared.numbers.CellNumber.{CellNumber}
use Rattle.dep_graph.specs.declared.numbers.ColumnNumber.{ColumnNumber}
use Rattle.dep_graph.specs.declared.numbers.ReadNumber.{ReadNumber}
use Rattle.dep_graph.specs.declared.numbers.ReadNumber.TheVariants as read
use Rattle.dep_graph.specs.Names.{number_in}
use Rattle.dep_graph.specs.Sources.{cell_in, column_in, read_source, source_in}
use Rattle.affected_search.specs.Touches.{AddsTouches, NumberTouch, TellTouched, column_touches, record_touches, table_touches, tells, touches_number}
use Rattle.affected_search.proofs.CellNumbers.{cell_parts, column_parts, mapped}

all_three : (a b c x y z : Bool) → a ≡ x → b ≡ y → c ≡ z → ((a && b) && c) ≡ (x && (y && z))
all_three a b c x y z p q r = ap (λ v. (v && b) && c) p ∙ ap (λ v. (x && v) && c) q ∙ ap (λ v. (x && y) && v) r ∙ and_assoc x y z

both : (a b x y : Bool) → a ≡ x → b ≡ y → (a && b) ≡ (x && y)
both a b x y p q = ap (λ v. v && b) p ∙ ap (λ v. x && v) q

never : (a : Bool) → (a && false) ≡ false
never true = refl
never false = refl

-- a set with one row more
pub set_step : (old new rows : List ℕ) (i : ℕ) → i < length rows → ((r : ℕ) → list_any (nat_eq r) old ≡ has (take i rows) r)
    → ((r : ℕ) → list_any (nat_eq r) new ≡ cond (nat_eq (get_or rows i 0) r) true (list_any (nat_eq r) old)) → (r : ℕ) → list_any (nat_eq r) new ≡ has (take (i + 1) rows) r
set_step old new rows i l before put r =
    put r ∙ ap (cond (nat_eq (get_or rows i 0) r) true) (before r) ∙ either (nat_eq (get_or rows i 0) r) (has (take i rows) r) ∙ sym (list_any_more (λ q. nat_eq q r) rows i 0 l)
  where
    either : (a b : Bool) → cond a true b ≡ (b || a)
    either true true = refl
    either true false = refl
    either false b = sym (or_false b)

-- ---- names and their numbers

module _ (names : List (List ℕ)) where
  name_test : (u t : List ℕ) (i j : ℕ) → number_in names u ≡ Some i → number_in names t ≡ Some j → nat_eq i j ≡ bytes_eq u t
  name_test u t i j p q = same_tests (nat_eq i j) (bytes_eq u t)
      (λ h. (bytes_eq-Decides u t).1 (found_once u t (sym (number_there names u i p) ∙ ap (slice_get names) (eqb-true i j h) ∙ number_there names t j q)))
      (λ h. eq-eqb i j (found_once i j (sym p ∙ ap (number_in names) ((bytes_eq-Decides u t).0 h) ∙ q)))

  -- ---- one touch

  abbrev pub IsSameTouch : NumberTouch → Touch → Type 0
  IsSameTouch x m = (q : Read) (n : ReadNumber) → source_in names (read_source q) ≡ Some n → touches_number x n ≡ touched_by m q

  -- by the numbers of what is read
  module _ (m : Touch) (x : NumberTouch)
      (cell : (d : CellId) (k : CellNumber) → number_in names d.table ≡ Some k.column.table → number_in names d.column ≡ Some k.column.column → k.row ≡ d.row → touches_number x (read.Cell k) ≡ touched_by m (Cell d))
      (key : (u c : List ℕ) (k : ColumnNumber) → number_in names u ≡ Some k.table → number_in names c ≡ Some k.column → touches_number x (read.Key k) ≡ touched_by m (Key u c))
      (rows : (u : List ℕ) (t : ℕ) → number_in names u ≡ Some t → touches_number x (read.Rows t) ≡ touched_by m (Rows u)) where
    same_touch : IsSameTouch x m
    same_touch (Cell d) n is =
        let w = mapped read.Cell (cell_in names d) n is in
        let p = cell_parts names d w.0 w.1 in
        ap (touches_number x) (sym w.2) ∙ cell d w.0 p.0 p.1 p.2
    same_touch (Key u c) n is =
        let w = mapped read.Key (column_in names u c) n is in
        let p = column_parts names u c w.0 w.1 in
        ap (touches_number x) (sym w.2) ∙ key u c w.0 p.0 p.1
    same_touch (Rows u) n is =
        let w = mapped read.Rows (number_in names u) n is in
        ap (touches_number x) (sym w.2) ∙ rows u w.0 w.1

  module _ (t : List ℕ) (j : ℕ) (at : number_in names t ≡ Some j) where
    whole : (u : List ℕ) (i : ℕ) → number_in names u ≡ Some i → (nat_eq i j && true) ≡ bytes_eq u t
    whole u i is = and-true (nat_eq i j) ∙ name_test u t i j is at

    pub table_same : IsSameTouch (record { table = j; column = None; rows = None }) (table_altered t)
    table_same = same_touch (table_altered t) (record { table = j; column = None; rows = None })
        (λ d k p q r. and-true (nat_eq k.column.table j && true) ∙ whole d.table k.column.table p)
        (λ u c k p q. whole u k.table p) (λ u i p. whole u i p)

    pub rows_same : (rows keys : List ℕ) → ((r : ℕ) → list_any (nat_eq r) keys ≡ has rows r) → IsSameTouch (record { table = j; column = None; rows = Some keys }) (rows_come_or_go t rows)
    rows_same rows keys among = same_touch (rows_come_or_go t rows) (record { table = j; column = None; rows = Some keys })
        (λ d k p q r. both (nat_eq k.column.table j && true) (list_any (nat_eq k.row) keys) (bytes_eq d.table t) (has rows d.row) (whole d.table k.column.table p) (among k.row ∙ ap (has rows) r))
        (λ u c k p q. whole u k.table p) (λ u i p. whole u i p)

  module _ (t b : List ℕ) (j : ColumnNumber) (at : column_in names t b ≡ Some j) where
    in_column : (u c : List ℕ) (k : ColumnNumber) → number_in names u ≡ Some k.table → number_in names c ≡ Some k.column → (nat_eq k.table j.table && nat_eq k.column j.column) ≡ (bytes_eq u t && bytes_eq c b)
    in_column u c k p q =
        let w = column_parts names t b j at in
        both (nat_eq k.table j.table) (nat_eq k.column j.column) (bytes_eq u t) (bytes_eq c b) (name_test u t k.table j.table p w.0) (name_test c b k.column j.column q w.1)

    pub column_same : IsSameTouch (record { table = j.table; column = Some j.column; rows = None }) (column_altered t b)
    column_same = same_touch (column_altered t b) (record { table = j.table; column = Some j.column; rows = None })
        (λ d k p q r. and-true (nat_eq k.column.table j.table && nat_eq k.column.column j.column) ∙ in_column d.table d.column k.column p q)
        in_column (λ u i p. never (nat_eq i j.table))

    pub cells_same : (rows keys : List ℕ) → ((r : ℕ) → list_any (nat_eq r) keys ≡ has rows r) → IsSameTouch (record { table = j.table; column = Some j.column; rows = Some keys }) (cells_written t b rows)
    cells_same rows keys among =
        let w = column_parts names t b j at in
        same_touch (cells_written t b rows) (record { table = j.table; column = Some j.column; rows = Some keys })
        (λ d k p q r. all_three (nat_eq k.column.table j.table) (nat_eq k.column.column j.column) (list_any (nat_eq k.row) keys) (bytes_eq d.table t) (bytes_eq d.column b) (has rows d.row)
        (name_test d.table t k.column.table j.table p w.0) (name_test d.column b k.column.column j.column q w.1) (among k.row ∙ ap (has rows) r))
        in_column (λ u i p. never (nat_eq i j.table))

  -- ---- more touches

  pub adds_one : (m : Touch) (x : NumberTouch) (old new : List NumberTouch) → IsSameTouch x m → new ≡ old ++ x ∷ [] → AddsTouches names (m ∷ []) old new
  adds_one m x old new same put q n is =
      ap (λ l. tells l n) put ∙ list_any-append (λ y. touches_number y n) old (x ∷ []) ∙ ap (λ v. tells old n || (v || false)) (same q n is)

  pub adds_more : (ms ns : List Touch) (old now new : List NumberTouch) → AddsTouches names ms old now → AddsTouches names ns now new → AddsTouches names (ms ++ ns) old new
  adds_more ms ns old now new f g q n is =
      g q n is ∙ ap (λ v. v || list_any (λ m. touched_by m q) ns) (f q n is)
      ∙ sym (or_assoc (tells old n) (list_any (λ m. touched_by m q) ms) (list_any (λ m. touched_by m q) ns))
      ∙ ap (λ v. tells old n || v) (sym (list_any-append (λ m. touched_by m q) ms ns))

  pub adds_first : (m : Touch) (ms : List Touch) (old now new : List NumberTouch) → AddsTouches names (m ∷ []) old now → AddsTouches names ms now new → AddsTouches names (m ∷ ms) old new
  adds_first m ms old now new f g = adds_more (m ∷ []) ms old now new f g

  -- under other names for the same
  pub adds_rows : (t u rows : List ℕ) (old new : List NumberTouch) → t ≡ u → AddsTouches names (rows_come_or_go t rows ∷ []) old new → AddsTouches names (rows_come_or_go u rows ∷ []) old new
  adds_rows t u rows old new same h = subst (λ n. AddsTouches names (rows_come_or_go n rows ∷ []) old new) same h

  pub adds_cells : (t u k c rows : List ℕ) (old new : List NumberTouch) → t ≡ u → k ≡ c → AddsTouches names (cells_written t k rows ∷ []) old new → AddsTouches names (cells_written u c rows ∷ []) old new
  adds_cells t u k c rows old new same is h = subst (λ n. AddsTouches names (cells_written u n rows ∷ []) old new) is (subst (λ n. AddsTouches names (cells_written n k rows ∷ []) old new) same h)

  -- the touches of the first things, and of the next one
  pub adds_next : {A : Type 0} (f : A → Touch) (xs : List A) (i : ℕ) (x : A) (old now new : List NumberTouch) → i < length xs → x ≡ get_or xs i x
      → AddsTouches names (map f (take i xs)) old now → AddsTouches names (f x ∷ []) now new → AddsTouches names (map f (take (i + 1) xs)) old new
  adds_next f xs i x old now new l e before put =
      subst (λ ms. AddsTouches names ms old new) (mapped_more f xs i x [] l e) (adds_more (map f (take i xs)) (f x ∷ []) old now new before put)

-- ---- the touches of an action

parts : (s : Document) (a : DocAction) → record_touches a ++ (table_touches s a ++ column_touches s a) ≡ touches s a
parts s (BulkAdd t rows ks) = append_none _
parts s (BulkUpdate t rows ks) = append_none _
parts s (BulkRemove t rows) = append_none _
parts s (AddTable t row ds) = refl
parts s (RemoveTable t) = refl
parts s (RenameTable t new) = refl
parts s (AddColumn t d) = refl
parts s (RemoveColumn t c) = refl
parts s (RenameColumn t c new) = refl
parts s (ModifyColumn t c info) = refl

pub all_told : (names : List (List ℕ)) (s : Document) (a : DocAction) (none one two three : List NumberTouch) → none ≡ []
    → AddsTouches names (record_touches a) none one → AddsTouches names (table_touches s a) one two → AddsTouches names (column_touches s a) two three → TellTouched names s a three
all_told names s a none one two three start f g h q n is =
    adds_more names (record_touches a) (table_touches s a ++ column_touches s a) [] one three (subst (λ l. AddsTouches names (record_touches a) l one) start f)
    (adds_more names (table_touches s a) (column_touches s a) one two three g h) q n is
    ∙ ap (list_any (λ m. touched_by m q)) (parts s a)
