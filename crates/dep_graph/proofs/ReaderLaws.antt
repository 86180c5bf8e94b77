-- A cell put under a read, and taken from there.
use Rattle.std.proofs.Common.{ℕ, Bool, true, false, cond, not, ◌&&◌, ◌||◌, ◌++◌, nat_eq, List, [], ◌∷◌, filter, length, ◌≡◌, ◌<◌, ◌≤◌, vec_capacity, Option, Some, None, refl, sym, ap, ◌∙◌, subst, Vec, Global, arith, Result, Ok, Err, is_err, OnOk, OnErr}
use Rattle.std.proofs.lemmas.Bool.{true≢false, false≢true, and_parts}
use Rattle.std.specs.List.{list_any}
use Rattle.std.specs.Map.{lookup}
use Rattle.doc_model.specs.Rows.{has, insert_row, without}
use Rattle.doc_model.proofs.Choices.{or_false}
use Rattle.doc_model.proofs.RowsLaws.{has-insert_row, has-filter, number_itself}
use Rattle.lookup_index.specs.Under.{listed, capacity_of, under_key, HasRoom, HasSameRows, IsPutUnder, IsRoomy, IsTakenFrom, KeepsRoom}
use Rattle.dep_graph.specs.declared.numbers.CellNumber.{CellNumber}
use Rattle.dep_graph.specs.declared.numbers.ColumnNumber.{ColumnNumber}
use Rattle.dep_graph.specs.declared.numbers.ReadNumber.{ReadNumber}
use Rattle.dep_graph.specs.Numbers.{is_cell, is_column, is_read, is_reading}
use Rattle.dep_graph.specs.Readers.{ReaderLists, columns_under, items_of, links, lists_column, reading_of, wide, with_column, HasColumns, HasSameLinks, IsBackable, IsLinked, IsUnlinked, KeepsBackable, KeepsColumns}
use Rattle.dep_graph.specs.NumberLaws.{same_cell, same_read, column_itself, cell_itself}

-- ---- links

linked_test : (a k : Bool) (rows : List ℕ) (row x : ℕ) → has (cond (a && k) (insert_row row rows) rows) x ≡ (has rows x || (a && (k && nat_eq row x)))
linked_test true true rows row x = has-insert_row row rows x ∙ turned (nat_eq row x) (has rows x)
  where
    turned : (e b : Bool) → (e || b) ≡ (b || e)
    turned true true = refl
    turned true false = refl
    turned false true = refl
    turned false false = refl
linked_test true false rows row x = sym (or_false (has rows x))
linked_test false k rows row x = sym (or_false (has rows x))

unlinked_test : (a k : Bool) (rows : List ℕ) (row x : ℕ) → has (cond (a && k) (without (row ∷ []) rows) rows) x ≡ (has rows x && not (a && (k && nat_eq row x)))
unlinked_test true true rows row x = has-filter (λ r. not (has (row ∷ []) r)) rows x ∙ turned (nat_eq row x) (has rows x)
  where
    turned : (e b : Bool) → (not (e || false) && b) ≡ (b && not e)
    turned true true = refl
    turned true false = refl
    turned false true = refl
    turned false false = refl
unlinked_test true false rows row x = none (has rows x)
  where
    none : (b : Bool) → b ≡ (b && true)
    none true = refl
    none false = refl
unlinked_test false k rows row x = none (has rows x)
  where
    none : (b : Bool) → b ≡ (b && true)
    none true = refl
    none false = refl

module _ (old new : ReaderLists) (read : ReadNumber) (cell : CellNumber) where
  pub links-put : IsPutUnder is_reading old.rows new.rows (reading_of read cell) cell.row → IsLinked old new read cell
  links-put h q c =
      ap (λ rows. has rows c.row) (h (reading_of q c))
      ∙ linked_test (is_read read q) (is_column cell.column c.column) (under_key is_reading old.rows (reading_of q c)) cell.row c.row

  pub links-taken : IsTakenFrom is_reading old.rows new.rows (reading_of read cell) cell.row → IsUnlinked old new read cell
  links-taken h q c =
      ap (λ rows. has rows c.row) (h (reading_of q c))
      ∙ unlinked_test (is_read read q) (is_column cell.column c.column) (under_key is_reading old.rows (reading_of q c)) cell.row c.row

  -- a cell that is there, put there
  pub links-there : HasSameLinks old new → links old read cell ≡ true → IsLinked old new read cell
  links-there same there q c = same q c ∙ by (is_read read q) (is_cell cell c) refl refl
    where
      by : (a e : Bool) → is_read read q ≡ a → is_cell cell c ≡ e → links old q c ≡ (links old q c || (a && e))
      by true true isr isc =
          let here : links old q c ≡ true = subst (λ p. links old p c ≡ true) (same_read read q isr) (subst (λ d. links old read d ≡ true) (same_cell cell c isc) there) in
          here ∙ ap (λ b. b || true) (sym here)
      by true false isr isc = sym (or_false (links old q c))
      by false e isr isc = sym (or_false (links old q c))

pub links-same : (old new : ReaderLists) → HasSameRows is_reading old.rows new.rows → HasSameLinks old new
links-same old new h q c = ap (λ rows. has rows c.row) (h (reading_of q c))

-- ---- columns

pub columns_linked : (old new : ReaderLists) (read : ReadNumber) (cell : CellNumber) → IsLinked old new read cell → KeepsColumns old new → lists_column new read cell ≡ true → HasColumns old → HasColumns new
columns_linked old new read cell linked keeps there before q c h = by (links old q c) (is_read read q) (is_cell cell c) refl refl refl (sym (linked q c) ∙ h)
  where
    by : (l a e : Bool) → links old q c ≡ l → is_read read q ≡ a → is_cell cell c ≡ e → (l || (a && e)) ≡ true → lists_column new q c ≡ true
    by true a e isl isr isc h = keeps q c (before q c isl)
    by false true true isl isr isc h = subst (λ p. lists_column new p c ≡ true) (same_read read q isr) (subst (λ d. lists_column new read d ≡ true) (same_cell cell c isc) there)
    by false true false isl isr isc h = absurd (false≢true h)
    by false false e isl isr isc h = absurd (false≢true h)

pub columns_same : (old new : ReaderLists) → HasSameLinks old new → KeepsColumns old new → HasColumns old → HasColumns new
columns_same old new same keeps before q c h = keeps q c (before q c (sym (same q c) ∙ h))

pub columns_unlinked : (old new : ReaderLists) (read : ReadNumber) (cell : CellNumber) → IsUnlinked old new read cell → KeepsColumns old new → HasColumns old → HasColumns new
columns_unlinked old new read cell unlinked keeps before q c h =
    keeps q c (before q c (and_parts (links old q c) (not (is_read read q && is_cell cell c)) (sym (unlinked q c) ∙ h)).0)

-- a list under a read, changed
pub columns_put : (f : List ColumnNumber → List ColumnNumber) (old new : List (ReadNumber × Vec ColumnNumber Global)) (read key : ReadNumber) (w : Vec ColumnNumber Global) → key ≡ wide read
    → ((q : ReadNumber) → lookup (is_read q) new ≡ cond (is_read key q) (Some w) (lookup (is_read q) old)) → w.items ≡ f (items_of (lookup (is_read key) old))
    → (q : ReadNumber) → columns_under new q ≡ cond (is_read (wide read) (wide q)) (f (columns_under old q)) (columns_under old q)
columns_put f old new read key w to h is q =
    ap items_of (h (wide q)) ∙ ap (λ k. items_of (cond (is_read k (wide q)) (Some w) (lookup (is_read (wide q)) old))) to ∙ by (is_read (wide read) (wide q)) refl
  where
    by : (a : Bool) → is_read (wide read) (wide q) ≡ a → items_of (cond a (Some w) (lookup (is_read (wide q)) old)) ≡ cond a (f (columns_under old q)) (columns_under old q)
    by true isr = is ∙ ap (λ p. f (items_of (lookup (is_read p) old))) (to ∙ same_read (wide read) (wide q) isr)
    by false isr = refl

any_more : (k : ColumnNumber) (columns : List ColumnNumber) (j : ColumnNumber) → list_any (is_column j) columns ≡ true → list_any (is_column j) (columns ++ k ∷ []) ≡ true
any_more k [] j h = absurd (false≢true h)
any_more k (i ∷ columns) j h = by (any_more k columns j) (is_column j i) h
  where
    by : (list_any (is_column j) columns ≡ true → list_any (is_column j) (columns ++ k ∷ []) ≡ true) → (a : Bool) → (a || list_any (is_column j) columns) ≡ true → (a || list_any (is_column j) (columns ++ k ∷ [])) ≡ true
    by later true h = refl
    by later false h = later h

any_last : (k : ColumnNumber) (columns : List ColumnNumber) → list_any (is_column k) (columns ++ k ∷ []) ≡ true
any_last k [] = ap (λ b. b || false) (column_itself k)
any_last k (i ∷ columns) = ap (λ b. is_column k i || b) (any_last k columns) ∙ or_true (is_column k i)
  where
    or_true : (a : Bool) → (a || true) ≡ true
    or_true true = refl
    or_true false = refl

with_column_keeps : (k j : ColumnNumber) (columns : List ColumnNumber) → list_any (is_column j) columns ≡ true → list_any (is_column j) (with_column k columns) ≡ true
with_column_keeps k j columns h = elim (list_any (is_column k) columns) as (λ b. list_any (is_column j) (cond b columns (columns ++ k ∷ [])) ≡ true) [ true ↦ h | false ↦ any_more k columns j h ]

with_column_has : (k : ColumnNumber) (columns : List ColumnNumber) → list_any (is_column k) (with_column k columns) ≡ true
with_column_has k columns = by (list_any (is_column k) columns) refl
  where
    by : (b : Bool) → list_any (is_column k) columns ≡ b → list_any (is_column k) (cond b columns (columns ++ k ∷ [])) ≡ true
    by true there = there
    by false there = any_last k columns

-- a column that is put under a read
abbrev pub IsColumnPut : ReaderLists → ReaderLists → ReadNumber → CellNumber → Type 0
IsColumnPut old new read cell = (q : ReadNumber) → columns_under new.columns q ≡ cond (is_read (wide read) (wide q)) (with_column cell.column (columns_under old.columns q)) (columns_under old.columns q)

pub column_keeps : (old new : ReaderLists) (read : ReadNumber) (cell : CellNumber) → IsColumnPut old new read cell → KeepsColumns old new
column_keeps old new read cell h q c there =
    subst (λ columns. list_any (is_column c.column) columns ≡ true) (sym (h q))
    (elim (is_read (wide read) (wide q)) as (λ b. list_any (is_column c.column) (cond b (with_column cell.column (columns_under old.columns q)) (columns_under old.columns q)) ≡ true) [
      | true ↦ with_column_keeps cell.column c.column (columns_under old.columns q) there
      | false ↦ there
    ])

pub column_there : (old new : ReaderLists) (read : ReadNumber) (cell : CellNumber) → is_read (wide read) (wide read) ≡ true → IsColumnPut old new read cell → lists_column new read cell ≡ true
column_there old new read cell itself h =
    subst (λ columns. list_any (is_column cell.column) columns ≡ true) (sym (h read ∙ ap (λ b. cond b (with_column cell.column (columns_under old.columns read)) (columns_under old.columns read)) itself))
    (with_column_has cell.column (columns_under old.columns read))

-- where a row of the column is there, so is the column
pub column_by_row : (l : ReaderLists) (read : ReadNumber) (cell : CellNumber) (rows : List ℕ) → HasColumns l → under_key is_reading l.rows (reading_of read cell) ≡ rows → (rows ≡ [] → ⊥) → lists_column l read cell ≡ true
column_by_row l read cell [] whole is some = absurd (some refl)
column_by_row l read cell (r ∷ rows) whole is some =
    whole read (record { column = cell.column; row = r }) (ap (λ rows. has rows r) is ∙ ap (λ b. b || has rows r) (number_itself r))

-- ---- room

-- a list with no more rows and at least its room
still_roomy : (o p : Option (Vec ℕ Global)) → length (listed p) ≤ length (listed o) → capacity_of o ≤ capacity_of p → IsRoomy o → IsRoomy p
still_roomy None p shorter le h = absurd h
still_roomy (Some v) None shorter le h = let lt : length v.items < vec_capacity v = h in let none : vec_capacity v ≤ 0 = le in absurd (omega arith)
still_roomy (Some v) (Some w) shorter le h = let lt : length v.items < vec_capacity v = h in let more : vec_capacity v ≤ vec_capacity w = le in let less : length w.items ≤ length v.items = shorter in omega arith

filter_shorter : (p : ℕ → Bool) (rows : List ℕ) → length (filter p rows) ≤ length rows
filter_shorter p [] = omega arith
filter_shorter p (r ∷ rows) =
    let later : length (filter p rows) ≤ length rows = filter_shorter p rows in
    elim (p r) as (λ b. length (cond b (r ∷ filter p rows) (filter p rows)) ≤ length (r ∷ rows)) [ true ↦ omega arith | false ↦ omega arith ]

module _ (old new : ReaderLists) (cell : CellNumber) (keeps : KeepsColumns old new) (room : KeepsRoom is_reading old.rows new.rows) where
  -- under a read whose rows do not grow and stay unlinked
  stays : (q : ReadNumber) → length (under_key is_reading new.rows (reading_of q cell)) ≤ length (under_key is_reading old.rows (reading_of q cell)) → links old q cell ≡ false → IsBackable old q cell → HasRoom is_reading new.rows (reading_of q cell)
  stays q shorter apart was = still_roomy (lookup (is_reading (reading_of q cell)) old.rows) (lookup (is_reading (reading_of q cell)) new.rows) shorter (room (reading_of q cell)) (was.room apart)

  pub backable_put : (read : ReadNumber) → IsPutUnder is_reading old.rows new.rows (reading_of read cell) cell.row → KeepsBackable old new cell
  backable_put read put q was = record { column = keeps q cell was.column; room = λ apart. by (is_read read q) refl apart }
    where
      linked : IsLinked old new read cell
      linked = links-put old new read cell put

      by : (a : Bool) → is_read read q ≡ a → links new q cell ≡ false → HasRoom is_reading new.rows (reading_of q cell)
      by true isr apart = absurd (true≢false (sym (linked q cell ∙ ap (λ b. links old q cell || b) (ap (λ a. a && is_cell cell cell) isr ∙ cell_itself cell) ∙ or_true (links old q cell)) ∙ apart))
        where
          or_true : (a : Bool) → (a || true) ≡ true
          or_true true = refl
          or_true false = refl
      by false isr apart =
          let same : under_key is_reading new.rows (reading_of q cell) ≡ under_key is_reading old.rows (reading_of q cell)
          = put (reading_of q cell) ∙ ap (λ a. cond (a && is_column cell.column cell.column) (insert_row cell.row (under_key is_reading old.rows (reading_of q cell))) (under_key is_reading old.rows (reading_of q cell))) isr in
          let size = ap length same in
          stays q (omega arith) (sym (ap (λ rows. has rows cell.row) same) ∙ apart) was

  pub backable_same : HasSameRows is_reading old.rows new.rows → KeepsBackable old new cell
  backable_same same q was = record { column = keeps q cell was.column; room = λ apart. let size = ap length (same (reading_of q cell)) in stays q (omega arith) (sym (ap (λ rows. has rows cell.row) (same (reading_of q cell))) ∙ apart) was }

  pub backable_taken : (read : ReadNumber) (was : Bool) → was ≡ links old read cell → (was ≡ true → HasRoom is_reading new.rows (reading_of read cell)) → IsTakenFrom is_reading old.rows new.rows (reading_of read cell) cell.row → KeepsBackable old new cell
  backable_taken read true isw left taken q was = record { column = keeps q cell was.column; room = λ apart. by (is_read read q) refl apart }
    where
      by : (a : Bool) → is_read read q ≡ a → links new q cell ≡ false → HasRoom is_reading new.rows (reading_of q cell)
      by true isr apart = subst (λ p. HasRoom is_reading new.rows (reading_of p cell)) (same_read read q isr) (left refl)
      by false isr apart =
          let same : under_key is_reading new.rows (reading_of q cell) ≡ under_key is_reading old.rows (reading_of q cell)
          = taken (reading_of q cell) ∙ ap (λ a. cond (a && is_column cell.column cell.column) (without (cell.row ∷ []) (under_key is_reading old.rows (reading_of q cell))) (under_key is_reading old.rows (reading_of q cell))) isr in
          let size = ap length same in
          stays q (omega arith) (sym (ap (λ rows. has rows cell.row) same) ∙ apart) was
  backable_taken read false isw left taken q was = record { column = keeps q cell was.column; room = λ apart. stays q (shorter (is_reading (reading_of read cell) (reading_of q cell)) (taken (reading_of q cell))) (not_there (is_read read q) refl apart) was }
    where
      shorter : (b : Bool) → under_key is_reading new.rows (reading_of q cell) ≡ cond b (without (cell.row ∷ []) (under_key is_reading old.rows (reading_of q cell))) (under_key is_reading old.rows (reading_of q cell)) → length (under_key is_reading new.rows (reading_of q cell)) ≤ length (under_key is_reading old.rows (reading_of q cell))
      shorter true h = let size = ap length h in let less = filter_shorter (λ r. not (has (cell.row ∷ []) r)) (under_key is_reading old.rows (reading_of q cell)) in omega arith
      shorter false h = let size = ap length h in omega arith

      not_there : (a : Bool) → is_read read q ≡ a → links new q cell ≡ false → links old q cell ≡ false
      not_there true isr apart = subst (λ p. links old p cell ≡ false) (same_read read q isr) (sym isw)
      not_there false isr apart = kept (links old q cell) (sym (links-taken old new read cell taken q cell ∙ ap (λ a. links old q cell && not (a && is_cell cell cell)) isr) ∙ apart)
        where
          kept : (b : Bool) → (b && true) ≡ false → b ≡ false
          kept true h = absurd (true≢false h)
          kept false h = refl

-- ---- the answers of calls

pub on_ok : {A E P Q : Type 0} (r : Result A E) → (P → Q) → OnOk r P → OnOk r Q
on_ok (Ok x) f h = f h
on_ok (Err y) f h = h

pub on_err : {A E P Q : Type 0} (r : Result A E) → (P → Q) → OnErr r P → OnErr r Q
on_err (Ok x) f h = h
on_err (Err y) f h = f h

pub ok_or_err : {A E P Q R : Type 0} (r : Result A E) → (P → R) → (Q → R) → OnOk r P → OnErr r Q → R
ok_or_err (Ok x) f g h k = f h
ok_or_err (Err y) f g h k = g k

pub from_ok : {A E P : Type 0} (r : Result A E) → is_err r ≡ false → OnOk r P → P
from_ok (Ok x) e h = h
from_ok (Err y) e h = absurd (true≢false e)

pub from_err : {A E P : Type 0} (r : Result A E) → is_err r ≡ true → OnErr r P → P
from_err (Ok x) e h = absurd (false≢true e)
from_err (Err y) e h = h
