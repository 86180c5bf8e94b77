-- Cells that are found one after the other.
use Rattle.std.proofs.Common.{ℕ, Bool, true, false, cond, ◌&&◌, ◌||◌, ◌++◌, nat_eq, List, [], ◌∷◌, ◌+◌, ◌<◌, take, get_or, length, ◌≡◌, refl, sym, ap, ◌∙◌, subst}
use Rattle.std.proofs.lemmas.Bool.{false≢true, or_left}
use Rattle.std.proofs.lemmas.List.{append-nil, append_assoc}
use Rattle.std.proofs.lemmas.List.Folds.{list_any-append, list_any_more}
use Rattle.std.proofs.lemmas.Map.Keys.{IsDistinct-push}
use Rattle.std.proofs.Math.Bool.{or_assoc}
use Rattle.std.specs.List.{list_any}
use Rattle.doc_model.specs.Rows.{has}
use Rattle.doc_model.proofs.Choices.{or_false}
use Rattle.dep_graph.specs.declared.numbers.CellNumber.{CellNumber}
use Rattle.dep_graph.specs.declared.numbers.ColumnNumber.{ColumnNumber}
use Rattle.dep_graph.specs.declared.numbers.ReadNumber.{ReadNumber}
use Rattle.dep_graph.specs.declared.numbers.ReadNumber.TheVariants as read
use Rattle.dep_graph.specs.Numbers.{is_cell, is_column}
use Rattle.dep_graph.specs.NumberLaws.{same_cell, same_column, column_decides}
use Rattle.dep_graph.specs.Records.{holds, reads_under}
use Rattle.affected_search.specs.Reached.{ReadLists, is_among, reads_one}
use Rattle.affected_search.specs.Found.{IsKnownBy, IsMore, HasKeyReaders, is_reader, with_cell}
use Rattle.affected_search.proofs.ReachedLaws.{cell_equiv}

-- ---- one cell

among_with : (cells : List CellNumber) (c d : CellNumber) → is_among (with_cell c cells) d ≡ (is_among cells d || is_cell c d)
among_with cells c d = by (is_among cells c) refl
  where
    there : is_among cells c ≡ true → (e : Bool) → is_cell c d ≡ e → is_among cells d ≡ (is_among cells d || e)
    there h true is = let now : is_among cells d ≡ true = subst (λ x. is_among cells x ≡ true) (same_cell c d is) h in now ∙ ap (λ b. b || true) (sym now)
    there h false is = sym (or_false (is_among cells d))

    by : (b : Bool) → is_among cells c ≡ b → is_among (cond b cells (cells ++ c ∷ [])) d ≡ (is_among cells d || is_cell c d)
    by true h = there h (is_cell c d) refl
    by false h = list_any-append (is_cell d) cells (c ∷ []) ∙ ap (λ b. is_among cells d || b) (or_false (is_cell d c) ∙ cell_equiv.symm d c)

-- a cell put behind, or there already
pub known_with : (cells keys new : List CellNumber) (c : CellNumber) → IsKnownBy cells keys → is_among keys c ≡ false → ((d : CellNumber) → is_among new d ≡ cond (is_cell c d) true (is_among keys d)) → IsKnownBy (cells ++ c ∷ []) new
known_with cells keys new c known apart put = record {
  once = IsDistinct-push cell_equiv cells c known.once (sym (known.same c) ∙ apart);
  same = λ d. put d ∙ ap (λ b. cond (is_cell c d) true b) (known.same d) ∙ either (is_cell c d) (is_among cells d)
      ∙ sym (list_any-append (is_cell d) cells (c ∷ []) ∙ ap (λ b. is_among cells d || b) (or_false (is_cell d c) ∙ cell_equiv.symm d c));
}
  where
    either : (a b : Bool) → cond a true b ≡ (b || a)
    either true true = refl
    either true false = refl
    either false b = sym (or_false b)

-- ---- more cells

pub more_none : (cells : List CellNumber) (more : CellNumber → Bool) → ((c : CellNumber) → more c ≡ true → is_among cells c ≡ true) → IsMore cells cells more
more_none cells more there = record { cells = λ c. by c (more c) refl; behind = []; follows = sym (append-nil cells) }
  where
    by : (c : CellNumber) (b : Bool) → more c ≡ b → is_among cells c ≡ (is_among cells c || b)
    by c true h = let now : is_among cells c ≡ true = there c h in now ∙ ap (λ b. b || true) (sym now)
    by c false h = sym (or_false (is_among cells c))

pub more_same : (old new : List CellNumber) (p r : CellNumber → Bool) → ((c : CellNumber) → p c ≡ r c) → IsMore old new p → IsMore old new r
more_same old new p r same h = record { cells = λ c. h.cells c ∙ ap (λ b. is_among old c || b) (same c); behind = h.behind; follows = h.follows }

pub more_then : (old now new : List CellNumber) (p q r : CellNumber → Bool) → ((c : CellNumber) → r c ≡ (p c || q c)) → IsMore old now p → IsMore now new q → IsMore old new r
more_then old now new p q r same h g = record {
  cells = λ c. g.cells c ∙ ap (λ b. b || q c) (h.cells c) ∙ or_assoc (is_among old c) (p c) (q c) ∙ ap (λ b. is_among old c || b) (sym (same c));
  behind = h.behind ++ g.behind;
  follows = g.follows ∙ ap (λ cells. cells ++ g.behind) h.follows ∙ append_assoc old h.behind g.behind;
}

-- the cells that are there stay
pub more_keeps : (old new : List CellNumber) (p : CellNumber → Bool) → IsMore old new p → (c : CellNumber) → is_among old c ≡ true → is_among new c ≡ true
more_keeps old new p h c there = h.cells c ∙ or_left (is_among old c) (p c) there

more_cell : (cells new : List CellNumber) (c : CellNumber) → new ≡ with_cell c cells → IsMore cells new (is_cell c)
more_cell cells new c is = record {
  cells = λ d. ap (λ l. is_among l d) is ∙ among_with cells c d;
  behind = cond (is_among cells c) [] (c ∷ []);
  follows = is ∙ elim (is_among cells c) as (λ b. cond b cells (cells ++ c ∷ []) ≡ cells ++ cond b [] (c ∷ [])) [ true ↦ sym (append-nil cells) | false ↦ refl ];
}

both_or : (a b c : Bool) → (a && (b || c)) ≡ ((a && b) || (a && c))
both_or true b c = refl
both_or false b c = refl

-- one row more of a column
pub row_step : (old now new : List CellNumber) (k : ColumnNumber) (rows : List ℕ) (i : ℕ) (x : ℕ) → i < length rows → x ≡ get_or rows i 0
    → IsMore old now (λ c. is_column k c.column && has (take i rows) c.row) → new ≡ with_cell (record { column = k; row = x }) now
    → IsMore old new (λ c. is_column k c.column && has (take (i + 1) rows) c.row)
row_step old now new k rows i x l e before put =
    more_then old now new (λ c. is_column k c.column && has (take i rows) c.row) (is_cell (record { column = k; row = x })) (λ c. is_column k c.column && has (take (i + 1) rows) c.row)
    (λ c. ap (λ b. is_column k c.column && b) (list_any_more (λ q. nat_eq q c.row) rows i 0 l ∙ ap (λ y. has (take i rows) c.row || nat_eq y c.row) (sym e))
    ∙ both_or (is_column k c.column) (has (take i rows) c.row) (nat_eq x c.row))
    before (more_cell now new (record { column = k; row = x }) put)

-- ---- readers

-- what a place past the end of a list reads
abbrev pub no_column : ColumnNumber
no_column = record { table = 0; column = 0 }

-- whether the cell reads this, and stands in one of these columns
abbrev pub reads_in : ReadLists → ReadNumber → List ColumnNumber → CellNumber → Bool
reads_in reads q columns c = list_any (is_column c.column) columns && is_reader reads q c

-- one column more
pub column_step : (reads : ReadLists) (q : ReadNumber) (old now new : List CellNumber) (columns : List ColumnNumber) (i : ℕ) (k : ColumnNumber) (rows : List ℕ) → i < length columns → k ≡ get_or columns i k
    → ((row : ℕ) → has rows row ≡ is_reader reads q (record { column = k; row = row })) → IsMore old now (reads_in reads q (take i columns)) → IsMore now new (λ c. is_column k c.column && has rows c.row)
    → IsMore old new (reads_in reads q (take (i + 1) columns))
column_step reads q old now new columns i k rows l e are before put =
    more_then old now new (reads_in reads q (take i columns)) (λ c. is_column k c.column && has rows c.row) (reads_in reads q (take (i + 1) columns))
    (λ c. ap (λ b. b && is_reader reads q c) (list_any_more (is_column c.column) columns i k l ∙ ap (λ j. list_any (is_column c.column) (take i columns) || is_column c.column j) (sym e))
    ∙ parted (list_any (is_column c.column) (take i columns)) (is_column c.column k) (is_reader reads q c) ∙ ap (λ b. reads_in reads q (take i columns) c || b) (turned c (is_column c.column k) refl))
    before put
  where
    parted : (a b r : Bool) → ((a || b) && r) ≡ ((a && r) || (b && r))
    parted true true true = refl
    parted true true false = refl
    parted true false true = refl
    parted true false false = refl
    parted false b r = refl

    turned : (c : CellNumber) (b : Bool) → is_column c.column k ≡ b → (b && is_reader reads q c) ≡ (is_column k c.column && has rows c.row)
    turned c true is =
        let same : c.column ≡ k = same_column c.column k is in
        let back : is_column k c.column ≡ true = (column_decides k c.column).1 (sym same) in
        ap (λ j. is_reader reads q (record { column = j; row = c.row })) same ∙ sym (are c.row) ∙ ap (λ b. b && has rows c.row) (sym back)
    turned c false is = apart c (is_column k c.column) refl is
      where
        apart : (c : CellNumber) (b : Bool) → is_column k c.column ≡ b → is_column c.column k ≡ false → false ≡ (b && has rows c.row)
        apart c true back is = absurd (false≢true (sym is ∙ (column_decides c.column k).1 (sym (same_column k c.column back))))
        apart c false back is = refl

-- all columns of a read
pub columns_whole : (reads : ReadLists) (q : ReadNumber) (old new : List CellNumber) (columns : List ColumnNumber) → ((c : CellNumber) → is_reader reads q c ≡ true → list_any (is_column c.column) columns ≡ true)
    → IsMore old new (reads_in reads q columns) → IsMore old new (is_reader reads q)
columns_whole reads q old new columns whole h = more_same old new (reads_in reads q columns) (is_reader reads q) (λ c. by c (is_reader reads q c) refl) h
  where
    by : (c : CellNumber) (b : Bool) → is_reader reads q c ≡ b → (list_any (is_column c.column) columns && b) ≡ b
    by c true is = ap (λ b. b && true) (whole c is)
    by c false is = none (list_any (is_column c.column) columns)
      where
        none : (a : Bool) → (a && false) ≡ false
        none true = refl
        none false = refl

-- one read more
pub read_step : (reads : ReadLists) (old now new : List CellNumber) (qs : List ReadNumber) (i : ℕ) (q : ReadNumber) → i < length qs → q ≡ get_or qs i q
    → IsMore old now (reads_one reads (take i qs)) → IsMore now new (is_reader reads q) → IsMore old new (reads_one reads (take (i + 1) qs))
read_step reads old now new qs i q l e before put =
    more_then old now new (reads_one reads (take i qs)) (is_reader reads q) (reads_one reads (take (i + 1) qs))
    (λ c. list_any_more (holds (reads_under reads c)) qs i q l ∙ ap (λ p. reads_one reads (take i qs) c || holds (reads_under reads c) p) (sym e)) before put

-- ---- readers of key columns

-- a key column that was there
pub keys_there : (reads : ReadLists) (keys : List ColumnNumber) (found : List CellNumber) (k : ColumnNumber) → HasKeyReaders reads keys found → list_any (is_column k) keys ≡ true → IsMore found found (is_reader reads (read.Key k))
keys_there reads keys found k have there = more_none found (is_reader reads (read.Key k)) (λ c h. have k c there h)

-- a key column more
pub keys_more : (reads : ReadLists) (keys new_keys : List ColumnNumber) (found new : List CellNumber) (k : ColumnNumber) → HasKeyReaders reads keys found
    → ((j : ColumnNumber) → list_any (is_column j) new_keys ≡ cond (is_column k j) true (list_any (is_column j) keys)) → IsMore found new (is_reader reads (read.Key k)) → HasKeyReaders reads new_keys new
keys_more reads keys new_keys found new k have put more j c there h = by (is_column k j) refl (sym (put j) ∙ there)
  where
    here : (a b : Bool) → b ≡ true → (a || b) ≡ true
    here true b h = refl
    here false b h = h

    by : (b : Bool) → is_column k j ≡ b → cond b true (list_any (is_column j) keys) ≡ true → is_among new c ≡ true
    by true is there = more.cells c ∙ here (is_among found c) (is_reader reads (read.Key k) c) (subst (λ i. is_reader reads (read.Key i) c ≡ true) (sym (same_column k j is)) h)
    by false is there = more_keeps found new (is_reader reads (read.Key k)) more c (have j c there h)

-- what was found stays so
pub keys_keep : (reads : ReadLists) (keys : List ColumnNumber) (found new : List CellNumber) (p : CellNumber → Bool) → IsMore found new p → HasKeyReaders reads keys found → HasKeyReaders reads keys new
keys_keep reads keys found new p more have k c there h = more_keeps found new p more c (have k c there h)
