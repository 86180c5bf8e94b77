-- The cells that touched reads and cells affect: what a search over a graph of what cells note
-- finds are these, and no others.
use Rattle.std.proofs.Common.{ℕ, zero, suc, Bool, true, false, ◌||◌, ◌&&◌, List, [], ◌∷◌, ◌++◌, length, ◌≡◌, ◌⊎◌, inl, inr, refl, sym, ap, ◌∙◌, subst, Option, Some, None}
use Rattle.std.proofs.lemmas.Bool.{false≢true, true≢false, or_cases, or_left, or_right, and_parts, and_from}
use Rattle.std.proofs.lemmas.List.Folds.{list_any-append}
use Rattle.std.proofs.lemmas.Slice.Eq.{bytes_eq-Decides}
use Rattle.std.specs.List.{AllByRecursion, list_any}
use Rattle.std.specs.Option.{is_some, option_map}
use Rattle.std.specs.Str.{bytes_eq}
use Rattle.cell_types.specs.declared.cell.CellId.{CellId}
use Rattle.cell_types.specs.declared.cell.Read.{Read}
use Rattle.cell_types.specs.declared.cell.Read.TheVariants.{Cell, Key, Rows}
use Rattle.doc_model.specs.Document.{Document}
use Rattle.dep_graph.specs.declared.numbers.CellNumber.{CellNumber}
use Rattle.dep_graph.specs.declared.numbers.ColumnNumber.{ColumnNumber}
use Rattle.dep_graph.specs.declared.numbers.ReadNumber.{ReadNumber}
use Rattle.dep_graph.specs.declared.numbers.ReadNumber.TheVariants as read
use Rattle.dep_graph.specs.Graph.{Graph}
use Rattle.dep_graph.specs.NumberLaws.{read_itself}
use Rattle.dep_graph.specs.Numbers.{is_read}
use Rattle.dep_graph.specs.Records.{holds, reads_under}
use Rattle.dep_graph.specs.Sources.{cell_in, column_in, read_source, source_in}
use Rattle.dep_graph.specs.Names.{number_in}
use Rattle.recalc.specs.declared.kept.KeptTable.{KeptTable}
use Rattle.recalc.specs.Cells.{same_cell}
use Rattle.recalc.specs.Evaluated.{formula_at, sheet_of}
use Rattle.recalc.specs.Kept.{IsEvaluated, IsKeptOf, held_at}
use Rattle.recalc.specs.Sheet.{Sheet, evaluated, reads}
use Rattle.recalc.specs.Stack.{on}
use Rattle.recalc.proofs.SheetLemmas.{is_sheet}
use Rattle.affected_cells.specs.Affected.{affect_step, affected_by, affected_in, names_one}
use Rattle.affected_cells.specs.Bound.{names_cell}
use Rattle.affected_cells.specs.TouchedRight.{IsSameCell, IsTouchedRight}
use Rattle.affected_cells.proofs.Touches.{affected_rests}
use Rattle.affected_search.specs.ExactNotes.{HasNotes}
use Rattle.affected_search.specs.Reached.{IsAffected, IsClosed, is_among, reads_naming, reads_one}
use Rattle.affected_search.specs.Sheets.{IsHeld, HoldsReads, has_number, is_found}
use Rattle.affected_search.proofs.ActionLaws.{any_at}
use Rattle.affected_search.proofs.CellNumbers.{column_parts, mapped}
use Rattle.affected_search.proofs.ExactNotes.{exact}
use Rattle.affected_search.proofs.ListedTouched.{IsBeside, on_cell, on_key, on_rows, one_column, one_name, only_reads, only_touched}
use Rattle.affected_search.proofs.NotedLaws.{notes_reads_law}
use Rattle.affected_search.proofs.UpkeepLaws.{one_cell}
use Rattle.affected_search.proofs.WithinLaws.{reached_found}
use Rattle.affected_values.proofs.HeldNone.{held_none}
use Rattle.affected_values.specs.Taken.{IsRightBut}
use Rattle.recalc.proofs.Turn.{same_itself, same_true}
use Rattle.evaluated_doc.specs.Touching.{AreRefreshed, FindsRefreshed, IsRightOutside, cell_numbers, cells_numbers, is_read_touched, is_refreshed, read_numbers, reads_numbers, same_read, touched_numbers}
use Rattle.evaluated_doc.proofs.AlteredLemmas.{kept_value, none_some, some_same}

bytes_itself : (x : List ℕ) → bytes_eq x x ≡ true
bytes_itself x = (bytes_eq-Decides x x).1 refl

read_true : (p q : Read) → same_read p q ≡ true → p ≡ q
read_true (Cell c) (Cell d) h = ap (λ e. Cell e) (same_true c d h)
read_true (Key t k) (Key u m) h =
    let p = and_parts (bytes_eq t u) (bytes_eq k m) h in
    ap (λ n. Key n k) ((bytes_eq-Decides t u).0 p.0) ∙ ap (λ n. Key u n) ((bytes_eq-Decides k m).0 p.1)
read_true (Rows t) (Rows u) h = ap (λ n. Rows n) ((bytes_eq-Decides t u).0 h)
read_true (Cell c) (Key u m) h = absurd (false≢true h)
read_true (Cell c) (Rows u) h = absurd (false≢true h)
read_true (Key t k) (Cell d) h = absurd (false≢true h)
read_true (Key t k) (Rows u) h = absurd (false≢true h)
read_true (Rows t) (Cell d) h = absurd (false≢true h)
read_true (Rows t) (Key u m) h = absurd (false≢true h)

read_same : (q : Read) → same_read q q ≡ true
read_same (Cell c) = same_itself c
read_same (Key t k) = and_from (bytes_eq t t) (bytes_eq k k) (bytes_itself t) (bytes_itself k)
read_same (Rows t) = bytes_itself t

-- ---- the numbers of what is touched

module _ (names : List (List ℕ)) where
  in_first : (xs ys : List ReadNumber) (n : ReadNumber) → holds xs n ≡ true → holds (xs ++ ys) n ≡ true
  in_first xs ys n h = list_any-append (is_read n) xs ys ∙ or_left (holds xs n) (holds ys n) h

  in_second : (xs ys : List ReadNumber) (n : ReadNumber) → holds ys n ≡ true → holds (xs ++ ys) n ≡ true
  in_second xs ys n h = list_any-append (is_read n) xs ys ∙ or_right (holds xs n) (holds ys n) h

  read_numbered : (p : Read) (n : ReadNumber) → source_in names (read_source p) ≡ Some n → holds (read_numbers names p) n ≡ true
  read_numbered p n is = subst (λ (o : Option ReadNumber). holds (elim o as (λ _. List ReadNumber) [ None ↦ [] | Some m ↦ m ∷ [] ]) n ≡ true) (sym is) (or_left (is_read n n) false (read_itself n))

  read_held : (qs : List Read) (q : Read) (n : ReadNumber) → list_any (same_read q) qs ≡ true → source_in names (read_source q) ≡ Some n → holds (reads_numbers names qs) n ≡ true
  read_held [] q n on is = absurd (false≢true on)
  read_held (p ∷ qs) q n on is = elim (or_cases (same_read q p) (list_any (same_read q) qs) on) [
    | inl this ↦ in_first (read_numbers names p) (reads_numbers names qs) n (read_numbered p n (subst (λ x. source_in names (read_source x) ≡ Some n) (read_true q p this) is))
    | inr later ↦ in_second (read_numbers names p) (reads_numbers names qs) n (read_held qs q n later is)
  ]

  -- what names a cell has one of its two numbers
  named_held : (c : CellId) (q : Read) (n : ReadNumber) → names_cell c q ≡ true → source_in names (read_source q) ≡ Some n → holds (cell_numbers names c) n ≡ true
  named_held c (Cell d) n on is =
      let w = mapped read.Cell (cell_in names d) n is in
      let at : cell_in names c ≡ Some w.0 = ap (cell_in names) (sym (same_true d c on)) ∙ w.1 in
      subst (λ (o : Option CellNumber). holds (elim o as (λ _. List ReadNumber) [ None ↦ [] | Some k ↦ reads_naming k ]) n ≡ true) (sym at)
      (subst (λ m. holds (reads_naming w.0) m ≡ true) w.2 (or_left (is_read (read.Cell w.0) (read.Cell w.0)) (holds (read.Key w.0.column ∷ []) (read.Cell w.0)) (read_itself (read.Cell w.0))))
  named_held c (Key t k) n on is =
      let p = and_parts (bytes_eq t c.table) (bytes_eq k c.column) on in
      let w = mapped read.Key (column_in names t k) n is in
      let column : column_in names c.table c.column ≡ Some w.0 = ap (λ x. column_in names x c.column) (sym ((bytes_eq-Decides t c.table).0 p.0)) ∙ ap (column_in names t) (sym ((bytes_eq-Decides k c.column).0 p.1)) ∙ w.1 in
      let m : CellNumber = record { column = w.0; row = c.row } in
      let at : cell_in names c ≡ Some m = ap (option_map {U = CellNumber} (λ (j : ColumnNumber). record { column = j; row = c.row })) column in
      subst (λ (o : Option CellNumber). holds (elim o as (λ _. List ReadNumber) [ None ↦ [] | Some k ↦ reads_naming k ]) n ≡ true) (sym at)
      (subst (λ x. holds (reads_naming m) x ≡ true) w.2
      (or_right (is_read (read.Key w.0) (read.Cell m)) (holds (read.Key w.0 ∷ []) (read.Key w.0)) (or_left (is_read (read.Key w.0) (read.Key w.0)) false (read_itself (read.Key w.0)))))
  named_held c (Rows t) n on is = absurd (false≢true on)

  cell_held : (cs : List CellId) (q : Read) (n : ReadNumber) → list_any (λ c. names_cell c q) cs ≡ true → source_in names (read_source q) ≡ Some n → holds (cells_numbers names cs) n ≡ true
  cell_held [] q n on is = absurd (false≢true on)
  cell_held (c ∷ cs) q n on is = elim (or_cases (names_cell c q) (list_any (λ c. names_cell c q) cs) on) [
    | inl this ↦ in_first (cell_numbers names c) (cells_numbers names cs) n (named_held c q n this is)
    | inr later ↦ in_second (cell_numbers names c) (cells_numbers names cs) n (cell_held cs q n later is)
  ]

  touched_held : (rs : List Read) (cs : List CellId) (q : Read) (n : ReadNumber) → is_read_touched rs cs q ≡ true → source_in names (read_source q) ≡ Some n → holds (touched_numbers names rs cs) n ≡ true
  touched_held rs cs q n on is = elim (or_cases (list_any (same_read q) rs) (list_any (λ c. names_cell c q) cs) on) [
    | inl this ↦ in_first (reads_numbers names rs) (cells_numbers names cs) n (read_held rs q n this is)
    | inr this ↦ in_second (reads_numbers names rs) (cells_numbers names cs) n (cell_held cs q n this is)
  ]

  -- ---- they are of nothing else

  module _ (touched : Read → Bool) where
    each_of : (xs ys : List ReadNumber) → AllByRecursion (IsBeside names touched) xs → AllByRecursion (IsBeside names touched) ys → AllByRecursion (IsBeside names touched) (xs ++ ys)
    each_of [] ys h g = g
    each_of (x ∷ xs) ys h g = (h.0, each_of xs ys h.1 g)

    cell_beside : (c : CellId) (k : CellNumber) → cell_in names c ≡ Some k → touched (Cell c) ≡ true → IsBeside names touched (read.Cell k)
    cell_beside c k at on = on_cell names touched k (λ e is. subst (λ x. touched (Cell x) ≡ true) (one_cell names c e k at is) on)

    key_beside : (t b : List ℕ) (k : ColumnNumber) → column_in names t b ≡ Some k → touched (Key t b) ≡ true → IsBeside names touched (read.Key k)
    key_beside t b k at on = on_key names touched k (λ u c is.
        let same = one_column names t b u c k at is in
        subst (λ x. touched (Key u x) ≡ true) same.1 (subst (λ x. touched (Key x b) ≡ true) same.0 on))

    rows_beside : (t : List ℕ) (i : ℕ) → number_in names t ≡ Some i → touched (Rows t) ≡ true → IsBeside names touched (read.Rows i)
    rows_beside t i at on = on_rows names touched i (λ u is. subst (λ x. touched (Rows x) ≡ true) (one_name names t u i at is) on)

    read_beside_all : (q : Read) → touched q ≡ true → (o : Option ReadNumber) → source_in names (read_source q) ≡ o → AllByRecursion (IsBeside names touched) (elim o as (λ _. List ReadNumber) [ None ↦ [] | Some m ↦ m ∷ [] ])
    read_beside_all q on None is = tt
    read_beside_all (Cell c) on (Some n) is = let w = mapped read.Cell (cell_in names c) n is in (subst (IsBeside names touched) w.2 (cell_beside c w.0 w.1 on), tt)
    read_beside_all (Key t k) on (Some n) is = let w = mapped read.Key (column_in names t k) n is in (subst (IsBeside names touched) w.2 (key_beside t k w.0 w.1 on), tt)
    read_beside_all (Rows t) on (Some n) is = let w = mapped read.Rows (number_in names t) n is in (subst (IsBeside names touched) w.2 (rows_beside t w.0 w.1 on), tt)

    reads_beside : (qs : List Read) → ((q : Read) → list_any (same_read q) qs ≡ true → touched q ≡ true) → AllByRecursion (IsBeside names touched) (reads_numbers names qs)
    reads_beside [] all = tt
    reads_beside (q ∷ qs) all =
        each_of (read_numbers names q) (reads_numbers names qs)
        (read_beside_all q (all q (or_left (same_read q q) (list_any (same_read q) qs) (read_same q))) (source_in names (read_source q)) refl)
        (reads_beside qs (λ p on. all p (or_right (same_read p q) (list_any (same_read p) qs) on)))

    naming_beside : (c : CellId) → touched (Cell c) ≡ true → touched (Key c.table c.column) ≡ true → (o : Option ColumnNumber) → column_in names c.table c.column ≡ o
        → AllByRecursion (IsBeside names touched) (elim (option_map {U = CellNumber} (λ (j : ColumnNumber). record { column = j; row = c.row }) o) as (λ _. List ReadNumber) [ None ↦ [] | Some k ↦ reads_naming k ])
    naming_beside c told key None is = tt
    naming_beside c told key (Some k) is = (
      cell_beside c (record { column = k; row = c.row }) (ap (option_map {U = CellNumber} (λ (j : ColumnNumber). record { column = j; row = c.row })) is) told,
      (key_beside c.table c.column k is key, tt),
    )

    cells_beside : (cs : List CellId) → ((q : Read) → list_any (λ c. names_cell c q) cs ≡ true → touched q ≡ true) → AllByRecursion (IsBeside names touched) (cells_numbers names cs)
    cells_beside [] all = tt
    cells_beside (c ∷ cs) all =
        each_of (cell_numbers names c) (cells_numbers names cs)
        (naming_beside c (all (Cell c) (or_left (same_cell c c) (list_any (λ d. names_cell d (Cell c)) cs) (same_itself c)))
        (all (Key c.table c.column) (or_left (bytes_eq c.table c.table && bytes_eq c.column c.column) (list_any (λ d. names_cell d (Key c.table c.column)) cs)
        (and_from (bytes_eq c.table c.table) (bytes_eq c.column c.column) (bytes_itself c.table) (bytes_itself c.column))))
        (column_in names c.table c.column) refl)
        (cells_beside cs (λ q on. all q (or_right (names_cell c q) (list_any (λ d. names_cell d q) cs) on)))

  touched_beside : (rs : List Read) (cs : List CellId) → AllByRecursion (IsBeside names (is_read_touched rs cs)) (touched_numbers names rs cs)
  touched_beside rs cs =
      each_of (is_read_touched rs cs) (reads_numbers names rs) (cells_numbers names cs)
      (reads_beside (is_read_touched rs cs) rs (λ q on. or_left (list_any (same_read q) rs) (list_any (λ c. names_cell c q) cs) on))
      (cells_beside (is_read_touched rs cs) cs (λ q on. or_right (list_any (same_read q) rs) (list_any (λ c. names_cell c q) cs) on))

-- ---- what the search finds

module _ (d : Document) (graph : Graph) (rs : List Read) (cs : List CellId) (has : HasNotes graph (sheet_of d)) (cells : List CellNumber) (found : IsAffected graph.reads (touched_numbers graph.names rs cs) cells) where
  abbrev s : Sheet
  s = sheet_of d

  abbrev names : List (List ℕ)
  names = graph.names

  abbrev touched : Read → Bool
  touched = is_read_touched rs cs

  -- the touched cells, and those that are found
  abbrev comes : CellId → Bool
  comes c = on cs c || is_found graph cells c

  held : HoldsReads graph s
  held c f e = notes_reads_law graph s c ((exact graph s has).0 c f e)

  -- what has a read whose number is followed is found
  module _ (c : CellId) (k : CellNumber) (at : cell_in names c ≡ Some k) where
    is_there : is_among cells k ≡ true → comes c ≡ true
    is_there h = or_right (on cs c) (is_found graph cells c) (subst (λ (o : Option CellNumber). elim o as (λ _. Bool) [ None ↦ false | Some j ↦ is_among cells j ] ≡ true) (sym at) h)

    by_touched : (q : Read) (n : ReadNumber) → touched q ≡ true → source_in names (read_source q) ≡ Some n → holds (reads_under graph.reads k) n ≡ true → comes c ≡ true
    by_touched q n on is h = is_there (found.closed.of_touched k (any_at (holds (reads_under graph.reads k)) (touched_numbers names rs cs) n (touched_held names rs cs q n on is) h))

    by_cell : (j : CellNumber) → is_among cells j ≡ true → (n : ReadNumber) → holds (reads_naming j) n ≡ true → holds (reads_under graph.reads k) n ≡ true → comes c ≡ true
    by_cell j there n one h = is_there (found.closed.of_cells j k there (any_at (holds (reads_under graph.reads k)) (reads_naming j) n one h))

    -- of a read that names a cell which comes
    by_named : (e : CellId) (q : Read) (n : ReadNumber) → comes e ≡ true → names_cell e q ≡ true → source_in names (read_source q) ≡ Some n → holds (reads_under graph.reads k) n ≡ true → comes c ≡ true
    by_named e q n there one is h = elim (or_cases (on cs e) (is_found graph cells e) there) [
      | inl this ↦ by_touched q n (or_right (list_any (same_read q) rs) (list_any (λ x. names_cell x q) cs) (among cs this)) is h
      | inr this ↦ numbered (cell_in names e) refl this
    ]
      where
        among : (xs : List CellId) → on xs e ≡ true → list_any (λ x. names_cell x q) xs ≡ true
        among [] h = absurd (false≢true h)
        among (x ∷ xs) h = elim (or_cases (same_cell x e) (on xs e) h) [
          | inl this ↦ or_left (names_cell x q) (list_any (λ y. names_cell y q) xs) (subst (λ y. names_cell y q ≡ true) (sym (same_true x e this)) one)
          | inr later ↦ or_right (names_cell x q) (list_any (λ y. names_cell y q) xs) (among xs later)
        ]

        numbered : (o : Option CellNumber) → cell_in names e ≡ o → elim o as (λ _. Bool) [ None ↦ false | Some j ↦ is_among cells j ] ≡ true → comes c ≡ true
        numbered None at there = absurd (false≢true there)
        numbered (Some j) at there = by_cell j there n (subst (λ (o : Option CellNumber). holds (elim o as (λ _. List ReadNumber) [ None ↦ [] | Some k ↦ reads_naming k ]) n ≡ true) at (named_held names e q n one is)) h

    module _ (p : CellId → Bool) (already : (e : CellId) → p e ≡ true → comes e ≡ true) where
      by_key : (u m : List ℕ) (n : ReadNumber) (xs : List CellId) → list_any (λ e. bytes_eq e.table u && bytes_eq e.column m && p e) xs ≡ true → source_in names (read_source (Key u m)) ≡ Some n
          → holds (reads_under graph.reads k) n ≡ true → comes c ≡ true
      by_key u m n [] one is h = absurd (false≢true one)
      by_key u m n (e ∷ xs) one is h = elim (or_cases (bytes_eq e.table u && bytes_eq e.column m && p e) (list_any (λ e. bytes_eq e.table u && bytes_eq e.column m && p e) xs) one) [
        | inl this ↦
            let two = and_parts (bytes_eq e.table u && bytes_eq e.column m) (p e) this in
            let ids = and_parts (bytes_eq e.table u) (bytes_eq e.column m) two.0 in
            by_named e (Key u m) n (already e two.1)
            (and_from (bytes_eq u e.table) (bytes_eq m e.column) ((bytes_eq-Decides u e.table).1 (sym ((bytes_eq-Decides e.table u).0 ids.0))) ((bytes_eq-Decides m e.column).1 (sym ((bytes_eq-Decides e.column m).0 ids.1)))) is h
        | inr later ↦ by_key u m n xs later is h
      ]

      by_read : (q : Read) → IsHeld names (reads_under graph.reads k) q → (touched q || names_one s s (on cs) touched p q) ≡ true → comes c ≡ true
      by_read q h told = elim (or_cases (touched q) (names_one s s (on cs) touched p q) told) [
        | inl this ↦ by_touched q h.0 this h.1 h.2
        | inr this ↦ named q h this
      ]
        where
          named : (q : Read) → IsHeld names (reads_under graph.reads k) q → names_one s s (on cs) touched p q ≡ true → comes c ≡ true
          named (Cell e) h one = by_named e (Cell e) h.0 (already e one) (same_itself e) h.1 h.2
          named (Key u m) h one = by_key u m h.0 s.cells one h.1 h.2
          named (Rows u) h one = absurd (false≢true one)

      by_reads : (qs : List Read) → AllByRecursion (IsHeld names (reads_under graph.reads k)) qs → list_any (λ q. touched q || names_one s s (on cs) touched p q) qs ≡ true → comes c ≡ true
      by_reads [] all told = absurd (false≢true told)
      by_reads (q ∷ qs) all told = elim (or_cases (touched q || names_one s s (on cs) touched p q) (list_any (λ q. touched q || names_one s s (on cs) touched p q) qs) told) [
        | inl this ↦ by_read q all.0 this
        | inr later ↦ by_reads qs all.1 later
      ]

  step : (p : CellId → Bool) → ((e : CellId) → p e ≡ true → comes e ≡ true) → (c : CellId) → affect_step s s (on cs) touched p c ≡ true → comes c ≡ true
  step p already c h =
      let two = and_parts (is_some (s.formula c)) (p c || (on cs c || list_any (λ q. touched q || names_one s s (on cs) touched p q) (reads s c))) h in
      elim (or_cases (p c) (on cs c || list_any (λ q. touched q || names_one s s (on cs) touched p q) (reads s c)) two.1) [
        | inl this ↦ already c this
        | inr more ↦ elim (or_cases (on cs c) (list_any (λ q. touched q || names_one s s (on cs) touched p q) (reads s c)) more) [
          | inl this ↦ or_left (on cs c) (is_found graph cells c) this
          | inr one ↦ by_formula (s.formula c) refl two.0 one
        ]
      ]
    where
      by_formula : (o : Option (List ℕ)) → s.formula c ≡ o → is_some (s.formula c) ≡ true → list_any (λ q. touched q || names_one s s (on cs) touched p q) (reads s c) ≡ true → comes c ≡ true
      by_formula None e there one = absurd (false≢true (sym (ap is_some e) ∙ there))
      by_formula (Some f) e there one = let h = held c f e in by_reads c h.0 h.1 p already (reads s c) h.2 one

  rounds : (n : ℕ) (c : CellId) → affected_by s s (on cs) touched n c ≡ true → comes c ≡ true
  rounds zero c h = absurd (false≢true h)
  rounds (suc n) c h = step (affected_by s s (on cs) touched n) (rounds n) c h

  -- ---- and nothing else

  -- in one sheet nothing changes
  same_there : (c : CellId) → IsSameCell s s (on cs) touched c
  same_there c = by (s.formula c) refl
    where
      by : (o : Option (List ℕ)) → s.formula c ≡ o → IsSameCell s s (on cs) touched c
      by None e = inl (e, e, refl)
      by (Some f) e = inr (f, e, e)

  right : IsTouchedRight s s (on cs) touched
  right = record {
    was = λ c f e _. e;
    kind = λ c f e _. refl;
    cell = λ c _. (refl, same_there c);
    key = λ u m _. (refl, λ r. same_there (record { table = u; column = m; row = r }));
    rows = λ u _. refl;
  }

  within : (c : CellId) (f : List ℕ) → s.formula c ≡ Some f → is_found graph cells c ≡ true → is_refreshed rs cs d c ≡ true
  within c f e there = by (cell_in names c) refl there
    where
      by : (o : Option CellNumber) → cell_in names c ≡ o → elim o as (λ _. Bool) [ None ↦ false | Some j ↦ is_among cells j ] ≡ true → is_refreshed rs cs d c ≡ true
      by None at there = absurd (false≢true there)
      by (Some k) at there =
          reached_found graph (touched_numbers names rs cs) s s (on cs) touched (is_sheet d).listed right (only_reads graph s (exact graph s has).1)
          (only_touched graph s (exact graph s has).1 touched (touched_numbers names rs cs) (touched_beside names rs cs)) k (found.reached k there) c f at e

  fresh : (c : CellId) → is_some (s.formula c) ≡ true → on cs c ≡ true → is_refreshed rs cs d c ≡ true
  fresh c there h =
      ap (λ p. p c) (affected_rests s s (on cs) touched (is_sheet d).listed)
      ∙ and_from (is_some (s.formula c)) (is_refreshed rs cs d c || (on cs c || list_any (λ q. touched q || names_one s s (on cs) touched (is_refreshed rs cs d) q) (reads s c))) there
      (or_right (is_refreshed rs cs d c) (on cs c || list_any (λ q. touched q || names_one s s (on cs) touched (is_refreshed rs cs d) q) (reads s c))
      (or_left (on cs c) (list_any (λ q. touched q || names_one s s (on cs) touched (is_refreshed rs cs d) q) (reads s c)) h))

on_append : (xs ys : List CellId) (c : CellId) → on (xs ++ ys) c ≡ (on xs c || on ys c)
on_append xs ys c = list_any-append (λ x. same_cell x c) xs ys

-- the cells that were found, by name, and the touched ones
pub finds_refreshed : (graph : Graph) (rs : List Read) (cs : List CellId) (cells : List CellNumber) (named all : List CellId) → IsAffected graph.reads (touched_numbers graph.names rs cs) cells
    → ((c : CellId) → is_found graph cells c ≡ true → on named c ≡ true) → ((c : CellId) → on named c ≡ true → is_found graph cells c ≡ true) → all ≡ named ++ cs → FindsRefreshed rs cs graph all
finds_refreshed graph rs cs cells named all found there only is d has = record {
  all = λ c h. ap (λ l. on l c) is ∙ on_append named cs c ∙ (elim (or_cases (on cs c) (is_found graph cells c) (rounds d graph rs cs has cells found (length (sheet_of d).cells) c h)) [
    | inl this ↦ or_right (on named c) (on cs c) this
    | inr this ↦ or_left (on named c) (on cs c) (there c this)
  ]);
  only = λ c h formula. elim (or_cases (on named c) (on cs c) (sym (on_append named cs c) ∙ ap (λ l. on l c) (sym is) ∙ h)) [
    | inl this ↦ of_formula c (formula_at d c) refl formula (only c this)
    | inr this ↦ fresh d graph rs cs has cells found c formula this
  ];
}
  where
    of_formula : (c : CellId) (o : Option (List ℕ)) → formula_at d c ≡ o → is_some (formula_at d c) ≡ true → is_found graph cells c ≡ true → is_refreshed rs cs d c ≡ true
    of_formula c None e formula h = absurd (false≢true (sym (ap is_some e) ∙ formula))
    of_formula c (Some f) e formula h = within d graph rs cs has cells found c f e h

-- ---- values

-- where the values of all cells are right, those outside are
pub right_outside : (s : Document) (ks : List KeptTable) (rs : List Read) (cs : List CellId) → IsEvaluated s ks → IsRightOutside rs cs s ks
right_outside s ks rs cs known c there outside = by (formula_at s c) refl
  where
    by : (o : Option (List ℕ)) → formula_at s c ≡ o → held_at s ks c ≡ Some (evaluated (sheet_of s) c)
    by None e = absurd (false≢true (sym (ap is_some e) ∙ there))
    by (Some f) e = kept_value s ks known c f e

-- where the values outside are right, those of all but the found cells are
pub right_but_found : (s : Document) (ks : List KeptTable) (rs : List Read) (cs found : List CellId) → IsKeptOf s ks → IsRightOutside rs cs s ks → AreRefreshed rs cs s found → IsRightBut s ks found
right_but_found s ks rs cs found kept others are = record {
  known = λ c other there. ap is_some (others c there (outside c other));
  right = λ c v other h. by c v other h (formula_at s c) refl;
}
  where
    outside : (c : CellId) → on found c ≡ false → is_refreshed rs cs s c ≡ false
    outside c other = at (is_refreshed rs cs s c) refl
      where
        at : (b : Bool) → is_refreshed rs cs s c ≡ b → b ≡ false
        at false e = refl
        at true e = absurd (false≢true (sym other ∙ are.all c e))

    by : (c : CellId) (v : _) → on found c ≡ false → held_at s ks c ≡ Some v → (o : Option (List ℕ)) → formula_at s c ≡ o → evaluated (sheet_of s) c ≡ v
    by c v other h None e = absurd (none_some v (sym (held_none s ks kept c e) ∙ h))
    by c v other h (Some f) e = some_same (evaluated (sheet_of s) c) v (sym (others c (ap is_some e) (outside c other)) ∙ h)
