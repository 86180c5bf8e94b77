-- The reads that pass a test, from the reads of cells.
use Rattle.std.proofs.Common.{ℕ, suc, ◌+◌, Bool, true, false, cond, ◌&&◌, ◌||◌, List, [], ◌∷◌, ◌++◌, map, drop, slice_get, ◌≡◌, inl, inr, refl, sym, ap, ◌∙◌, subst, Option, Some, None, arith}
use Rattle.std.proofs.lemmas.Bool.{or_cases, or_left, or_right, and_parts}
use Rattle.std.proofs.lemmas.List.Folds.{list_any-append}
use Rattle.std.specs.Option.{option_map}
use Rattle.cell_types.specs.declared.cell.CellId.{CellId}
use Rattle.doc_model.specs.declared.column.ColDef.{ColDef}
use Rattle.doc_model.specs.Document.{Document, Table}
use Rattle.doc_model.specs.DocumentLaws.{IsWhole}
use Rattle.doc_model.specs.Grid.{Grid}
use Rattle.doc_model.proofs.Choices.{or_false}
use Rattle.doc_readers.specs.Parts.{grid_at}
use Rattle.recalc.specs.Cells.{cell_of}
use Rattle.recalc.specs.Evaluated.{cells_of_column, cells_of_columns}
use Rattle.recalc.specs.Sheet.{IsIn}
use Rattle.recalc.proofs.WholeLemmas.{grid_there}
use Rattle.dep_graph.specs.declared.numbers.CellNumber.{CellNumber}
use Rattle.dep_graph.specs.declared.numbers.ColumnNumber.{ColumnNumber}
use Rattle.dep_graph.specs.declared.numbers.ReadNumber.{ReadNumber}
use Rattle.dep_graph.specs.Graph.{Graph}
use Rattle.dep_graph.specs.NumberLaws.{read_turned, same_read}
use Rattle.dep_graph.specs.Numbers.{is_read}
use Rattle.dep_graph.specs.Records.{holds, reads_under}
use Rattle.dep_graph.specs.Sources.{column_in}
use Rattle.affected_search.specs.CellNumbers.{cell_at}
use Rattle.affected_search.specs.TouchedReads.{recorded, with_cells, with_passing, with_read}
use Rattle.affected_search.proofs.RowFlats.{drop_past, drop_there}

-- ---- one read

held_with : (q n : ReadNumber) (reads : List ReadNumber) → holds (with_read q reads) n ≡ (holds reads n || is_read n q)
held_with q n reads = by (holds reads q) refl
  where
    there : holds reads q ≡ true → (b : Bool) → is_read n q ≡ b → holds reads n ≡ (holds reads n || b)
    there h true is = let now : holds reads n ≡ true = subst (λ m. holds reads m ≡ true) (sym (same_read n q is)) h in now ∙ ap (λ b. b || true) (sym now)
    there h false is = sym (or_false (holds reads n))

    by : (b : Bool) → holds reads q ≡ b → holds (cond b reads (reads ++ q ∷ [])) n ≡ (holds reads n || is_read n q)
    by true h = there h (is_read n q) refl
    by false h = list_any-append (is_read n) reads (q ∷ []) ∙ ap (λ b. holds reads n || b) (or_false (is_read n q))

-- a read put behind
pub known_with : (keys reads new : List ReadNumber) (q : ReadNumber) → ((p : ReadNumber) → holds keys p ≡ holds reads p)
    → ((p : ReadNumber) → holds new p ≡ cond (is_read q p) true (holds keys p)) → (p : ReadNumber) → holds new p ≡ holds (reads ++ q ∷ []) p
known_with keys reads new q same put p =
    put p ∙ ap (cond (is_read q p) true) (same p) ∙ either (is_read q p) (holds reads p)
    ∙ ap (λ b. holds reads p || b) (read_turned q p ∙ sym (or_false (is_read p q))) ∙ sym (list_any-append (is_read p) reads (q ∷ []))
  where
    either : (a b : Bool) → cond a true b ≡ (b || a)
    either true true = refl
    either true false = refl
    either false b = sym (or_false b)

-- ---- a walk

module _ (test : ReadNumber → Bool) where
  held_passing : (n : ReadNumber) (qs reads : List ReadNumber) → holds (with_passing test reads qs) n ≡ (holds reads n || (test n && holds qs n))
  held_passing n [] reads = sym (never (test n) (holds reads n))
    where
      never : (t h : Bool) → (h || (t && false)) ≡ h
      never true h = or_false h
      never false h = or_false h
  held_passing n (q ∷ qs) reads = held_passing n qs (cond (test q) (with_read q reads) reads) ∙ ap (λ b. b || (test n && holds qs n)) (one (test q) refl (is_read n q) refl) ∙ spread (holds reads n) (test n) (is_read n q) (holds qs n)
    where
      one : (t : Bool) → test q ≡ t → (b : Bool) → is_read n q ≡ b → holds (cond t (with_read q reads) reads) n ≡ (holds reads n || (test n && is_read n q))
      one true on true is = held_with q n reads ∙ ap (λ v. holds reads n || (v && is_read n q)) (sym (ap test (same_read n q is) ∙ on))
      one true on false is = held_with q n reads ∙ ap (λ v. holds reads n || v) is ∙ ap (λ v. holds reads n || v) (sym (ap (λ v. test n && v) is ∙ off (test n)))
        where
          off : (t : Bool) → (t && false) ≡ false
          off true = refl
          off false = refl
      one false on true is = sym (ap (λ v. holds reads n || (v && is_read n q)) (ap test (same_read n q is) ∙ on) ∙ or_false (holds reads n))
      one false on false is = sym (ap (λ v. holds reads n || (test n && v)) is ∙ off (test n) (holds reads n))
        where
          off : (t h : Bool) → (h || (t && false)) ≡ h
          off true h = or_false h
          off false h = or_false h

      spread : (h t a b : Bool) → ((h || (t && a)) || (t && b)) ≡ (h || (t && (a || b)))
      spread true t a b = refl
      spread false true a b = refl
      spread false false a b = refl

  module _ (graph : Graph) where
    pub cells_append : (cs ds : List CellId) (reads : List ReadNumber) → with_cells test graph reads (cs ++ ds) ≡ with_cells test graph (with_cells test graph reads cs) ds
    cells_append [] ds reads = refl
    cells_append (c ∷ cs) ds reads = cells_append cs ds (with_passing test reads (recorded graph c))

    -- a column that has no number has no reads
    unread_column : (t c : List ℕ) (rows : List ℕ) (reads : List ReadNumber) → column_in graph.names t c ≡ None → reads ≡ with_cells test graph reads (map (cell_of t c) rows)
    unread_column t c [] reads none = refl
    unread_column t c (r ∷ rows) reads none =
        unread_column t c rows reads none
        ∙ ap (λ (o : Option ColumnNumber). with_cells test graph (with_passing test reads (elim (option_map {U = CellNumber} (λ k. cell_at k r) o) as (λ _. List ReadNumber) [ None ↦ [] | Some k ↦ reads_under graph.reads k ])) (map (cell_of t c) rows)) (sym none)

    pub unread_cells : (t : List ℕ) (g : Grid ColDef) (d : ColDef) (reads : List ReadNumber) → column_in graph.names t d.id ≡ None → reads ≡ with_cells test graph reads (cells_of_column t g d)
    unread_cells t g d reads none =
        elim d.info.is_formula as (λ b. reads ≡ with_cells test graph reads (cond b (map (cell_of t d.id) g.rows) [])) [ true ↦ unread_column t d.id g.rows reads none | false ↦ refl ]

    -- the cells of the next of some things
    pub things_next : {X : Type 0} (cells : X → List CellId) (flat : List X → List CellId) → ((x : X) (xs : List X) → flat (x ∷ xs) ≡ cells x ++ flat xs) → (xs : List X) (i j : ℕ) (x : X) (now new all : List ReadNumber)
        → j ≡ i + 1 → slice_get xs i ≡ Some x → new ≡ with_cells test graph now (cells x) → with_cells test graph now (flat (drop i xs)) ≡ all → with_cells test graph new (flat (drop j xs)) ≡ all
    things_next cells flat step xs i j x now new all next at put so =
        let after : j ≡ suc i = omega (arith, next) in
        ap (λ l. with_cells test graph l (flat (drop j xs))) put ∙ sym (cells_append (cells x) (flat (drop j xs)) now)
        ∙ ap (with_cells test graph now) (ap (λ n. cells x ++ flat (drop n xs)) after ∙ sym (step x (drop (suc i) xs)) ∙ ap flat (sym (drop_there xs i x at))) ∙ so

    pub things_end : {X : Type 0} (flat : List X → List CellId) → flat [] ≡ [] → (xs : List X) (i : ℕ) (now all : List ReadNumber) → slice_get xs i ≡ None → with_cells test graph now (flat (drop i xs)) ≡ all → now ≡ all
    things_end flat none xs i now all past so = sym (ap (with_cells test graph now) (ap flat (drop_past xs i past) ∙ none)) ∙ so

    -- the cells of a table that is read by its id
    pub table_read_by : (s : Document) → IsWhole s → (i : ℕ) (t : Table) (id : List ℕ) → slice_get s i ≡ Some t → id ≡ t.id → (now new : List ReadNumber)
        → new ≡ with_cells test graph now (cells_of_columns id (grid_at s id) (grid_at s id).columns) → new ≡ with_cells test graph now (cells_of_columns t.id t.grid t.grid.columns)
    table_read_by s whole i t id here same now new put =
        subst (λ (g : Grid ColDef). new ≡ with_cells test graph now (cells_of_columns t.id g g.columns)) (grid_there s whole i t here)
        (subst (λ n. new ≡ with_cells test graph now (cells_of_columns n (grid_at s n) (grid_at s n).columns)) same put)

    -- ---- what is listed

    stays : (n : ReadNumber) (cs : List CellId) (reads : List ReadNumber) → holds reads n ≡ true → holds (with_cells test graph reads cs) n ≡ true
    stays n [] reads h = h
    stays n (c ∷ cs) reads h = stays n cs (with_passing test reads (recorded graph c)) (held_passing n (recorded graph c) reads ∙ or_left (holds reads n) (test n && holds (recorded graph c) n) h)

    pub each_listed : (n : ReadNumber) → test n ≡ true → (c : CellId) → holds (recorded graph c) n ≡ true → (cs : List CellId) (reads : List ReadNumber) → IsIn c cs → holds (with_cells test graph reads cs) n ≡ true
    each_listed n on c has [] reads there = absurd there
    each_listed n on c has (d ∷ cs) reads (inl is) =
        stays n cs (with_passing test reads (recorded graph d)) (held_passing n (recorded graph d) reads ∙ or_right (holds reads n) (test n && holds (recorded graph d) n)
        (ap (λ v. v && holds (recorded graph d) n) on ∙ subst (λ e. holds (recorded graph e) n ≡ true) (sym is) has))
    each_listed n on c has (d ∷ cs) reads (inr later) = each_listed n on c has cs (with_passing test reads (recorded graph d)) later

    pub only_passing : (n : ReadNumber) (cs : List CellId) (reads : List ReadNumber) → (holds reads n ≡ true → test n ≡ true) → holds (with_cells test graph reads cs) n ≡ true → test n ≡ true
    only_passing n [] reads so h = so h
    only_passing n (c ∷ cs) reads so h = only_passing n cs (with_passing test reads (recorded graph c)) (λ e. elim (or_cases (holds reads n) (test n && holds (recorded graph c) n) (sym (held_passing n (recorded graph c) reads) ∙ e)) [
      | inl was ↦ so was
      | inr new ↦ (and_parts (test n) (holds (recorded graph c) n) new).0
    ]) h
