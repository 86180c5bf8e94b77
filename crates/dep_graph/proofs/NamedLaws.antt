-- What numbers stand for, by name.
use Rattle.std.proofs.Common.{ℕ, zero, suc, List, [], ◌∷◌, ◌++◌, ◌+◌, ◌<◌, take, get_or, length, map, Option, Some, None, Result, Ok, Err, OnOk, OnErr, slice_get, ◌≡◌, ◌⊎◌, inl, inr, refl, sym, ap, ◌∙◌, subst, Vec, Global, arith}
use Rattle.std.specs.Option.{option_map}
use Rattle.cell_types.specs.declared.cell.CellId.{CellId}
use Rattle.cell_types.specs.declared.cell.Read.TheVariants.{Cell, Key, Rows}
use Rattle.dep_graph.specs.declared.named.NamedRead.{NamedRead}
use Rattle.dep_graph.specs.declared.numbers.CellNumber.{CellNumber}
use Rattle.dep_graph.specs.declared.numbers.ColumnNumber.{ColumnNumber}
use Rattle.dep_graph.specs.declared.numbers.ReadNumber.{ReadNumber}
use Rattle.dep_graph.specs.declared.numbers.ReadNumber.TheVariants as read
use Rattle.dep_graph.specs.Graph.{Graph}
use Rattle.dep_graph.specs.Named.{Were, of_names, source_named, source_told, sources_told, told_or_none}
use Rattle.dep_graph.specs.Names.{IsGrown, number_in}
use Rattle.dep_graph.specs.Records.{reads_under}
use Rattle.dep_graph.specs.Sources.{AreNumbers, Source, all_source, cell_in, column_in, column_of, part_source, read_source, source_in, value_source}
use Rattle.dep_graph.specs.Were.{HadReads, IsLogged, IsNoted, IsNotedLast, IsNotedTold, IsReadBy}
use Rattle.dep_graph.proofs.NameLaws.{append_assoc, append_none, grown_same, number_there}

abbrev pub named_or_none : Option NamedRead → List NamedRead
named_or_none None = []
named_or_none (Some n) = n ∷ []

-- a read more, told by name
pub told_pushed : (new old : List NamedRead) (o : Option NamedRead) (x : Option Source) → option_map source_named o ≡ x → new ≡ old ++ named_or_none o → map source_named new ≡ map source_named old ++ told_or_none x
told_pushed new old o x is e = ap (map source_named) e ∙ by old o ∙ ap (λ y. map source_named old ++ told_or_none y) is
  where
    by : (old : List NamedRead) (o : Option NamedRead) → map source_named (old ++ named_or_none o) ≡ map source_named old ++ told_or_none (option_map source_named o)
    by [] None = refl
    by [] (Some n) = refl
    by (m ∷ old) o = ap (λ l. source_named m ∷ l) (by old o)

-- the first reads and the next one
pub told_more : (names : List (List ℕ)) (reads : List ReadNumber) (i : ℕ) (q : ReadNumber) → i < length reads → q ≡ get_or reads i q → sources_told names (take i reads) ++ told_or_none (source_told names q) ≡ sources_told names (take (i + 1) reads)
told_more names reads i q l e =
    let next : suc i ≡ i + 1 = omega arith in
    more reads i l e ∙ ap (λ n. sources_told names (take n reads)) next
  where
    more : (reads : List ReadNumber) (i : ℕ) → i < length reads → q ≡ get_or reads i q → sources_told names (take i reads) ++ told_or_none (source_told names q) ≡ sources_told names (take (suc i) reads)
    more [] i l e = absurd (omega arith)
    more (y ∷ reads) zero l e = ap (λ x. told_or_none (source_told names x)) e ∙ sym (append_none (told_or_none (source_told names y)))
    more (y ∷ reads) (suc i) l e = append_assoc (told_or_none (source_told names y)) (sources_told names (take i reads)) (told_or_none (source_told names q)) ∙ ap (λ r. told_or_none (source_told names y) ++ r) (more reads i (omega arith) e)

-- ---- what is told of numbers

mapped : {A B : Type 0} (f : A → B) (o : Option A) (y : B) → option_map f o ≡ Some y → (x : A) × (o ≡ Some x) × (f x ≡ y)
mapped f None y h = absurd (cc)
mapped f (Some x) y h = let same : f x ≡ y = cc in (x, refl, same)

module _ (names : List (List ℕ)) where
  column_parts : (u c : List ℕ) (k : ColumnNumber) → column_in names u c ≡ Some k → (number_in names u ≡ Some k.table) × (number_in names c ≡ Some k.column)
  column_parts u c k h = by (number_in names u) (number_in names c) refl refl h
    where
      by : (o p : Option ℕ) → number_in names u ≡ o → number_in names c ≡ p → column_of o p ≡ Some k → (number_in names u ≡ Some k.table) × (number_in names c ≡ Some k.column)
      by None p f g h = absurd (cc)
      by (Some a) None f g h = absurd (cc)
      by (Some a) (Some b) f g h =
          let table : a ≡ k.table = cc in
          let column : b ≡ k.column = cc in
          (f ∙ ap (λ n. Some n) table, g ∙ ap (λ n. Some n) column)

  of_column : {X : Type 0} (f : List ℕ → List ℕ → X) (t c : List ℕ) (k : ColumnNumber) → column_in names t c ≡ Some k → of_names f (slice_get names k.table) (slice_get names k.column) ≡ Some (f t c)
  of_column f t c k h =
      let p = column_parts t c k h in
      ap (λ o. of_names f o (slice_get names k.column)) (number_there names t k.table p.0) ∙ ap (of_names f (Some t)) (number_there names c k.column p.1)

  of_name : {X : Type 0} (f : List ℕ → X) (t : List ℕ) (n : ℕ) → number_in names t ≡ Some n → option_map f (slice_get names n) ≡ Some (f t)
  of_name f t n h = ap (option_map f) (number_there names t n h)

  told : (x : Source) (q : ReadNumber) → source_in names x ≡ Some q → source_told names q ≡ Some x
  told (read_source (Cell c)) q h =
      let m = mapped read.Cell (cell_in names c) q h in
      let n = mapped {B = CellNumber} (λ (j : ColumnNumber). record { column = j; row = c.row }) (column_in names c.table c.column) m.0 m.1 in
      ap (source_told names) (sym m.2) ∙ ap (λ k. source_told names (read.Cell k)) (sym n.2) ∙ of_column (λ t e. read_source (Cell (record { table = t; column = e; row = c.row }))) c.table c.column n.0 n.1
  told (read_source (Key t c)) q h = let m = mapped read.Key (column_in names t c) q h in ap (source_told names) (sym m.2) ∙ of_column (λ u e. read_source (Key u e)) t c m.0 m.1
  told (read_source (Rows t)) q h = let m = mapped read.Rows (number_in names t) q h in ap (source_told names) (sym m.2) ∙ of_name (λ u. read_source (Rows u)) t m.0 m.1
  told (all_source t) q h = let m = mapped read.All (number_in names t) q h in ap (source_told names) (sym m.2) ∙ of_name all_source t m.0 m.1
  told (value_source t c b) q h = let m = mapped (λ (k : ColumnNumber). read.Value (record { column = k; bucket = b })) (column_in names t c) q h in ap (source_told names) (sym m.2) ∙ of_column (λ u e. value_source u e b) t c m.0 m.1
  told (part_source t c b) q h = let m = mapped (λ (k : ColumnNumber). read.Part (record { column = k; bucket = b })) (column_in names t c) q h in ap (source_told names) (sym m.2) ∙ of_column (λ u e. part_source u e b) t c m.0 m.1

  -- the numbers of sources stand for these
  pub told_all : (xs : List Source) (qs : List ReadNumber) → AreNumbers names xs qs → sources_told names qs ≡ xs
  told_all [] [] h = refl
  told_all [] (q ∷ qs) h = absurd h
  told_all (x ∷ xs) [] h = absurd h
  told_all (x ∷ xs) (q ∷ qs) h = ap (λ o. told_or_none o ++ sources_told names qs) (told x q h.0) ∙ ap (λ l. x ∷ l) (told_all xs qs h.1)

-- ---- what a graph had of a cell

-- what its numbers stand for, once the cell has a number
pub had : (graph : Graph) → (names : List (List ℕ)) → IsGrown graph.names names → (c : CellId) (k : CellNumber) → cell_in names c ≡ Some k → HadReads graph c (sources_told names (reads_under graph.reads k))
had graph names grown c k here ys is = told_all names ys (reads_under graph.reads k) (is.numbers names k grown here)

module _ (graph : Graph) (names : List (List ℕ)) (grown : IsGrown graph.names names) (c : CellId) (k : CellNumber) (here : cell_in names c ≡ Some k) (log next : List Were) where
  pub noted_had : IsNotedTold names (reads_under graph.reads k) c log next → IsNotedLast graph c log next
  noted_had n = (n.0, n.1, n.2, subst (HadReads graph c) (sym n.3) (had graph names grown c k here))

  -- what was noted where the cell may read something else since
  pub logged_noted : (now : List (CellNumber × Vec ReadNumber Global)) → IsNoted names graph.reads now c k log next → IsLogged graph (record { names = names; reads = now }) c log next
  logged_noted now (inl same) = inl (same.0, record { reads = same.1; grown = grown })
  logged_noted now (inr told) = inr (noted_had told)

-- nothing is read by a cell without a number
pub noted_none : (graph : Graph) (c : CellId) → cell_in graph.names c ≡ None → (log next : List Were) → IsNotedTold graph.names [] c log next → IsNotedLast graph c log next
noted_none graph c none log next n = (n.0, n.1, n.2, λ ys is. n.3 ∙ sym (is.none none))

-- what holds after each of two outcomes
pub both_ways : {A E P Q R X : Type 0} (r : Result A E) → OnOk r P → OnErr r Q → OnErr r R → (P → X) → (Q → R → X) → X
both_ways (Ok x) p q t f g = f p
both_ways (Err e) p q t f g = g q t

-- what is noted where what a cell reads is forgotten
pub logged_forgotten : (graph : Graph) (now : List (CellNumber × Vec ReadNumber Global)) (c : CellId) (k : CellNumber) → cell_in graph.names c ≡ Some k → (log next : List Were) → {A E : Type 0} (r : Result A E)
    → OnOk r (IsNotedTold graph.names (reads_under graph.reads k) c log next) → OnErr r (now ≡ graph.reads) → OnErr r (next ≡ log) → IsLogged graph (record { names = graph.names; reads = now }) c log next
logged_forgotten graph now c k here log next r told same left =
    both_ways r told same left (λ t. inr (noted_had graph graph.names (grown_same graph.names) c k here log next t))
    (λ e l. inl (l, record { reads = λ j. ap (λ reads. reads_under reads j) e; grown = grown_same graph.names }))
