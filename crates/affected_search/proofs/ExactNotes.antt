-- A graph that has what cells note, and no more.
use Rattle.std.proofs.Common.{ℕ, Bool, true, false, cond, List, [], ◌∷◌, ◌++◌, map, ◌≡◌, inl, inr, refl, sym, ap, ◌∙◌, subst, Option, Some, None}
use Rattle.std.proofs.lemmas.Bool.{false≢true, or_cases, or_left, or_right}
use Rattle.std.specs.List.{AllByRecursion, list_any}
use Rattle.std.specs.Option.{is_some, option_map}
use Rattle.cell_types.specs.declared.cell.CellId.{CellId}
use Rattle.cell_types.specs.declared.cell.KeyItem.{KeyItem}
use Rattle.cell_types.specs.declared.cell.Read.{Read}
use Rattle.cell_types.specs.declared.cell.Read.TheVariants.{Cell, Key, Rows}
use Rattle.formula_eval.specs.declared.note.Note.{Note}
use Rattle.formula_eval.proofs.TextLaws.{text_notes}
use Rattle.lookup_index.specs.Buckets.{bucket_of}
use Rattle.recalc.specs.Sheet.{Sheet, over, reads, reads_by, row_of}
use Rattle.affected_cells.specs.Noted.{notes, notes_by}
use Rattle.affected_cells.proofs.Tests.{found_once}
use Rattle.affected_cells.proofs.Unaffected.{all_values}
use Rattle.dep_graph.proofs.NameLaws.{cell_stays, grown_same, grown_twice, numbers_stay}
use Rattle.dep_graph.specs.declared.numbers.CellNumber.{CellNumber}
use Rattle.dep_graph.specs.declared.numbers.ColumnNumber.{ColumnNumber}
use Rattle.dep_graph.specs.declared.numbers.ReadNumber.{ReadNumber}
use Rattle.dep_graph.specs.declared.numbers.ReadNumber.TheVariants as read
use Rattle.dep_graph.specs.Graph.{Graph, IsDropped, IsSet}
use Rattle.dep_graph.specs.Names.{IsGrown, number_in}
use Rattle.dep_graph.specs.NumberLaws.{cell_itself, read_itself, same_cell, same_read}
use Rattle.dep_graph.specs.Numbers.{is_cell, is_read}
use Rattle.dep_graph.specs.Records.{holds, reads_under}
use Rattle.dep_graph.specs.Sources.{AreNumbers, Source, all_source, cell_in, column_in, part_source, read_source, source_in, source_of_key, sources, sources_of, sources_of_keys, value_source}
use Rattle.affected_search.specs.ExactNotes.{DroppedExactLaw, ExactLaw, HasNotes, HasNotesOf, KeepsExact, KeptExactLaw, NoneExactLaw}
use Rattle.affected_search.specs.Listed.{HoldsNoMore, read_beside}
use Rattle.affected_search.specs.Noted.{HoldsNotesOf}
use Rattle.affected_search.specs.Sheets.{has_number}
use Rattle.affected_search.proofs.NumbersHeld.{numbers_held}
use Rattle.affected_search.proofs.CellNumbers.{mapped}
use Rattle.affected_search.proofs.UpkeepLaws.{one_cell}

-- ---- at least

some_there : {X : Type 0} (o : Option X) → is_some o ≡ true → (x : X) × (o ≡ Some x)
some_there None h = absurd (false≢true h)
some_there (Some x) h = (x, refl)

pub holds_notes : (graph : Graph) (s : Sheet) (c : CellId) → HasNotesOf graph s c → is_some (s.formula c) ≡ true → HoldsNotesOf graph s c
holds_notes graph s c has there =
    let k = some_there (cell_in graph.names c) (has.number there) in
    (k.0, k.1, numbers_held graph.names (sources (notes s c)) (reads_under graph.reads k.0) (has.reads graph.names k.0 (grown_same graph.names) k.1))

-- ---- and no more

each_source : (P : Source → Type 0) (xs ys : List Source) → AllByRecursion P xs → AllByRecursion P ys → AllByRecursion P (xs ++ ys)
each_source P [] ys h g = g
each_source P (x ∷ xs) ys h g = (h.0, each_source P xs ys h.1 g)

each_key : (P : Source → Type 0) (t : List ℕ) (R : KeyItem → Type 0) → ((k : KeyItem) → R k → P (source_of_key t k)) → (ks : List KeyItem) → AllByRecursion R ks → AllByRecursion P (map (source_of_key t) ks)
each_key P t R h [] g = tt
each_key P t R h (k ∷ ks) g = (h k g.0, each_key P t R h ks g.1)

module _ (names : List (List ℕ)) (reads : List Read) where
  -- the number is that of one of the reads
  abbrev IsReadBy : ReadNumber → Type 0
  IsReadBy n = list_any (has_number names n) reads ≡ true

  abbrev IsMade : Read → Type 0
  IsMade q = (n : ReadNumber) → source_in names (read_source q) ≡ Some n → IsReadBy n

  -- beside what has a number there is a read
  abbrev IsBesideRead : Source → Type 0
  IsBesideRead x = (n : ReadNumber) → source_in names x ≡ Some n → IsReadBy (read_beside n)

  of_read : (q : Read) → IsMade q → IsBesideRead (read_source q)
  of_read (Cell c) made n is = let w = mapped read.Cell (cell_in names c) n is in subst (λ m. IsReadBy (read_beside m)) w.2 (made (read.Cell w.0) (ap (option_map read.Cell) w.1))
  of_read (Key u c) made n is = let w = mapped read.Key (column_in names u c) n is in subst (λ m. IsReadBy (read_beside m)) w.2 (made (read.Key w.0) (ap (option_map read.Key) w.1))
  of_read (Rows u) made n is = let w = mapped read.Rows (number_in names u) n is in subst (λ m. IsReadBy (read_beside m)) w.2 (made (read.Rows w.0) (ap (option_map read.Rows) w.1))

  of_all : (t : List ℕ) → IsMade (Rows t) → IsBesideRead (all_source t)
  of_all t made n is = let w = mapped read.All (number_in names t) n is in subst (λ m. IsReadBy (read_beside m)) w.2 (made (read.Rows w.0) (ap (option_map read.Rows) w.1))

  of_key : (t : List ℕ) (k : KeyItem) → IsMade (Key t k.column) → IsBesideRead (source_of_key t k)
  of_key t k made = by k.contains
    where
      by : (b : Bool) → IsBesideRead (cond b (part_source t k.column (bucket_of k.value)) (value_source t k.column (bucket_of k.value)))
      by true n is =
          let w = mapped (λ (j : ColumnNumber). read.Part (record { column = j; bucket = bucket_of k.value })) (column_in names t k.column) n is in
          subst (λ m. IsReadBy (read_beside m)) w.2 (made (read.Key w.0) (ap (option_map read.Key) w.1))
      by false n is =
          let w = mapped (λ (j : ColumnNumber). read.Value (record { column = j; bucket = bucket_of k.value })) (column_in names t k.column) n is in
          subst (λ m. IsReadBy (read_beside m)) w.2 (made (read.Key w.0) (ap (option_map read.Key) w.1))

  of_keys : (t : List ℕ) (ks : List KeyItem) → IsMade (Rows t) → AllByRecursion (λ k. IsMade (Key t k.column)) ks → AllByRecursion IsBesideRead (sources_of_keys t ks)
  of_keys t [] rows made = (of_all t rows, tt)
  of_keys t (k ∷ ks) rows made = each_key IsBesideRead t (λ j. IsMade (Key t j.column)) (of_key t) (k ∷ ks) made

  abbrev IsBesideNote : Note → Type 0
  IsBesideNote n = AllByRecursion IsBesideRead (sources_of n)

  of_notes : (ns : List Note) → AllByRecursion IsBesideNote ns → AllByRecursion IsBesideRead (sources ns)
  of_notes [] h = tt
  of_notes (n ∷ ns) h = each_source IsBesideRead (sources_of n) (sources ns) h.0 (of_notes ns h.1)

  -- a number that is held is of what stands beside a read
  held_beside : (xs : List Source) (numbers : List ReadNumber) → AllByRecursion IsBesideRead xs → AreNumbers names xs numbers → (n : ReadNumber) → holds numbers n ≡ true → IsReadBy (read_beside n)
  held_beside [] [] all are n h = absurd (false≢true h)
  held_beside [] (m ∷ numbers) all are n h = absurd are
  held_beside (x ∷ xs) [] all are n h = absurd are
  held_beside (x ∷ xs) (m ∷ numbers) all are n h = elim (or_cases (is_read n m) (holds numbers n) h) [
    | inl here ↦ subst (λ p. IsReadBy (read_beside p)) (sym (same_read n m here)) (all.0 m are.0)
    | inr later ↦ held_beside xs numbers all.1 are.1 n later
  ]

-- each of the reads is among them
all_made : (names : List (List ℕ)) (all rs : List Read) → ((p : Read → Bool) → list_any p rs ≡ true → list_any p all ≡ true) → AllByRecursion (IsMade names all) rs
all_made names all [] h = tt
all_made names all (q ∷ rs) h = (
  λ n is. h (has_number names n) (or_left (has_number names n q) (list_any (has_number names n) rs) (ap (λ o. elim o as (λ _. Bool) [ None ↦ false | Some m ↦ is_read m n ]) is ∙ read_itself n)),
  all_made names all rs (λ p there. h p (or_right (p q) (list_any p rs) there)),
)

notes_beside : (names : List (List ℕ)) (s : Sheet) (c : CellId) → AllByRecursion (IsBesideRead names (reads s c)) (sources (notes s c))
notes_beside names s c = of_notes names (reads s c) (notes s c) (by (s.formula c) (all_made names (reads s c) (reads s c) (λ p h. h)))
  where
    by : (o : Option (List ℕ)) → AllByRecursion (IsMade names (reads s c)) (reads_by s (all_values s) c o) → AllByRecursion (IsBesideNote names (reads s c)) (notes_by s (all_values s) c o)
    by None g = tt
    by (Some f) g = text_notes (IsMade names (reads s c)) (IsBesideNote names (reads s c)) (λ q made. (of_read names (reads s c) q made, tt)) (λ t made. (of_all names (reads s c) t made, tt)) (λ t ks rows keys. of_keys names (reads s c) t ks rows keys)
        (over s (all_values s)) (row_of c) f g

pub no_more : (graph : Graph) (s : Sheet) → HasNotes graph s → HoldsNoMore graph s
no_more graph s has c k n is h =
    held_beside graph.names (reads s c) (sources (notes s c)) (reads_under graph.reads k) (notes_beside graph.names s c) ((has c).reads graph.names k (grown_same graph.names) is) n h

pub exact : ExactLaw
exact graph s has = (λ c f e. holds_notes graph s c (has c) (ap is_some e), no_more graph s has)

-- ---- what is kept

number_kept : (old new : List (List ℕ)) → IsGrown old new → (c : CellId) → is_some (cell_in old c) ≡ true → is_some (cell_in new c) ≡ true
number_kept old new grown c there = let k = some_there (cell_in old c) there in ap is_some (cell_stays old new grown c k.0 k.1)

pub kept_exact : KeptExactLaw
kept_exact s old new kept c has = record {
  number = λ there. number_kept old.names new.names kept.grown c (has.number there);
  reads = λ names k grown at. subst (AreNumbers names (sources (notes s c))) (sym (kept.reads k)) (has.reads names k (grown_twice old.names new.names names kept.grown grown) at);
}

-- ---- what is recorded

module _ (old new : Graph) (s : Sheet) (reader : CellId) (given : List Note) (set : IsSet old new reader given) (same : notes s reader ≡ given) where
  set_here : HasNotesOf new s reader
  set_here = record {
    number = λ there. ap is_some set.is_cell;
    reads = λ names k grown at.
        let one : set.cell ≡ k = found_once set.cell k (sym (cell_stays new.names names grown reader set.cell set.is_cell) ∙ at) in
        let numbers : AreNumbers names (sources given) set.reads = numbers_stay new.names names grown (sources given) set.reads set.are_reads in
        let recorded : reads_under new.reads set.cell ≡ set.reads = set.recorded set.cell ∙ ap (λ b. cond b set.reads (reads_under old.reads set.cell)) (cell_itself set.cell) in
        subst (λ j. AreNumbers names (sources (notes s reader)) (reads_under new.reads j)) one
        (subst (λ ns. AreNumbers names (sources ns) (reads_under new.reads set.cell)) (sym same) (subst (AreNumbers names (sources given)) (sym recorded) numbers));
  }

  set_others : KeepsExact s old new
  set_others c has = record {
    number = λ there. number_kept old.names new.names set.grown c (has.number there);
    reads = λ names k grown at. by names k grown at (is_cell set.cell k) refl;
  }
    where
      by : (names : List (List ℕ)) (k : CellNumber) → IsGrown new.names names → cell_in names c ≡ Some k → (b : Bool) → is_cell set.cell k ≡ b → AreNumbers names (sources (notes s c)) (reads_under new.reads k)
      by names k grown at true is =
          let number : cell_in names reader ≡ Some k = cell_stays new.names names grown reader set.cell set.is_cell ∙ ap (λ j. Some j) (same_cell set.cell k is) in
          let one : reader ≡ c = one_cell names reader c k number at in
          subst (λ d. AreNumbers names (sources (notes s d)) (reads_under new.reads k)) one (set_here.reads names k grown number)
      by names k grown at false is =
          let left : reads_under new.reads k ≡ reads_under old.reads k = set.recorded k ∙ ap (λ b. cond b set.reads (reads_under old.reads k)) is in
          subst (AreNumbers names (sources (notes s c))) (sym left) (has.reads names k (grown_twice old.names new.names names set.grown grown) at)

pub set_exact : (old new : Graph) (s : Sheet) (reader : CellId) (given : List Note) → IsSet old new reader given → notes s reader ≡ given → HasNotesOf new s reader × KeepsExact s old new
set_exact old new s reader given set same = (set_here old new s reader given set same, set_others old new s reader given set same)

-- ---- what is dropped

pub no_notes : (s : Sheet) (c : CellId) → s.formula c ≡ None → notes s c ≡ []
no_notes s c plain = ap (notes_by s (all_values s) c) plain

-- of a cell without a formula there is nothing to have
nothing : (graph : Graph) (s : Sheet) (c : CellId) → s.formula c ≡ None → ((names : List (List ℕ)) (k : CellNumber) → IsGrown graph.names names → cell_in names c ≡ Some k → reads_under graph.reads k ≡ []) → HasNotesOf graph s c
nothing graph s c plain none = record {
  number = λ there. absurd (false≢true (ap is_some (sym plain) ∙ there));
  reads = λ names k grown at. subst (λ ns. AreNumbers names (sources ns) (reads_under graph.reads k)) (sym (no_notes s c plain)) (subst (AreNumbers names []) (sym (none names k grown at)) tt);
}

pub none_exact : NoneExactLaw
none_exact s graph none c plain = nothing graph s c plain (λ names k grown at. none k)

module _ (s : Sheet) (old new : Graph) (reader : CellId) (dropped : IsDropped old new reader) (plain : s.formula reader ≡ None) where
  was_grown : (names : List (List ℕ)) → IsGrown new.names names → IsGrown old.names names
  was_grown names grown = subst (λ n. IsGrown n names) dropped.names grown

  none_left : (names : List (List ℕ)) (k : CellNumber) → IsGrown new.names names → cell_in names reader ≡ Some k → reads_under new.reads k ≡ []
  none_left names k grown at = by (cell_in old.names reader) refl
    where
      by : (o : Option CellNumber) → cell_in old.names reader ≡ o → reads_under new.reads k ≡ []
      by None is = dropped.unknown is k ∙ dropped.later is names k (was_grown names grown) at
      by (Some j) is =
          let one : j ≡ k = found_once j k (sym (cell_stays old.names names (was_grown names grown) reader j is) ∙ at) in
          dropped.known j is k ∙ ap (λ b. cond b [] (reads_under old.reads k)) (subst (λ d. is_cell j d ≡ true) one (cell_itself j))

  drop_here : HasNotesOf new s reader
  drop_here = nothing new s reader plain none_left

  drop_others : KeepsExact s old new
  drop_others c has = record {
    number = λ there. subst (λ n. is_some (cell_in n c) ≡ true) (sym dropped.names) (has.number there);
    reads = λ names k grown at. by names k grown at (cell_in old.names reader) refl;
  }
    where
      was : (names : List (List ℕ)) (k : CellNumber) → IsGrown new.names names → cell_in names c ≡ Some k → AreNumbers names (sources (notes s c)) (reads_under old.reads k)
      was names k grown at = has.reads names k (was_grown names grown) at

      known : (names : List (List ℕ)) (k : CellNumber) → IsGrown new.names names → cell_in names c ≡ Some k → (j : CellNumber) → cell_in old.names reader ≡ Some j → (b : Bool) → is_cell j k ≡ b → AreNumbers names (sources (notes s c)) (reads_under new.reads k)
      known names k grown at j is true same =
          let number : cell_in names reader ≡ Some k = cell_stays old.names names (was_grown names grown) reader j is ∙ ap (λ i. Some i) (same_cell j k same) in
          let one : reader ≡ c = one_cell names reader c k number at in
          subst (λ d. AreNumbers names (sources (notes s d)) (reads_under new.reads k)) one (drop_here.reads names k grown number)
      known names k grown at j is false apart = subst (AreNumbers names (sources (notes s c))) (sym (dropped.known j is k ∙ ap (λ b. cond b [] (reads_under old.reads k)) apart)) (was names k grown at)

      by : (names : List (List ℕ)) (k : CellNumber) → IsGrown new.names names → cell_in names c ≡ Some k → (o : Option CellNumber) → cell_in old.names reader ≡ o → AreNumbers names (sources (notes s c)) (reads_under new.reads k)
      by names k grown at None is = subst (AreNumbers names (sources (notes s c))) (sym (dropped.unknown is k)) (was names k grown at)
      by names k grown at (Some j) is = known names k grown at j is (is_cell j k) refl

pub dropped_exact : DroppedExactLaw
dropped_exact s old new reader dropped plain = record { here = drop_here s old new reader dropped plain; others = drop_others s old new reader dropped plain }

-- ---- documents in which it is the same

-- what notes the same has the same
pub same_exact : (graph : Graph) (s t : Sheet) (c : CellId) → is_some (s.formula c) ≡ is_some (t.formula c) → notes s c ≡ notes t c → HasNotesOf graph s c → HasNotesOf graph t c
same_exact graph s t c there same has = record {
  number = λ h. has.number (there ∙ h);
  reads = λ names k grown at. subst (λ ns. AreNumbers names (sources ns) (reads_under graph.reads k)) same (has.reads names k grown at);
}
