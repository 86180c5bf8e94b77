-- What is reached by the graph of a sheet's reads is among the affected cells.
use Rattle.std.proofs.Common.{ℕ, Bool, true, false, ◌&&◌, ◌||◌, List, [], ◌∷◌, ◌≡◌, inl, inr, refl, sym, ap, ◌∙◌, subst, Option, Some, None}
use Rattle.std.proofs.lemmas.Bool.{false≢true, true≢false, or_cases, or_left, or_right, and_from}
use Rattle.std.proofs.lemmas.Slice.Eq.{bytes_eq-Decides}
use Rattle.std.specs.List.{list_any}
use Rattle.std.specs.Option.{option_map, is_some}
use Rattle.std.specs.Str.{bytes_eq}
use Rattle.cell_types.specs.declared.cell.CellId.{CellId}
use Rattle.cell_types.specs.declared.cell.Read.{Read}
use Rattle.cell_types.specs.declared.cell.Read.TheVariants.{Cell, Key, Rows}
use Rattle.doc_model.specs.Apply.{apply}
use Rattle.recalc.specs.Cells.{cell_of}
use Rattle.recalc.specs.Evaluated.{sheet_of}
use Rattle.recalc.specs.Sheet.{Sheet, IsIn, IsListed, reads}
use Rattle.recalc.proofs.SheetLemmas.{is_sheet}
use Rattle.affected_cells.specs.Affected.{affected_in, is_fresh_cell, names_one}
use Rattle.affected_cells.specs.Touched.{is_touched}
use Rattle.affected_cells.specs.TouchedRight.{IsSameCell, IsTouchedRight}
use Rattle.affected_cells.proofs.Touches.{affected_rests}
use Rattle.dep_graph.specs.declared.numbers.CellNumber.{CellNumber}
use Rattle.dep_graph.specs.declared.numbers.ColumnNumber.{ColumnNumber}
use Rattle.dep_graph.specs.declared.numbers.ReadNumber.{ReadNumber}
use Rattle.dep_graph.specs.declared.numbers.ReadNumber.TheVariants as read
use Rattle.dep_graph.specs.Graph.{Graph}
use Rattle.dep_graph.specs.Names.{number_in}
use Rattle.dep_graph.specs.NumberLaws.{same_cell, same_column}
use Rattle.dep_graph.specs.Numbers.{is_read}
use Rattle.dep_graph.specs.Records.{holds, reads_under}
use Rattle.dep_graph.specs.Sources.{cell_in, column_in}
use Rattle.affected_search.specs.Reached.{ReadLists, reads_one, IsReached, from_touched, from_cell}
use Rattle.affected_search.specs.Sheets.{has_number, HoldsOnlyReads, ListsOnlyTouched, WithinLaw}

pub any_weaker : {X : Type 0} (p q : X → Bool) → ((x : X) → p x ≡ true → q x ≡ true) → (xs : List X) → list_any p xs ≡ true → list_any q xs ≡ true
any_weaker p q h [] e = absurd (false≢true e)
any_weaker p q h (x ∷ xs) e = elim (or_cases (p x) (list_any p xs) e) [
  | inl here ↦ or_left (q x) (list_any q xs) (h x here)
  | inr later ↦ or_right (q x) (list_any q xs) (any_weaker p q h xs later)
]

any_in : (p : CellId → Bool) (xs : List CellId) (c : CellId) → IsIn c xs → p c ≡ true → list_any p xs ≡ true
any_in p [] c i e = absurd i
any_in p (x ∷ xs) c (inl is) e = or_left (p x) (list_any p xs) (subst (λ y. p y ≡ true) (sym is) e)
any_in p (x ∷ xs) c (inr i) e = or_right (p x) (list_any p xs) (any_in p xs c i e)

-- a cell that is reached has a read
one_read : (reads : ReadLists) (qs : List ReadNumber) (k : CellNumber) → reads_one reads qs k ≡ true → (n : ReadNumber) × (holds (reads_under reads k) n ≡ true)
one_read reads [] k h = absurd (false≢true h)
one_read reads (q ∷ qs) k h = elim (or_cases (holds (reads_under reads k) q) (reads_one reads qs k) h) [
  | inl here ↦ (q, here)
  | inr later ↦ one_read reads qs k later
]

reached_read : (reads : ReadLists) (touched : List ReadNumber) (k : CellNumber) → IsReached reads touched k → (n : ReadNumber) × (holds (reads_under reads k) n ≡ true)
reached_read reads touched k (from_touched h) = one_read reads touched k h
reached_read reads touched k (from_cell d r h) = one_read reads (read.Cell d ∷ read.Key d.column ∷ []) k h

module _ (graph : Graph) (numbers : List ReadNumber) (s t : Sheet) (fresh : CellId → Bool) (touched : Read → Bool) (listed : IsListed t) (right : IsTouchedRight s t fresh touched)
    (only : HoldsOnlyReads graph s) (lists : ListsOnlyTouched graph s touched numbers) where
  abbrev A : CellId → Bool
  A = affected_in s t fresh touched

  abbrev is_named : Read → Bool
  is_named q = touched q || names_one s t fresh touched A q

  by_reads : (c : CellId) (f : List ℕ) → t.formula c ≡ Some f → list_any is_named (reads s c) ≡ true → A c ≡ true
  by_reads c f e h =
      ap (λ p. p c) (affected_rests s t fresh touched listed)
      ∙ and_from (is_some (t.formula c)) (A c || (fresh c || list_any is_named (reads s c))) (ap is_some e) (or_right (A c) (fresh c || list_any is_named (reads s c)) (or_right (fresh c) (list_any is_named (reads s c)) h))

  -- all formula cells of the number are affected
  abbrev IsFound : CellNumber → Type 0
  IsFound k = (c : CellId) (f : List ℕ) → cell_in graph.names c ≡ Some k → t.formula c ≡ Some f → A c ≡ true

  module _ (d : CellNumber) (n : ReadNumber) (has : holds (reads_under graph.reads d) n ≡ true) (found : IsFound d) where
    -- a cell that was a formula cell and tells the same is one still
    same_found : (e : CellId) → cell_in graph.names e ≡ Some d → IsSameCell s t fresh touched e → A e ≡ true
    same_found e is (inl h) = absurd (true≢false (sym (only.formula e d n is has) ∙ ap is_some h.0))
    same_found e is (inr h) = found e h.0 is h.2

    cell_named : (q : Read) → has_number graph.names (read.Cell d) q ≡ true → is_named q ≡ true
    cell_named (Cell e) h = by (cell_in graph.names e) refl h
      where
        by_touch : cell_in graph.names e ≡ Some d → (b : Bool) → touched (Cell e) ≡ b → (b || A e) ≡ true
        by_touch is true on = refl
        by_touch is false off = same_found e is (right.cell e off).1

        by : (o : Option CellNumber) → cell_in graph.names e ≡ o → elim (option_map read.Cell o) as (λ _. Bool) [ None ↦ false | Some m ↦ is_read m (read.Cell d) ] ≡ true → is_named (Cell e) ≡ true
        by None is h = absurd (false≢true h)
        by (Some k) is h = by_touch (is ∙ ap (λ j. Some j) (same_cell k d h)) (touched (Cell e)) refl
    cell_named (Key u c) h = by (column_in graph.names u c) h
      where
        by : (o : Option ColumnNumber) → elim (option_map read.Key o) as (λ _. Bool) [ None ↦ false | Some m ↦ is_read m (read.Cell d) ] ≡ true → is_named (Key u c) ≡ true
        by None h = absurd (false≢true h)
        by (Some j) h = absurd (false≢true h)
    cell_named (Rows u) h = by (number_in graph.names u) h
      where
        by : (o : Option ℕ) → elim (option_map read.Rows o) as (λ _. Bool) [ None ↦ false | Some m ↦ is_read m (read.Cell d) ] ≡ true → is_named (Rows u) ≡ true
        by None h = absurd (false≢true h)
        by (Some j) h = absurd (false≢true h)

    key_named : (q : Read) → has_number graph.names (read.Key d.column) q ≡ true → is_named q ≡ true
    key_named (Cell e) h = by (cell_in graph.names e) h
      where
        by : (o : Option CellNumber) → elim (option_map read.Cell o) as (λ _. Bool) [ None ↦ false | Some m ↦ is_read m (read.Key d.column) ] ≡ true → is_named (Cell e) ≡ true
        by None h = absurd (false≢true h)
        by (Some j) h = absurd (false≢true h)
    key_named (Key u c) h = by (column_in graph.names u c) refl h
      where
        by_touch : cell_in graph.names (cell_of u c d.row) ≡ Some d → (b : Bool) → touched (Key u c) ≡ b → (b || list_any (λ e. bytes_eq e.table u && bytes_eq e.column c && A e) t.cells) ≡ true
        by_touch is true on = refl
        by_touch is false off = elim ((right.key u c off).1 d.row) [
          | inl w ↦ absurd (true≢false (sym (only.formula (cell_of u c d.row) d n is has) ∙ ap is_some w.0))
          | inr w ↦ any_in (λ e. bytes_eq e.table u && bytes_eq e.column c && A e) t.cells (cell_of u c d.row) (listed (cell_of u c d.row) w.0 w.2)
              (and_from (bytes_eq u u && bytes_eq c c) (A (cell_of u c d.row)) (and_from (bytes_eq u u) (bytes_eq c c) ((bytes_eq-Decides u u).1 refl) ((bytes_eq-Decides c c).1 refl)) (found (cell_of u c d.row) w.0 is w.2))
        ]

        by : (o : Option ColumnNumber) → column_in graph.names u c ≡ o → elim (option_map read.Key o) as (λ _. Bool) [ None ↦ false | Some m ↦ is_read m (read.Key d.column) ] ≡ true → is_named (Key u c) ≡ true
        by None is h = absurd (false≢true h)
        by (Some j) is h =
            let numbered : ColumnNumber → CellNumber = λ i. record { column = i; row = d.row } in
            by_touch (ap (option_map numbered) is ∙ ap (λ i. Some (numbered i)) (same_column j d.column h)) (touched (Key u c)) refl
    key_named (Rows u) h = by (number_in graph.names u) h
      where
        by : (o : Option ℕ) → elim (option_map read.Rows o) as (λ _. Bool) [ None ↦ false | Some m ↦ is_read m (read.Key d.column) ] ≡ true → is_named (Rows u) ≡ true
        by None h = absurd (false≢true h)
        by (Some j) h = absurd (false≢true h)

    -- a reader of the cell
    reader_found : (k : CellNumber) → reads_one graph.reads (read.Cell d ∷ read.Key d.column ∷ []) k ≡ true → IsFound k
    reader_found k h c f is e = by_reads c f e (elim (or_cases (holds (reads_under graph.reads k) (read.Cell d)) (holds (reads_under graph.reads k) (read.Key d.column) || false) h) [
      | inl here ↦ any_weaker (has_number graph.names (read.Cell d)) is_named cell_named (reads s c) (only.cell c k d is here)
      | inr later ↦ elim (or_cases (holds (reads_under graph.reads k) (read.Key d.column)) false later) [
        | inl here ↦ any_weaker (has_number graph.names (read.Key d.column)) is_named key_named (reads s c) (only.key c k d.column is here)
        | inr none ↦ absurd (false≢true none)
      ]
    ])

  pub reached_found : (k : CellNumber) → IsReached graph.reads numbers k → IsFound k
  reached_found k (from_touched h) = λ c f is e. by_reads c f e (any_weaker touched is_named (λ q on. or_left (touched q) (names_one s t fresh touched A q) on) (reads s c) (lists c k is h))
  reached_found k (from_cell d r h) = let has = reached_read graph.reads numbers d r in reader_found d has.0 has.1 (reached_found d r) k h

pub within_law : WithinLaw
within_law s a graph numbers right only lists c k f e is r =
    reached_found graph numbers (sheet_of s) (sheet_of (apply s a)) (is_fresh_cell s a) (is_touched s a) (is_sheet (apply s a)).listed right only lists k r c f is e
