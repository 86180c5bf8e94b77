-- Numbers of cells and columns, and cells in rows that are listed by them.
use Rattle.std.proofs.Common.{ℕ, zero, suc, Bool, true, false, ◌&&◌, ◌||◌, nat_eq, List, [], ◌∷◌, map, length, ◌≡◌, ◌<◌, refl, sym, ap, ◌∙◌, Option, Some, None, slice_get, Bor, arith}
use Rattle.std.proofs.lemmas.Bool.{false≢true, or_left, or_right, eqb-true, eqb-false, eq-eqb}
use Rattle.std.proofs.lemmas.Option.{slice_get_within}
use Rattle.std.specs.List.{list_any}
use Rattle.std.specs.Option.{is_some, option_copied, option_map}
use Rattle.cell_types.specs.declared.cell.CellId.{CellId}
use Rattle.doc_model.specs.Rows.{has}
use Rattle.doc_model.proofs.Choices.{false_from}
use Rattle.affected_cells.proofs.Tests.{found_once}
use Rattle.dep_graph.proofs.NameLaws.{number_there}
use Rattle.dep_graph.specs.declared.numbers.CellNumber.{CellNumber}
use Rattle.dep_graph.specs.declared.numbers.ColumnNumber.{ColumnNumber}
use Rattle.dep_graph.specs.declared.numbers.ReadNumber.TheVariants as read
use Rattle.dep_graph.specs.Names.{number_in}
use Rattle.dep_graph.specs.Numbers.{is_column, is_read}
use Rattle.dep_graph.specs.Sources.{cell_in, column_in, column_of}
use Rattle.affected_search.specs.CellNumbers.{cell_at, column_at}

-- ---- tests

spread : (a b c : Bool) → ((a && b) || (a && c)) ≡ (a && (b || c))
spread true b c = refl
spread false b c = refl

pub mixed : (a b c d : Bool) → (((a && b) && d) || ((a && c) && d)) ≡ ((a && (b || c)) && d)
mixed false b c d = refl
mixed true false c d = refl
mixed true true c true = refl
mixed true true true false = refl
mixed true true false false = refl

pub nothing : (a : Bool) → false ≡ (a && false)
nothing true = refl
nothing false = refl

turned : (m n : ℕ) → nat_eq m n ≡ nat_eq n m
turned m n = by (nat_eq m n) refl
  where
    by : (b : Bool) → nat_eq m n ≡ b → b ≡ nat_eq n m
    by true is = sym (eq-eqb n m (sym (eqb-true m n is)))
    by false is = sym (false_from (nat_eq n m) (λ h. false≢true (sym is ∙ eq-eqb m n (sym (eqb-true n m h)))))

-- ---- cells in rows

pub cells_hold : (c : CellNumber) (k : ColumnNumber) (rows : List ℕ) → list_any (is_read (read.Cell c)) (map (λ r. read.Cell (cell_at k r)) rows) ≡ (is_column c.column k && has rows c.row)
cells_hold c k [] = nothing (is_column c.column k)
cells_hold c k (r ∷ rows) =
    ap (λ b. (is_column c.column k && nat_eq c.row r) || b) (cells_hold c k rows) ∙ spread (is_column c.column k) (nat_eq c.row r) (has rows c.row)
    ∙ ap (λ b. is_column c.column k && (b || has rows c.row)) (turned c.row r)

abbrev pub is_below : ℕ → ℕ → Bool
is_below zero c = false
is_below (suc n) c = is_below n c || nat_eq c n

smaller : (n c : ℕ) → c < suc n → nat_eq c n ≡ false → c < n
smaller n c l is = let apart = eqb-false c n is in omega arith

below_there : (n c : ℕ) → c < n → is_below n c ≡ true
below_there zero c l = absurd (omega arith)
below_there (suc n) c l = by (below_there n c) (nat_eq c n) refl
  where
    by : (c < n → is_below n c ≡ true) → (b : Bool) → nat_eq c n ≡ b → (is_below n c || nat_eq c n) ≡ true
    by later true is = or_right (is_below n c) (nat_eq c n) is
    by later false is = or_left (is_below n c) (nat_eq c n) (later (smaller n c l is))

-- ---- numbers of names

pub mapped : {A B : Type 0} (f : A → B) (o : Option A) (y : B) → option_map f o ≡ Some y → (x : A) × (o ≡ Some x) × (f x ≡ y)
mapped f None y h = absurd (cc)
mapped f (Some x) y h = (x, refl, found_once (f x) y h)

module _ (names : List (List ℕ)) where
  pub column_parts : (u c : List ℕ) (k : ColumnNumber) → column_in names u c ≡ Some k → (number_in names u ≡ Some k.table) × (number_in names c ≡ Some k.column)
  column_parts u c k h = by (number_in names u) (number_in names c) refl refl h
    where
      by : (o p : Option ℕ) → number_in names u ≡ o → number_in names c ≡ p → column_of o p ≡ Some k → (number_in names u ≡ Some k.table) × (number_in names c ≡ Some k.column)
      by None p f g h = absurd (cc)
      by (Some a) None f g h = absurd (cc)
      by (Some a) (Some b) f g h =
          let e : column_at a b ≡ k = found_once (column_at a b) k h in
          (f ∙ ap (λ (j : ColumnNumber). Some j.table) e, g ∙ ap (λ (j : ColumnNumber). Some j.column) e)

  pub cell_parts : (c : CellId) (k : CellNumber) → cell_in names c ≡ Some k → (number_in names c.table ≡ Some k.column.table) × (number_in names c.column ≡ Some k.column.column) × (k.row ≡ c.row)
  cell_parts c k h =
      let m = mapped (λ (j : ColumnNumber). cell_at j c.row) (column_in names c.table c.column) k h in
      let p = column_parts c.table c.column m.0 m.1 in
      (p.0 ∙ ap (λ (j : CellNumber). Some j.column.table) m.2, p.1 ∙ ap (λ (j : CellNumber). Some j.column.column) m.2, sym (ap (λ (j : CellNumber). j.row) m.2))

  -- the number of a column that is read is below the count of names
  pub column_below : (u c : List ℕ) (k : ColumnNumber) → column_in names u c ≡ Some k → is_below (length names) k.column ≡ true
  column_below u c k h = below_there (length names) k.column (slice_get_within names k.column c (number_there names c k.column (column_parts u c k h).1))

pub name_below : (names : List (List ℕ)) (o : Option (Bor (List ℕ))) (n : ℕ) → option_copied o ≡ slice_get names n → is_some o ≡ true → n < length names
name_below names None n e h = absurd (false≢true h)
name_below names (Some b) n e h = slice_get_within names n b.now (sym e)
