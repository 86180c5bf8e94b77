-- Only cells whose table and column have numbers have reads.
use Rattle.std.proofs.Common.{ℕ, Bool, true, false, cond, List, [], Result, Ok, Err, OnOk, OnErr, ◌≡◌, ◌<◌, ◌≤◌, ◌⊎◌, inl, inr, length, refl, sym, ap, ◌∙◌, subst, Option, Some, None, Vec, Global, arith}
use Rattle.std.proofs.lemmas.Option.{slice_get_within}
use Rattle.std.specs.Option.{option_map}
use Rattle.cell_types.specs.declared.cell.CellId.{CellId}
use Rattle.dep_graph.specs.declared.numbers.CellNumber.{CellNumber}
use Rattle.dep_graph.specs.declared.numbers.ColumnNumber.{ColumnNumber}
use Rattle.dep_graph.specs.declared.numbers.ReadNumber.{ReadNumber}
use Rattle.dep_graph.specs.Names.{IsGrown, number_in}
use Rattle.dep_graph.specs.NumberLaws.{same_cell}
use Rattle.dep_graph.specs.Numbers.{is_cell}
use Rattle.dep_graph.specs.Records.{AreOfNames, HasSameReads, IsRecorded, reads_under}
use Rattle.dep_graph.specs.Sources.{cell_in, column_in, column_of}
use Rattle.dep_graph.proofs.NameLaws.{number_there}

number_below : (names : List (List ℕ)) (name : List ℕ) (n : ℕ) → number_in names name ≡ Some n → n < length names
number_below names name n h = slice_get_within names n name (number_there names name n h)

some_mapped : {A B : Type 0} (f : A → B) (o : Option A) (y : B) → option_map f o ≡ Some y → (x : A) × (o ≡ Some x) × (f x ≡ y)
some_mapped f None y h = absurd (cc)
some_mapped f (Some x) y h = let same : f x ≡ y = cc in (x, refl, same)

-- the numbers of a cell's names are those of its number
cell_numbers : (names : List (List ℕ)) (c : CellId) (k : CellNumber) → cell_in names c ≡ Some k → (number_in names c.table ≡ Some k.column.table) × (number_in names c.column ≡ Some k.column.column)
cell_numbers names c k h =
    let w = some_mapped (λ (j : ColumnNumber). record { column = j; row = c.row }) (column_in names c.table c.column) k h in
    let column : w.0 ≡ k.column = ap (λ (d : CellNumber). d.column) w.2 in
    subst (λ j. (number_in names c.table ≡ Some j.table) × (number_in names c.column ≡ Some j.column)) column (by w.0 (number_in names c.table) (number_in names c.column) refl refl w.1)
  where
    by : (j : ColumnNumber) (o p : Option ℕ) → number_in names c.table ≡ o → number_in names c.column ≡ p → column_of o p ≡ Some j → (number_in names c.table ≡ Some j.table) × (number_in names c.column ≡ Some j.column)
    by j None p a b h = absurd (cc)
    by j (Some t) None a b h = absurd (cc)
    by j (Some t) (Some u) a b h =
        let table : t ≡ j.table = cc in
        let column : u ≡ j.column = cc in
        (a ∙ ap (λ n. Some n) table, b ∙ ap (λ n. Some n) column)

module _ (names : List (List ℕ)) (old new : List (CellNumber × Vec ReadNumber Global)) (of : AreOfNames names old) where
  pub of_same : HasSameReads old new → AreOfNames names new
  of_same same c h = same c ∙ of c h

  pub of_recorded : (reader : CellId) (cell : CellNumber) (items : List ReadNumber) → cell_in names reader ≡ Some cell → IsRecorded old new cell items → AreOfNames names new
  of_recorded reader cell items is recorded c h = by (is_cell cell c) refl
    where
      never : (length names ≤ cell.column.table) ⊎ (length names ≤ cell.column.column) → ⊥
      never (inl l) = let below = number_below names reader.table cell.column.table (cell_numbers names reader cell is).0 in omega (arith, below, l)
      never (inr l) = let below = number_below names reader.column cell.column.column (cell_numbers names reader cell is).1 in omega (arith, below, l)

      by : (b : Bool) → is_cell cell c ≡ b → reads_under new c ≡ []
      by true e = absurd (never (subst (λ d. (length names ≤ d.column.table) ⊎ (length names ≤ d.column.column)) (sym (same_cell cell c e)) h))
      by false e = recorded c ∙ ap (λ b. cond b items (reads_under old c)) e ∙ of c h

  pub of_dropped : (cell : CellNumber) → IsRecorded old new cell [] → AreOfNames names new
  of_dropped cell recorded c h = recorded c ∙ by (is_cell cell c)
    where
      by : (b : Bool) → cond b [] (reads_under old c) ≡ []
      by true = refl
      by false = of c h

pub of_grown : (old new : List (List ℕ)) (reads : List (CellNumber × Vec ReadNumber Global)) → IsGrown old new → AreOfNames old reads → AreOfNames new reads
of_grown old new reads grown of c (inl h) = of c (inl (let longer = grown.longer in omega (arith, longer, h)))
of_grown old new reads grown of c (inr h) = of c (inr (let longer = grown.longer in omega (arith, longer, h)))

-- a cell without a number has no reads once it gets one
pub none_later : (old : List (List ℕ)) (reads : List (CellNumber × Vec ReadNumber Global)) → AreOfNames old reads → (reader : CellId) → cell_in old reader ≡ None → (names : List (List ℕ)) (k : CellNumber) → IsGrown old names → cell_in names reader ≡ Some k → reads_under reads k ≡ []
none_later old reads of reader none names k grown is =
    let numbers = cell_numbers names reader k is in
    by (number_in old reader.table) (number_in old reader.column) refl refl none numbers
  where
    by : (o p : Option ℕ) → number_in old reader.table ≡ o → number_in old reader.column ≡ p → option_map {U = CellNumber} (λ (j : ColumnNumber). record { column = j; row = reader.row }) (column_of o p) ≡ None
        → (number_in names reader.table ≡ Some k.column.table) × (number_in names reader.column ≡ Some k.column.column) → reads_under reads k ≡ []
    by None p a b h w = of k (inl (grown.follows reader.table k.column.table a w.0))
    by (Some t) None a b h w = of k (inr (grown.follows reader.column k.column.column b w.1))
    by (Some t) (Some u) a b h w = absurd (cc)

-- what holds after each of two outcomes
pub either_way : {A E P Q X : Type 0} (r : Result A E) → OnOk r P → OnErr r Q → (P → X) → (Q → X) → X
either_way (Ok x) p q f g = f p
either_way (Err e) p q f g = g q
