-- Cells by name and by number.
use Rattle.std.proofs.Common.{ℕ, zero, suc, ◌<◌, ◌≤◌, ◌⊎◌, inl, inr, get_or, arith, Bool, true, false, ◌||◌, List, [], ◌∷◌, ◌++◌, length, slice_get, ◌≡◌, refl, sym, ap, ◌∙◌, subst, Option, Some, None}
use Rattle.std.proofs.lemmas.Bool.{false≢true, or_cases, or_left, or_right}
use Rattle.std.proofs.lemmas.List.Folds.{list_any-append}
use Rattle.std.proofs.lemmas.List.Sorted.{list_any-IsPermutation}
use Rattle.std.specs.List.{AllByRecursion}
use Rattle.std.specs.Option.{option_map}
use Rattle.std.specs.List.Sorted.{IsPermutation}
use Rattle.cell_types.specs.declared.cell.CellId.{CellId}
use Rattle.dep_graph.specs.declared.numbers.CellNumber.{CellNumber}
use Rattle.dep_graph.specs.declared.numbers.ColumnNumber.{ColumnNumber}
use Rattle.dep_graph.specs.Graph.{Graph}
use Rattle.dep_graph.specs.Names.{number_in}
use Rattle.dep_graph.specs.NumberLaws.{cell_itself, same_cell}
use Rattle.dep_graph.specs.Numbers.{is_cell}
use Rattle.dep_graph.specs.Sources.{cell_in, column_of}
use Rattle.dep_graph.proofs.NameLaws.{number_there}
use Rattle.recalc.specs.Cells.{same_cell as is_same}
use Rattle.recalc.specs.Stack.{on}
use Rattle.recalc.proofs.Progress.{EachOf, each_all}
use Rattle.recalc.proofs.Turn.{same_itself, same_true}
use Rattle.affected_search.specs.Reached.{is_among}
use Rattle.affected_search.specs.Sheets.{is_found}
use Rattle.affected_search.proofs.CellNumbers.{cell_parts}

none≢some : {X : Type 0} (x : X) → None ≡ Some x → ⊥
none≢some x e = cc

-- the names at the number of a cell are the cell's
pub table_named : (names : List (List ℕ)) (c : CellId) (k : CellNumber) → cell_in names c ≡ Some k → slice_get names k.column.table ≡ Some c.table
table_named names c k h = number_there names c.table k.column.table (cell_parts names c k h).0

pub column_named : (names : List (List ℕ)) (c : CellId) (k : CellNumber) → cell_in names c ≡ Some k → slice_get names k.column.column ≡ Some c.column
column_named names c k h = number_there names c.column k.column.column (cell_parts names c k h).1

pub not_named : (o : Option (List ℕ)) (x : List ℕ) → None ≡ o → o ≡ Some x → ⊥
not_named o x none h = none≢some x (none ∙ h)

same_name : (o : Option (List ℕ)) (x y : List ℕ) → Some x ≡ o → o ≡ Some y → x ≡ y
same_name o x y e f = some_same (e ∙ f)
  where
    some_same : Some x ≡ Some y → x ≡ y
    some_same h = cc

-- the cell of these names and this row
pub cell_named : (names : List (List ℕ)) (c : CellId) (k : CellNumber) → cell_in names c ≡ Some k → (t u : List ℕ) → Some t ≡ slice_get names k.column.table → Some u ≡ slice_get names k.column.column
    → (d : CellId) → d ≡ record { table = t; column = u; row = k.row } → d ≡ c
cell_named names c k h t u e f d is =
    let table : t ≡ c.table = same_name (slice_get names k.column.table) t c.table e (table_named names c k h) in
    let column : u ≡ c.column = same_name (slice_get names k.column.column) u c.column f (column_named names c k h) in
    is ∙ (λ i. record { table = table i; column = column i; row = (cell_parts names c k h).2 i })

pub on_more : (cells : List CellId) (x c : CellId) → on cells c ≡ true → on (cells ++ x ∷ []) c ≡ true
on_more cells x c h = list_any-append (λ d. is_same d c) cells (x ∷ []) ∙ ap (λ b. b || on (x ∷ []) c) h

or_true : (a : Bool) → (a || true) ≡ true
or_true true = refl
or_true false = refl

pub on_last : (cells : List CellId) (x : CellId) → on (cells ++ x ∷ []) x ≡ true
on_last cells x = list_any-append (λ d. is_same d x) cells (x ∷ []) ∙ ap (λ b. on cells x || (b || false)) (same_itself x) ∙ or_true (on cells x)

pub named_last : (cells : List CellId) (x c : CellId) → Some x ≡ Some c → on (cells ++ x ∷ []) c ≡ true
named_last cells x c e = let same : x ≡ c = cc in subst (λ d. on (cells ++ x ∷ []) d ≡ true) same (on_last cells x)

-- what is true of each number is true of one that is among them
among_all : (P : CellNumber → Type 0) (cells : List CellNumber) (k : CellNumber) → AllByRecursion P cells → is_among cells k ≡ true → P k
among_all P [] k all h = absurd (false≢true h)
among_all P (n ∷ cells) k all h = by (among_all P cells k all.1) (is_cell k n) refl h
  where
    by : (is_among cells k ≡ true → P k) → (b : Bool) → is_cell k n ≡ b → (b || is_among cells k) ≡ true → P k
    by later true same h = subst P (sym (same_cell k n same)) all.0
    by later false same h = later h

-- the cells of the number are among these
abbrev pub IsNamed : List (List ℕ) → List CellId → CellNumber → Type 0
IsNamed names named n = (c : CellId) → cell_in names c ≡ Some n → on named c ≡ true

pub all_named : (graph : Graph) (found : List CellNumber) (named : List CellId) (i : ℕ) → length found ≤ i → EachOf (IsNamed graph.names named) found i
    → (c : CellId) → is_found graph found c ≡ true → on named c ≡ true
all_named graph found named i le all c h = by (cell_in graph.names c) refl h
  where
    by : (o : Option CellNumber) → cell_in graph.names c ≡ o → elim o as (λ _. Bool) [ None ↦ false | Some k ↦ is_among found k ] ≡ true → on named c ≡ true
    by None at h = absurd (false≢true h)
    by (Some k) at h = among_all (IsNamed graph.names named) found k (each_all (IsNamed graph.names named) found i le all) h c at

-- in another order they are named still
pub still_named : (graph : Graph) (found : List CellNumber) (named moved : List CellId) → IsPermutation named moved → ((c : CellId) → is_found graph found c ≡ true → on named c ≡ true)
    → (c : CellId) → is_found graph found c ≡ true → on moved c ≡ true
still_named graph found named moved same all c h = sym (list_any-IsPermutation (λ d. is_same d c) named moved same) ∙ all c h

-- ---- and no others

-- the cell of names that have the numbers has the number
pub numbered_cell : (names : List (List ℕ)) (k : CellNumber) (t u : List ℕ) → number_in names t ≡ Some k.column.table → number_in names u ≡ Some k.column.column → (d : CellId) → d ≡ record { table = t; column = u; row = k.row } → cell_in names d ≡ Some k
numbered_cell names k t u a b d is =
    let numbered : Option ColumnNumber → Option CellNumber = option_map (λ (j : ColumnNumber). record { column = j; row = k.row }) in
    subst (λ e. cell_in names e ≡ Some k) (sym is) (ap (λ o. numbered (column_of o (number_in names u))) a ∙ ap (λ o. numbered (column_of (Some k.column.table) o)) b)

pub on_last_only : (cells : List CellId) (x c : CellId) → on (cells ++ x ∷ []) c ≡ true → (on cells c ≡ true) ⊎ (x ≡ c)
on_last_only cells x c h = elim (or_cases (on cells c) (is_same x c || false) (sym (list_any-append (λ d. is_same d c) cells (x ∷ [])) ∙ h)) [
  | inl there ↦ inl there
  | inr last ↦ elim (or_cases (is_same x c) false last) [ inl same ↦ inr (same_true x c same) | inr never ↦ absurd (false≢true never) ]
]

pub found_number : (graph : Graph) (found : List CellNumber) (c : CellId) (k : CellNumber) → cell_in graph.names c ≡ Some k → is_among found k ≡ true → is_found graph found c ≡ true
found_number graph found c k is there = ap (λ o. elim o as (λ _. Bool) [ None ↦ false | Some j ↦ is_among found j ]) is ∙ there

pub among_at : (found : List CellNumber) (i : ℕ) (k d : CellNumber) → i < length found → k ≡ get_or found i d → is_among found k ≡ true
among_at [] i k d l e = absurd (omega arith)
among_at (n ∷ found) zero k d l e = or_left (is_cell k n) (is_among found k) (subst (λ j. is_cell k j ≡ true) e (cell_itself k))
among_at (n ∷ found) (suc i) k d l e = or_right (is_cell k n) (is_among found k) (among_at found i k d (omega arith) e)

-- what is named is found
abbrev pub AreFound : Graph → List CellNumber → List CellId → Type 0
AreFound graph found named = (c : CellId) → on named c ≡ true → is_found graph found c ≡ true

pub still_found : (graph : Graph) (found : List CellNumber) (named moved : List CellId) → IsPermutation named moved → AreFound graph found named → AreFound graph found moved
still_found graph found named moved same all c h = all c (list_any-IsPermutation (λ d. is_same d c) named moved same ∙ h)
