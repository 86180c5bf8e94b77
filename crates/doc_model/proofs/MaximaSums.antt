-- Lists that hold the same things as often, and what is greatest in them.
use Rattle.std.proofs.Common.{ℕ, true, false, cond, not, ◌+◌, List, [], ◌∷◌, ◌++◌, map, ◌≡◌, ◌<◌, ◌≤◌, length, refl, sym, ap, ◌∙◌, eqb, ltb, arith}
use Rattle.std.proofs.lemmas.Bool.{and_parts, ltb-true, ltb-false}
use Rattle.doc_model.specs.Rows.{has, has_no_duplicates, all_in, without, IsAscending}
use Rattle.doc_model.specs.Column.{column_row}
use Rattle.doc_model.specs.Document.{Table}
use Rattle.doc_model.specs.Schema.{Described, described_row, all_columns, in_order}
use Rattle.doc_model.specs.Counts.{greatest}
use Rattle.doc_model.specs.MaximaLaws.{Maxima, maxima}
use Rattle.doc_model.proofs.Choices.{not_true, filter_all, true_each}
use Rattle.doc_model.proofs.RowsLaws.{each_has}
use Rattle.doc_model.proofs.TimesLaws.{one_if, times, times-absent, there-times}
use Rattle.doc_model.proofs.TotalsLaws.{sum_of, length-total, total-insert_row, total-without}
use Rattle.doc_model.proofs.SchemaLaws.{rows-put_described, has-in_order}
use Rattle.doc_model.proofs.WholeLaws.{column_rows, described_rows}

-- every sum over them is the same
abbrev pub SameTotals : {X : Type 0} → List X → List X → Type 0
SameTotals {X} xs ys = (h : X → ℕ) → sum_of h xs ≡ sum_of h ys

module _ {X : Type 0} (h : X → ℕ) where
  pub total-append : (xs ys : List X) → sum_of h (xs ++ ys) ≡ sum_of h xs + sum_of h ys
  total-append [] ys = omega arith
  total-append (x ∷ xs) ys = let later : sum_of h (xs ++ ys) ≡ sum_of h xs + sum_of h ys = total-append xs ys in omega arith

pub total-map : {X Y : Type 0} (h : Y → ℕ) (f : X → Y) (xs : List X) → sum_of h (map f xs) ≡ sum_of (λ x. h (f x)) xs
total-map h f [] = refl
total-map h f (x ∷ xs) = ap (λ n. h (f x) + n) (total-map h f xs)

pub same-map : {X Y : Type 0} (f : X → Y) (xs ys : List X) → SameTotals xs ys → SameTotals (map f xs) (map f ys)
same-map f xs ys e h = total-map h f xs ∙ e (λ x. h (f x)) ∙ sym (total-map h f ys)

-- ---- the greatest

greatest-parts : (b n : ℕ) (ns : List ℕ) → greatest (n ∷ ns) ≤ b → (n ≤ b) × (greatest ns ≤ b)
greatest-parts b n ns =
    elim (ltb n (greatest ns)) as (λ c. ltb n (greatest ns) ≡ c → cond c (greatest ns) n ≤ b → (n ≤ b) × (greatest ns ≤ b)) [
      | true ↦ λ is le. let lt : n < greatest ns = ltb-true n (greatest ns) is in (omega arith, le)
      | false ↦ λ isnt le. let ge : greatest ns ≤ n = ltb-false n (greatest ns) isnt in (le, omega arith)
    ] refl

parts-greatest : (b n : ℕ) (ns : List ℕ) → n ≤ b → greatest ns ≤ b → greatest (n ∷ ns) ≤ b
parts-greatest b n ns here later = elim (ltb n (greatest ns)) as (λ c. cond c (greatest ns) n ≤ b) [ true ↦ later | false ↦ here ]

-- how many numbers are above a bound
abbrev above : ℕ → List ℕ → ℕ
above b ns = sum_of (λ n. one_if (ltb b n)) ns

above-none : (b : ℕ) (ns : List ℕ) → greatest ns ≤ b → above b ns ≡ 0
above-none b [] le = refl
above-none b (n ∷ ns) le =
    let parts : (n ≤ b) × (greatest ns ≤ b) = greatest-parts b n ns le in
    let later : above b ns ≡ 0 = above-none b ns parts.1 in
    elim (ltb b n) as (λ c. ltb b n ≡ c → one_if c + above b ns ≡ 0) [
      | true ↦ λ is. let lt : b < n = ltb-true b n is in let here : n ≤ b = parts.0 in absurd (omega arith)
      | false ↦ λ _. omega arith
    ] refl

none-above : (b : ℕ) (ns : List ℕ) → above b ns ≡ 0 → greatest ns ≤ b
none-above b [] e = omega arith
none-above b (n ∷ ns) e =
    elim (ltb b n) as (λ c. ltb b n ≡ c → one_if c + above b ns ≡ 0 → greatest (n ∷ ns) ≤ b) [
      | true ↦ λ _ e. absurd (omega arith)
      | false ↦ λ isnt e. let ge : n ≤ b = ltb-false b n isnt in parts-greatest b n ns ge (none-above b ns (omega arith))
    ] refl e

greatest-below : (xs ys : List ℕ) → SameTotals xs ys → greatest xs ≤ greatest ys
greatest-below xs ys e = none-above (greatest ys) xs (e (λ n. one_if (ltb (greatest ys) n)) ∙ above-none (greatest ys) ys (omega arith))

pub greatest-same : (xs ys : List ℕ) → SameTotals xs ys → greatest xs ≡ greatest ys
greatest-same xs ys e =
    let one : greatest xs ≤ greatest ys = greatest-below xs ys e in
    let other : greatest ys ≤ greatest xs = greatest-below ys xs (λ h. sym (e h)) in
    omega arith

pub length-same : {X : Type 0} (xs ys : List X) → SameTotals xs ys → length xs ≡ length ys
length-same xs ys e = sym (length-total xs) ∙ e (λ _. 1) ∙ length-total ys

pub maxima-same : (m n : ℕ) (xs ys : List ℕ) → m ≡ n → SameTotals xs ys → maxima m xs ≡ maxima n ys
maxima-same m n xs ys em e =
    ap (λ c. let p : Maxima = record { columns = c; rows = length xs; row_id = greatest xs } in p) em
    ∙ ap (λ l. let p : Maxima = record { columns = n; rows = l; row_id = greatest xs } in p) (length-same xs ys e)
    ∙ ap (λ g. let p : Maxima = record { columns = n; rows = length ys; row_id = g } in p) (greatest-same xs ys e)

-- ---- rows that come and go

each_passes : (rows : List ℕ) → Rattle.std.specs.List.AllByRecursion (λ r. not (has [] r) ≡ true) rows
each_passes [] = tt
each_passes (r ∷ rows) = (refl, each_passes rows)

pub without-none : (rows : List ℕ) → without [] rows ≡ rows
without-none rows = filter_all (λ r. not (has [] r)) rows (each_passes rows)

pub rows-moved : (old new come go : List ℕ) → IsAscending old → has_no_duplicates go ≡ true → all_in go old ≡ true
    → ((h : ℕ → ℕ) → sum_of h new + sum_of h go ≡ sum_of h old + sum_of h come) → SameTotals new (come ++ without go old)
rows-moved old new come go asc once there moves h =
    let left : sum_of h (without go old) + sum_of h go ≡ sum_of h old = total-without h go old asc once there in
    let both : sum_of h (come ++ without go old) ≡ sum_of h come + sum_of h (without go old) = total-append h come (without go old) in
    let move : sum_of h new + sum_of h go ≡ sum_of h old + sum_of h come = moves h in
    omega arith

times-total : (q : ℕ) (rows : List ℕ) → sum_of (λ r. one_if (eqb r q)) rows ≡ times q rows
times-total q [] = refl
times-total q (r ∷ rows) = ap (λ n. one_if (eqb r q) + n) (times-total q rows)

-- rows that were taken out were there
pub all_in-moved : (old new go : List ℕ) → ((h : ℕ → ℕ) → sum_of h new + sum_of h go ≡ sum_of h old) → all_in go old ≡ true
all_in-moved old new go moves = true_each (λ q. has old q) go (each_has (λ q. has old q ≡ true) go there)
  where
    there : (q : ℕ) → has go q ≡ true → has old q ≡ true
    there q here =
        elim (has old q) as (λ b. has old q ≡ b → b ≡ true) [
          | true ↦ λ _. refl
          | false ↦ λ no.
              let none : times q old ≡ 0 = times-absent q old no in
              let some : 1 ≤ times q go = there-times q go here in
              let a : sum_of (λ r. one_if (eqb r q)) old ≡ times q old = times-total q old in
              let b : sum_of (λ r. one_if (eqb r q)) go ≡ times q go = times-total q go in
              let move : sum_of (λ r. one_if (eqb r q)) new + sum_of (λ r. one_if (eqb r q)) go ≡ sum_of (λ r. one_if (eqb r q)) old = moves (λ r. one_if (eqb r q)) in
              absurd (omega arith)
        ] refl

-- ---- the rows that describe columns

total-in_order : (h : ℕ → ℕ) (es : List Described) → has_no_duplicates (map described_row es) ≡ true → sum_of h (map described_row (in_order es)) ≡ sum_of h (map described_row es)
total-in_order h [] o = refl
total-in_order h (e ∷ es) o =
    let once : (not (has (map described_row es) e.column.row) ≡ true) × (has_no_duplicates (map described_row es) ≡ true) = and_parts (not (has (map described_row es) e.column.row)) (has_no_duplicates (map described_row es)) o in
    let later : sum_of h (map described_row (in_order es)) ≡ sum_of h (map described_row es) = total-in_order h es once.1 in
    let put : sum_of h (map described_row (in_order (e ∷ es))) ≡ h e.column.row + sum_of h (map described_row (in_order es))
    = ap (sum_of h) (rows-put_described e (in_order es))
    ∙ total-insert_row h e.column.row (map described_row (in_order es)) (has-in_order es e.column.row ∙ not_true (has (map described_row es) e.column.row) once.0) in
    omega arith

-- the sum over the rows of a table's columns
abbrev pub over_columns : (ℕ → ℕ) → Table → ℕ
over_columns h t = sum_of h (map column_row t.grid.columns)

total-columns : (h : ℕ → ℕ) (p : List Table) → sum_of h (column_rows p) ≡ sum_of (over_columns h) p
total-columns h [] = refl
total-columns h (t ∷ p) = total-append h (map column_row t.grid.columns) (column_rows p) ∙ ap (λ n. over_columns h t + n) (total-columns h p)

pub total-described : (h : ℕ → ℕ) (p : List Table) → has_no_duplicates (column_rows p) ≡ true → sum_of h (map described_row (in_order (all_columns p))) ≡ sum_of (over_columns h) p
total-described h p o = total-in_order h (all_columns p) (ap has_no_duplicates (described_rows p) ∙ o) ∙ ap (sum_of h) (described_rows p) ∙ total-columns h p
