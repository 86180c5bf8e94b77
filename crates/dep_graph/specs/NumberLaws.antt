-- Numbers that are told to be the same are the same.
use Rattle.std.proofs.Common.{ℕ, true, ◌&&◌, nat_eq, ◌≡◌, ap, subst, ◌∙◌}
use Rattle.std.specs.Bool.{Decides}
use Rattle.std.specs.Cmp.{IsEquivalence, decided}
use Rattle.std.proofs.lemmas.Bool.{false≢true, and_parts, eqb-true}
use Rattle.doc_model.proofs.RowsLaws.{number_itself}
use Rattle.dep_graph.specs.declared.numbers.CellNumber.{CellNumber}
use Rattle.dep_graph.specs.declared.numbers.ColumnNumber.{ColumnNumber}
use Rattle.dep_graph.specs.declared.numbers.ReadNumber.{ReadNumber}
use Rattle.dep_graph.specs.declared.numbers.ReadNumber.TheVariants as read
use Rattle.dep_graph.specs.declared.numbers.ValueNumber.{ValueNumber}
use Rattle.dep_graph.specs.Numbers.{is_cell, is_column, is_read, is_value}

-- a column, a cell and a value of their parts
abbrev column_with : ℕ → ℕ → ColumnNumber
column_with table column = record { table = table; column = column }

abbrev pub cell_with : ColumnNumber → ℕ → CellNumber
cell_with column row = record { column = column; row = row }

abbrev value_with : ColumnNumber → ℕ → ValueNumber
value_with column bucket = record { column = column; bucket = bucket }

pub same_column : (k j : ColumnNumber) → is_column k j ≡ true → k ≡ j
same_column k j h =
    let both = and_parts (nat_eq k.table j.table) (nat_eq k.column j.column) h in
    let first : k ≡ column_with j.table k.column
    = ap (λ t. column_with t k.column) (eqb-true k.table j.table both.0) in
    first ∙ ap (column_with j.table) (eqb-true k.column j.column both.1)

pub same_cell : (c d : CellNumber) → is_cell c d ≡ true → c ≡ d
same_cell c d h =
    let both = and_parts (is_column c.column d.column) (nat_eq c.row d.row) h in
    let first : c ≡ cell_with d.column c.row
    = ap (λ k. cell_with k c.row) (same_column c.column d.column both.0) in
    first ∙ ap (cell_with d.column) (eqb-true c.row d.row both.1)

same_value : (v w : ValueNumber) → is_value v w ≡ true → v ≡ w
same_value v w h =
    let both = and_parts (is_column v.column w.column) (nat_eq v.bucket w.bucket) h in
    let first : v ≡ value_with w.column v.bucket
    = ap (λ k. value_with k v.bucket) (same_column v.column w.column both.0) in
    first ∙ ap (value_with w.column) (eqb-true v.bucket w.bucket both.1)

pub same_read : (q p : ReadNumber) → is_read q p ≡ true → q ≡ p
same_read (read.Cell c) (read.Cell d) h = ap read.Cell (same_cell c d h)
same_read (read.Cell c) (read.Key j) h = absurd (false≢true h)
same_read (read.Cell c) (read.Rows u) h = absurd (false≢true h)
same_read (read.Cell c) (read.All u) h = absurd (false≢true h)
same_read (read.Cell c) (read.Value w) h = absurd (false≢true h)
same_read (read.Cell c) (read.Part w) h = absurd (false≢true h)
same_read (read.Key k) (read.Cell d) h = absurd (false≢true h)
same_read (read.Key k) (read.Key j) h = ap read.Key (same_column k j h)
same_read (read.Key k) (read.Rows u) h = absurd (false≢true h)
same_read (read.Key k) (read.All u) h = absurd (false≢true h)
same_read (read.Key k) (read.Value w) h = absurd (false≢true h)
same_read (read.Key k) (read.Part w) h = absurd (false≢true h)
same_read (read.Rows t) (read.Cell d) h = absurd (false≢true h)
same_read (read.Rows t) (read.Key j) h = absurd (false≢true h)
same_read (read.Rows t) (read.Rows u) h = ap read.Rows (eqb-true t u h)
same_read (read.Rows t) (read.All u) h = absurd (false≢true h)
same_read (read.Rows t) (read.Value w) h = absurd (false≢true h)
same_read (read.Rows t) (read.Part w) h = absurd (false≢true h)
same_read (read.All t) (read.Cell d) h = absurd (false≢true h)
same_read (read.All t) (read.Key j) h = absurd (false≢true h)
same_read (read.All t) (read.Rows u) h = absurd (false≢true h)
same_read (read.All t) (read.All u) h = ap read.All (eqb-true t u h)
same_read (read.All t) (read.Value w) h = absurd (false≢true h)
same_read (read.All t) (read.Part w) h = absurd (false≢true h)
same_read (read.Value v) (read.Cell d) h = absurd (false≢true h)
same_read (read.Value v) (read.Key j) h = absurd (false≢true h)
same_read (read.Value v) (read.Rows u) h = absurd (false≢true h)
same_read (read.Value v) (read.All u) h = absurd (false≢true h)
same_read (read.Value v) (read.Value w) h = ap read.Value (same_value v w h)
same_read (read.Value v) (read.Part w) h = absurd (false≢true h)
same_read (read.Part v) (read.Cell d) h = absurd (false≢true h)
same_read (read.Part v) (read.Key j) h = absurd (false≢true h)
same_read (read.Part v) (read.Rows u) h = absurd (false≢true h)
same_read (read.Part v) (read.All u) h = absurd (false≢true h)
same_read (read.Part v) (read.Value w) h = absurd (false≢true h)
same_read (read.Part v) (read.Part w) h = ap read.Part (same_value v w h)

pub column_itself : (k : ColumnNumber) → is_column k k ≡ true
column_itself k =
    ap (λ b. b && nat_eq k.column k.column) (number_itself k.table) ∙ number_itself k.column

pub cell_itself : (c : CellNumber) → is_cell c c ≡ true
cell_itself c = ap (λ b. b && nat_eq c.row c.row) (column_itself c.column) ∙ number_itself c.row

value_itself : (v : ValueNumber) → is_value v v ≡ true
value_itself v =
    ap (λ b. b && nat_eq v.bucket v.bucket) (column_itself v.column) ∙ number_itself v.bucket

pub read_itself : (q : ReadNumber) → is_read q q ≡ true
read_itself (read.Cell c) = cell_itself c
read_itself (read.Key k) = column_itself k
read_itself (read.Rows t) = number_itself t
read_itself (read.All t) = number_itself t
read_itself (read.Value v) = value_itself v
read_itself (read.Part v) = value_itself v

-- ---- what comparison and hashing want

pub column_decides : (k j : ColumnNumber) → Decides (is_column k j) (k ≡ j)
column_decides k j = (same_column k j, λ e. subst (λ i. is_column k i ≡ true) e (column_itself k))

pub read_decides : (q p : ReadNumber) → Decides (is_read q p) (q ≡ p)
read_decides q p = (same_read q p, λ e. subst (λ r. is_read q r ≡ true) e (read_itself q))

pub read_equiv : IsEquivalence is_read
read_equiv = decided is_read read_decides

pub read_turned : (q p : ReadNumber) → is_read q p ≡ is_read p q
read_turned q p = read_equiv.symm q p
