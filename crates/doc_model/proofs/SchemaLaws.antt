-- What the schema tables are, and what is sound in them.
use Rattle.std.proofs.Common.{ℕ, zero, suc, Bool, true, false, cond, not, ◌||◌, ◌&&◌, ◌+◌, ◌*◌, ◌-◌, List, [], ◌∷◌, map, ◌≡◌, ◌≤◌, length, refl, sym, ap, subst, ◌∙◌, eqb, ltb, arith}
use Rattle.std.proofs.lemmas.Bool.{and_parts, eqb-true, leb-true, le-leb}
use Rattle.std.specs.Prelude.{nat_le}
use Rattle.std.specs.List.{AllByRecursion}
use Rattle.std.specs.Str.{bytes_eq, chars, chars_after, continuation_len, lead_bits}
use Rattle.cell_types.specs.NameRule.{is_name, has_name_characters, is_reserved}
use Rattle.cell_types.specs.declared.value.CellValue.TheVariants.{Null}
use Rattle.doc_model.specs.declared.column.ColDef.{ColDef}
use Rattle.doc_model.specs.Grid.{Grid, beside, cell}
use Rattle.doc_model.specs.Rows.{has, insert_row, IsAscending}
use Rattle.doc_model.specs.Column.{column_id, is_short, is_base}
use Rattle.doc_model.specs.Schema.{Described, described_row, put_described, in_order}
use Rattle.doc_model.proofs.RowsLaws.{has-insert_row, IsAscending-insert_row}

continuation_few : (b : ℕ) → continuation_len b ≤ 3
continuation_few b =
    elim (ltb b 128) as (λ x. cond x 0 (cond (ltb b 224) 1 (cond (ltb b 240) 2 3)) ≤ 3) [
      | true ↦ omega arith
      | false ↦ elim (ltb b 224) as (λ x. cond x 1 (cond (ltb b 240) 2 3) ≤ 3) [
        | true ↦ omega arith
        | false ↦ elim (ltb b 240) as (λ x. cond x 2 3 ≤ 3) [ true ↦ omega arith | false ↦ omega arith ]
      ]
    ]

chars_bound : (n c : ℕ) (bs : List ℕ) → length bs ≤ n + 4 * length (chars_after n c bs)
chars_bound zero c [] = omega arith
chars_bound zero c (b ∷ bs) =
    let k : ℕ = continuation_len b in
    let few : continuation_len b ≤ 3 = continuation_few b in
    let later : length bs ≤ continuation_len b + 4 * length (chars_after (continuation_len b) (lead_bits b) bs) = chars_bound (continuation_len b) (lead_bits b) bs in
    omega arith
chars_bound (suc n) c [] = omega arith
chars_bound (suc n) c (b ∷ bs) =
    let later : length bs ≤ n + 4 * length (chars_after n (c * 64 + (b - 128)) bs) = chars_bound n (c * 64 + (b - 128)) bs in
    omega arith

bytes_bound : (bs : List ℕ) → length (chars bs) ≤ 64 → length bs ≤ 260
unfolding chars
bytes_bound [] h = omega arith
bytes_bound (b ∷ bs) h =
    let later : length bs ≤ continuation_len b + 4 * length (chars_after (continuation_len b) (lead_bits b) bs) = chars_bound (continuation_len b) (lead_bits b) bs in
    let few : continuation_len b ≤ 3 = continuation_few b in
    omega arith

-- a name is a short text
pub name_bytes : (text : List ℕ) → is_name text ≡ true → length text ≤ 260
unfolding is_name
name_bytes text e =
    let two : (has_name_characters (chars text) ≡ true) × ((nat_le (length (chars text)) 64 && not (is_reserved text)) ≡ true) = and_parts (has_name_characters (chars text)) (nat_le (length (chars text)) 64 && not (is_reserved text)) e in
    let few : length (chars text) ≤ 64 = leb-true (length (chars text)) 64 (and_parts (nat_le (length (chars text)) 64) (not (is_reserved text)) two.1).0 in
    bytes_bound text few

pub short_from : (text : List ℕ) → length text ≤ 65536 → is_short text ≡ true
short_from text h = le-leb (length text) 65536 h

pub short_name : (text : List ℕ) → is_name text ≡ true → is_short text ≡ true
short_name text e = let few : length text ≤ 260 = name_bytes text e in short_from text (omega arith)

-- the rows of described columns are those of a list of rows put in order
pub rows-put_described : (e : Described) (es : List Described) → map described_row (put_described e es) ≡ insert_row e.column.row (map described_row es)
rows-put_described e [] = refl
rows-put_described e (x ∷ es) =
    elim (ltb e.column.row x.column.row) as (λ b. map described_row (cond b (e ∷ x ∷ es) (cond (eqb e.column.row x.column.row) (e ∷ es) (x ∷ put_described e es)))
    ≡ cond b (e.column.row ∷ x.column.row ∷ map described_row es) (cond (eqb e.column.row x.column.row) (x.column.row ∷ map described_row es) (x.column.row ∷ insert_row e.column.row (map described_row es)))) [
      | true ↦ refl
      | false ↦ elim (eqb e.column.row x.column.row) as (λ b. eqb e.column.row x.column.row ≡ b → map described_row (cond b (e ∷ es) (x ∷ put_described e es))
          ≡ cond b (x.column.row ∷ map described_row es) (x.column.row ∷ insert_row e.column.row (map described_row es))) [
            | true ↦ λ is. ap (λ q. q ∷ map described_row es) (eqb-true e.column.row x.column.row is)
            | false ↦ λ _. ap (λ rows. x.column.row ∷ rows) (rows-put_described e es)
          ] refl
    ]

pub has-in_order : (es : List Described) (r : ℕ) → has (map described_row (in_order es)) r ≡ has (map described_row es) r
has-in_order [] r = refl
has-in_order (e ∷ es) r =
    ap (λ rows. has rows r) (rows-put_described e (in_order es))
    ∙ has-insert_row e.column.row (map described_row (in_order es)) r
    ∙ ap (λ b. eqb e.column.row r || b) (has-in_order es r)

pub IsAscending-in_order : (es : List Described) → IsAscending (map described_row (in_order es))
IsAscending-in_order [] = tt
IsAscending-in_order (e ∷ es) = subst IsAscending (sym (rows-put_described e (in_order es))) (IsAscending-insert_row e.column.row (map described_row (in_order es)) (IsAscending-in_order es))

each_put_described : (P : Described → Type 0) (e : Described) (es : List Described) → P e → AllByRecursion P es → AllByRecursion P (put_described e es)
each_put_described P e [] p h = (p, tt)
each_put_described P e (x ∷ es) p h =
    elim (ltb e.column.row x.column.row) as (λ b. AllByRecursion P (cond b (e ∷ x ∷ es) (cond (eqb e.column.row x.column.row) (e ∷ es) (x ∷ put_described e es)))) [
      | true ↦ (p, h)
      | false ↦ elim (eqb e.column.row x.column.row) as (λ b. AllByRecursion P (cond b (e ∷ es) (x ∷ put_described e es))) [ true ↦ (p, h.1) | false ↦ (h.0, each_put_described P e es p h.1) ]
    ]

pub each_in_order : (P : Described → Type 0) (es : List Described) → AllByRecursion P es → AllByRecursion P (in_order es)
each_in_order P [] h = tt
each_in_order P (e ∷ es) h = each_put_described P e (in_order es) h.0 (each_in_order P es h.1)

-- what holds of the default and of each holds of what stands beside a key
beside_each_holds : {K V : Type 0} (P : V → Type 0) (test : K → Bool) (ks : List K) (vs : List V) (d : V) → P d → AllByRecursion P vs → P (beside test ks vs d)
beside_each_holds P test [] vs d p h = p
beside_each_holds P test (k ∷ ks) [] d p h = p
beside_each_holds P test (k ∷ ks) (v ∷ vs) d p h = elim (test k) as (λ b. P (cond b v (beside test ks vs d))) [ true ↦ h.0 | false ↦ beside_each_holds P test ks vs d p h.1 ]

-- where all cells are base values, each cell is
pub base_cell : (g : Grid ColDef) (c : List ℕ) (r : ℕ) → AllByRecursion (AllByRecursion (λ v. is_base v ≡ true)) g.cells → is_base (cell column_id g c r) ≡ true
base_cell g c r h =
    beside_each_holds (λ v. is_base v ≡ true) (λ d. bytes_eq (column_id d) c) g.columns (beside (λ q. eqb q r) g.rows g.cells []) Null refl
    (beside_each_holds (AllByRecursion (λ v. is_base v ≡ true)) (λ q. eqb q r) g.rows g.cells [] tt h)
