-- Columns and rows by place.
use Rattle.std.proofs.Common.{ℕ, suc, Bool, true, false, cond, not, ◌||◌, ◌+◌, ◌<◌, List, [], ◌∷◌, map, get_or, length, ◌≡◌, refl, sym, ap, ◌∙◌, Option, Some, None, nat_eq, nat_lt, slice_get, unwrap_or, zero, ◌≤◌, arith}
use Rattle.std.proofs.lemmas.Option.{slice_get-get_or}
use Rattle.std.specs.List.{AllByRecursion, position, position_or_len, prefix_len}
use Rattle.std.proofs.lemmas.Bool.{false≢true, ltb-false}
use Rattle.std.specs.Str.{bytes_eq}
use Rattle.std.proofs.lemmas.Slice.Eq.{bytes_eq-Decides}
use Rattle.cell_types.specs.declared.value.CellValue.{CellValue}
use Rattle.doc_model.specs.declared.column.ColDef.{ColDef}
use Rattle.doc_model.specs.Column.{column_id}
use Rattle.doc_model.specs.Grid.{Grid, IsGrid, beside}
use Rattle.doc_model.specs.Rows.{has, IsAscending}
use Rattle.doc_model.specs.Indexes.{row_index}
use Rattle.row_tables.specs.InPlace.{id_index}
use Rattle.row_tables.specs.Kept.{found_beside, kept}
use Rattle.column_store.specs.Kept.{kept_at}
use Rattle.row_tables.proofs.KeptLaws.{beside_absent}
use Rattle.row_tables.proofs.WrittenLaws.{index_found}

pub row_there : (row i : ℕ) (rows : List ℕ) → IsAscending rows → has rows row ≡ true → i ≡ row_index row rows → slice_get rows i ≡ Some row
row_there row i rows a here e =
    let found : (row_index row rows < length rows) × (get_or rows (row_index row rows) 0 ≡ row) = index_found row rows a here in
    ap (slice_get rows) e ∙ slice_get-get_or rows (row_index row rows) 0 found.0 ∙ ap Some found.1

-- the place of an id is where the first such column stands
pub index_of_id : (c : List ℕ) (cs : List ColDef) → position_or_len (bytes_eq c) (map column_id cs) ≡ id_index c cs
index_of_id c [] = refl
index_of_id c (d ∷ cs) =
    elim (bytes_eq c d.id) as (λ b. cond (not b) (1 + position_or_len (bytes_eq c) (map column_id cs)) 0 ≡ cond b 0 (id_index c cs + 1)) [
      | true ↦ refl
      | false ↦ let later : position_or_len (bytes_eq c) (map column_id cs) ≡ id_index c cs = index_of_id c cs in omega arith
    ]

pub turned : (a b : List ℕ) → bytes_eq a b ≡ bytes_eq b a
turned a b = elim (bytes_eq a b) as (λ t. bytes_eq a b ≡ t → t ≡ bytes_eq b a) [
  | true ↦ λ e. sym ((bytes_eq-Decides b a).1 (sym ((bytes_eq-Decides a b).0 e)))
  | false ↦ λ e. elim (bytes_eq b a) as (λ u. bytes_eq b a ≡ u → false ≡ u) [
    | true ↦ λ f. sym e ∙ (bytes_eq-Decides a b).1 (sym ((bytes_eq-Decides b a).0 f))
    | false ↦ λ _. refl
  ] refl
] refl

-- what stands at that place is what is found beside the id
pub found_there : (c : List ℕ) (cs : List ColDef) (vs : List CellValue) → length vs ≡ length cs → slice_get vs (id_index c cs) ≡ found_beside (λ d. bytes_eq (column_id d) c) cs vs
found_there c [] [] e = refl
found_there c [] (v ∷ vs) e = absurd (omega arith)
found_there c (d ∷ cs) [] e = absurd (omega arith)
found_there c (d ∷ cs) (v ∷ vs) e =
    let next : id_index c cs + 1 ≡ suc (id_index c cs) = omega arith in
    ap (λ b. slice_get (v ∷ vs) (cond b 0 (id_index c cs + 1))) (turned c d.id)
    ∙ elim (bytes_eq d.id c) as (λ b. slice_get (v ∷ vs) (cond b 0 (id_index c cs + 1)) ≡ cond b (Some v) (found_beside (λ d. bytes_eq (column_id d) c) cs vs)) [
      | true ↦ refl
      | false ↦ ap (slice_get (v ∷ vs)) next ∙ found_there c cs vs (omega arith)
    ]

pub get_or_slice : {X : Type 0} (xs : List X) (i : ℕ) (d : X) → unwrap_or (slice_get xs i) d ≡ get_or xs i d
get_or_slice [] i d = refl
get_or_slice (x ∷ xs) zero d = refl
get_or_slice (x ∷ xs) (suc i) d = get_or_slice xs i d

-- ---- positions

within_list : {X : Type 0} (p : X → Bool) (xs : List X) → prefix_len p xs ≤ length xs
within_list p [] = omega arith
within_list p (x ∷ xs) =
    let later : prefix_len p xs ≤ length xs = within_list p xs in
    elim (p x) as (λ b. cond b (1 + prefix_len p xs) 0 ≤ length (x ∷ xs)) [ true ↦ omega arith | false ↦ omega arith ]

pub position_found : {X : Type 0} (p : X → Bool) (xs : List X) (i : ℕ) → Some i ≡ position p xs → i ≡ position_or_len p xs
position_found p xs i e =
    elim (nat_lt (position_or_len p xs) (length xs)) as (λ b. Some i ≡ cond b (Some (position_or_len p xs)) None → i ≡ position_or_len p xs) [
      | true ↦ λ e. cc
      | false ↦ λ e. cc
    ] e

pub position_absent : {X : Type 0} (p : X → Bool) (xs : List X) → None ≡ position p xs → length xs ≡ position_or_len p xs
position_absent p xs e =
    elim (nat_lt (position_or_len p xs) (length xs)) as (λ b. nat_lt (position_or_len p xs) (length xs) ≡ b → None ≡ cond b (Some (position_or_len p xs)) None → length xs ≡ position_or_len p xs) [
      | true ↦ λ _ e. cc
      | false ↦ λ no' e.
          let most : position_or_len p xs ≤ length xs = within_list (λ x. not (p x)) xs in
          let least : length xs ≤ position_or_len p xs = ltb-false (position_or_len p xs) (length xs) no' in
          omega arith
    ] refl e

-- ---- the cell that is found by place is the one that is found by name

-- the cells of a row that is there are as many as those of each
beside_wide : (n r : ℕ) (rows : List ℕ) (cells : List (List CellValue)) → length cells ≡ length rows → AllByRecursion (λ row. length row ≡ n) cells → has rows r ≡ true → length (beside (λ q. nat_eq q r) rows cells []) ≡ n
beside_wide n r [] cells e h here = absurd (false≢true here)
beside_wide n r (q ∷ rows) [] e h here = absurd (omega arith)
beside_wide n r (q ∷ rows) (row ∷ cells) e h here =
    elim (nat_eq q r) as (λ b. (b || has rows r) ≡ true → length (cond b row (beside (λ q. nat_eq q r) rows cells [])) ≡ n) [
      | true ↦ λ _. h.0
      | false ↦ λ later. beside_wide n r rows cells (omega arith) h.1 later
    ] here

nothing_beside : (c : List ℕ) (cs : List ColDef) → ◌≡◌ {A = Option CellValue} (found_beside (λ d. bytes_eq (column_id d) c) cs []) None
nothing_beside c [] = refl
nothing_beside c (d ∷ cs) = refl

pub kept_there : (g : Grid ColDef) (c : List ℕ) (r : ℕ) → IsGrid column_id g → kept_at g (id_index c g.columns) r ≡ kept g c r
kept_there g c r grid =
    elim (has g.rows r) as (λ b. has g.rows r ≡ b → kept_at g (id_index c g.columns) r ≡ kept g c r) [
      | true ↦ λ here.
          found_there c g.columns (beside (λ q. nat_eq q r) g.rows g.cells [])
          (beside_wide (length g.columns) r g.rows g.cells grid.height grid.width here)
      | false ↦ λ absent.
          ap (λ row. slice_get row (id_index c g.columns)) (beside_absent (λ q. nat_eq q r) g.rows g.cells [] absent)
          ∙ sym (ap (found_beside (λ d. bytes_eq (column_id d) c) g.columns) (beside_absent (λ q. nat_eq q r) g.rows g.cells [] absent)
          ∙ nothing_beside c g.columns)
    ] refl
