-- A write at a place is a write at a cell.
use Rattle.std.proofs.Common.{ℕ, zero, suc, ◌+◌, ◌<◌, Bool, true, false, cond, ◌&&◌, ◌||◌, not, nat_eq, nat_lt, List, [], ◌∷◌, length, get_or, set, slice_get, ◌≡◌, refl, sym, ap, ◌∙◌, subst, Option, Some, None, arith}
use Rattle.std.proofs.lemmas.Bool.{true≢false, false≢true, eqb-true, eq-eqb, ne_eqb}
use Rattle.std.proofs.lemmas.Slice.Eq.{bytes_eq-Decides}
use Rattle.std.specs.List.{position, position_or_len, AllByRecursion}
use Rattle.std.proofs.lemmas.Bool.{ltb-true}
use Rattle.std.specs.Str.{bytes_eq}
use Rattle.cell_types.specs.declared.cell.CellId.{CellId}
use Rattle.cell_types.specs.declared.value.CellValue.{CellValue}
use Rattle.doc_model.specs.ByIds.{find_id}
use Rattle.doc_model.specs.Rows.{IsAscending, has}
use Rattle.recalc.specs.Seen.{joined}
use Rattle.doc_model.proofs.Choices.{cond_true, cond_false}
use Rattle.doc_model.specs.Document.{Document}
use Rattle.doc_readers.specs.Parts.{grid_at}
use Rattle.recalc.specs.declared.kept.KeptColumn.{KeptColumn}
use Rattle.recalc.specs.declared.kept.KeptTable.{KeptTable}
use Rattle.recalc.specs.Kept.{held_in, held_column, held_table, held_at, kept_table_id, kept_column_id}
use Rattle.recalc.specs.Cells.{same_cell}
use Rattle.recalc.specs.Put.{IsPutInTables}
use Rattle.std.proofs.lemmas.Option.{get_or_from_slice_get}

-- ids whose lengths are compared first
pub lengths_first : (a b : List ℕ) → (nat_eq (length a) (length b) && bytes_eq a b) ≡ bytes_eq a b
lengths_first a b = by_test (bytes_eq a b) refl
  where
    by_test : (t : Bool) → bytes_eq a b ≡ t → (nat_eq (length a) (length b) && t) ≡ t
    by_test true e = ap (λ u. u && true) (eq-eqb (length a) (length b) (ap length ((bytes_eq-Decides a b).0 e)))
    by_test false e = elim (nat_eq (length a) (length b)) as (λ u. (u && false) ≡ false) [ true ↦ refl | false ↦ refl ]

pub other_lengths : (a b : List ℕ) → (length a ≡ length b → ⊥) → bytes_eq a b ≡ false
other_lengths a b other = by_test (bytes_eq a b) refl
  where
    by_test : (t : Bool) → bytes_eq a b ≡ t → t ≡ false
    by_test true e = absurd (other (ap length ((bytes_eq-Decides a b).0 e)))
    by_test false e = refl

-- ids whose ends are told apart
pub other_ends : (a b : List ℕ) (t : Bool) → (a ≡ b → t ≡ true) → t ≡ false → bytes_eq a b ≡ false
other_ends a b t alike other = by_test (bytes_eq a b) refl
  where
    by_test : (u : Bool) → bytes_eq a b ≡ u → u ≡ false
    by_test true e = absurd (true≢false (sym (alike ((bytes_eq-Decides a b).0 e)) ∙ other))
    by_test false e = refl

-- in one column
pub held-set : (rows : List ℕ) (vs : List (Option CellValue)) (p r : ℕ) (v : Option CellValue) (q : ℕ) → IsAscending rows → slice_get rows p ≡ Some r → p < length vs
    → held_in rows (set vs p v) q ≡ cond (nat_eq r q) v (held_in rows vs q)
held-set [] vs p r v q a at lt = absurd (no_row p at)
  where
    no_row : (p : ℕ) → slice_get {X = ℕ} [] p ≡ Some r → ⊥
    no_row zero e = cc
    no_row (suc p) e = cc
held-set (x ∷ rows) [] p r v q a at lt = absurd (omega arith)
held-set (x ∷ rows) (w ∷ vs) zero r v q a at lt =
    let same : x ≡ r = cc in
    ap (λ y. cond (nat_eq y q) v (held_in rows vs q)) same ∙ hidden (nat_eq r q) (nat_eq x q) (ap (λ y. nat_eq y q) (sym same))
  where
    hidden : (b d : Bool) → b ≡ d → cond b v (held_in rows vs q) ≡ cond b v (cond d w (held_in rows vs q))
    hidden true d e = refl
    hidden false true e = absurd (false≢true e)
    hidden false false e = refl
held-set (x ∷ rows) (w ∷ vs) (suc p) r v q a at lt =
    elim (nat_eq x q) as (λ b. nat_eq x q ≡ b → cond b w (held_in rows (set vs p v) q) ≡ cond (nat_eq r q) v (cond b w (held_in rows vs q))) [
      | true ↦ λ e. sym (cond_false (nat_eq r q) v w (apart (eqb-true x q e) (below rows p a.0 at)))
      | false ↦ λ e. held-set rows vs p r v q a.1 at (omega (arith, lt))
    ] refl
  where
    below : (rows : List ℕ) (p : ℕ) → AllByRecursion (λ y. x < y) rows → slice_get rows p ≡ Some r → x < r
    below [] zero a e = absurd (cc)
    below [] (suc p) a e = absurd (cc)
    below (y ∷ ys) zero a e = let same : y ≡ r = cc in subst (λ z. x < z) same a.0
    below (y ∷ ys) (suc p) a e = below ys p a.1 e

    apart : x ≡ q → x < r → nat_eq r q ≡ false
    apart e l = ne_eqb r q (λ f. absurd (omega (arith, e, l, f)))

-- the first place at which the id stands
abbrev pub IsFirst : {X : Type 0} → (X → List ℕ) → List ℕ → List X → ℕ → Type 0
IsFirst id c [] i = ⊥
IsFirst id c (x ∷ xs) zero = bytes_eq (id x) c ≡ true
IsFirst id c (x ∷ xs) (suc i) = (bytes_eq (id x) c ≡ false) × IsFirst id c xs i

first_len : {X : Type 0} (id : X → List ℕ) (c : List ℕ) (xs : List X) → position_or_len (λ x. bytes_eq (id x) c) xs < length xs → IsFirst id c xs (position_or_len (λ x. bytes_eq (id x) c) xs)
first_len id c [] lt = absurd (omega arith)
first_len id c (x ∷ xs) lt = by_test (bytes_eq (id x) c) refl lt (first_len id c xs)
  where
    by_test : (b : Bool) → bytes_eq (id x) c ≡ b → cond (not b) (1 + position_or_len (λ x. bytes_eq (id x) c) xs) 0 < length (x ∷ xs)
        → (position_or_len (λ x. bytes_eq (id x) c) xs < length xs → IsFirst id c xs (position_or_len (λ x. bytes_eq (id x) c) xs)) → IsFirst id c (x ∷ xs) (cond (not b) (1 + position_or_len (λ x. bytes_eq (id x) c) xs) 0)
    by_test true e lt h = e
    by_test false e lt h =
        let n : ℕ = position_or_len (λ x. bytes_eq (id x) c) xs in
        let more : suc n ≡ 1 + n = omega arith in
        subst (IsFirst id c (x ∷ xs)) more (e, h (omega (arith, lt)))

pub position_first : {X : Type 0} (id : X → List ℕ) (c : List ℕ) (xs : List X) (i : ℕ) → position (λ x. bytes_eq (id x) c) xs ≡ Some i → IsFirst id c xs i
position_first id c xs i h = by_test (nat_lt (position_or_len (λ x. bytes_eq (id x) c) xs) (length xs)) refl h
  where
    by_test : (b : Bool) → nat_lt (position_or_len (λ x. bytes_eq (id x) c) xs) (length xs) ≡ b → cond b (Some (position_or_len (λ x. bytes_eq (id x) c) xs)) None ≡ Some i → IsFirst id c xs i
    by_test true e h = let same : position_or_len (λ x. bytes_eq (id x) c) xs ≡ i = cc in subst (IsFirst id c xs) same (first_len id c xs (ltb-true (position_or_len (λ x. bytes_eq (id x) c) xs) (length xs) e))
    by_test false e h = absurd (cc)

hidden_by : {A : Type 0} (b e : Bool) (y x z : A) → b ≡ e → cond b y z ≡ cond b y (cond e x z)
hidden_by true e y x z h = refl
hidden_by false true y x z h = absurd (false≢true h)
hidden_by false false y x z h = refl

other_id : (x c d : List ℕ) → bytes_eq x c ≡ false → bytes_eq x d ≡ true → bytes_eq c d ≡ false
other_id x c d apart e = by_test (bytes_eq c d) refl
  where
    by_test : (b : Bool) → bytes_eq c d ≡ b → b ≡ false
    by_test true f = absurd (true≢false (sym (subst (λ z. bytes_eq x z ≡ true) (sym ((bytes_eq-Decides c d).0 f)) e) ∙ apart))
    by_test false f = refl

-- among things with ids, at the first place of an id
pub find-set : {X : Type 0} (id : X → List ℕ) (xs : List X) (c : List ℕ) (i : ℕ) (y : X) (d : List ℕ) → IsFirst id c xs i → id y ≡ c
    → find_id id d (set xs i y) ≡ cond (bytes_eq c d) (Some y) (find_id id d xs)
find-set id [] c i y d at same = absurd at
find-set id (x ∷ xs) c zero y d at same =
    ap (λ z. cond (bytes_eq z d) (Some y) (find_id id d xs)) same
    ∙ hidden_by (bytes_eq c d) (bytes_eq (id x) d) (Some y) (Some x) (find_id id d xs) (ap (λ z. bytes_eq z d) (sym ((bytes_eq-Decides (id x) c).0 at)))
find-set id (x ∷ xs) c (suc i) y d at same =
    elim (bytes_eq (id x) d) as (λ b. bytes_eq (id x) d ≡ b → cond b (Some x) (find_id id d (set xs i y)) ≡ cond (bytes_eq c d) (Some y) (cond b (Some x) (find_id id d xs))) [
      | true ↦ λ e. sym (cond_false (bytes_eq c d) (Some y) (Some x) (other_id (id x) c d at.0 e))
      | false ↦ λ e. find-set id xs c i y d at.1 same
    ] refl

-- the thing at that place
pub find-first : {X : Type 0} (id : X → List ℕ) (xs : List X) (c : List ℕ) (i : ℕ) (x : X) → IsFirst id c xs i → slice_get xs i ≡ Some x → (find_id id c xs ≡ Some x) × (id x ≡ c)
find-first id [] c i x at h = absurd at
find-first id (z ∷ xs) c zero x at h =
    let same : z ≡ x = cc in
    (cond_true (bytes_eq (id z) c) (Some z) (find_id id c xs) at ∙ ap (λ w. Some w) same, sym (ap id same) ∙ (bytes_eq-Decides (id z) c).0 at)
find-first id (z ∷ xs) c (suc i) x at h =
    let r = find-first id xs c i x at.1 h in
    (cond_false (bytes_eq (id z) c) (Some z) (find_id id c xs) at.0 ∙ r.0, r.1)

and_false : (a : Bool) → (a && false) ≡ false
and_false true = refl
and_false false = refl

-- a write at the place of a table, of a column and of a row is a write at the cell
module _ (s : Document) (ks : List KeptTable) (cell : CellId) (v : Option CellValue)
    (i : ℕ) (k : KeptTable) (at_table : IsFirst kept_table_id cell.table ks i) (here_table : slice_get ks i ≡ Some k)
    (j : ℕ) (e : KeptColumn) (at_column : IsFirst kept_column_id cell.column k.columns.items j) (here_column : slice_get k.columns.items j ≡ Some e)
    (p : ℕ) (at_row : slice_get (grid_at s cell.table).rows p ≡ Some cell.row) (within : p < length e.values.items) (ascending : IsAscending (grid_at s cell.table).rows)
    (l : KeptTable) (f : KeptColumn) (named_table : l.id ≡ cell.table) (named_column : f.id ≡ cell.column)
    (columns : l.columns.items ≡ set k.columns.items j f) (values : f.values.items ≡ set e.values.items p v) where
  pub held-put : (d : CellId) → held_at s (set ks i l) d ≡ cond (same_cell cell d) v (held_at s ks d)
  held-put d =
      ap (held_table (grid_at s d.table).rows d.column d.row) (find-set kept_table_id ks cell.table i l d.table at_table named_table)
      ∙ by_table (bytes_eq cell.table d.table) refl
    where
      by_row : cell.table ≡ d.table → cell.column ≡ d.column → held_in (grid_at s d.table).rows f.values.items d.row ≡ cond (nat_eq cell.row d.row) v (held_in (grid_at s d.table).rows e.values.items d.row)
      by_row t c =
          ap (λ x. held_in (grid_at s d.table).rows x d.row) values
          ∙ held-set (grid_at s d.table).rows e.values.items p cell.row v d.row (subst (λ x. IsAscending (grid_at s x).rows) t ascending) (subst (λ x. slice_get (grid_at s x).rows p ≡ Some cell.row) t at_row) within

      by_column : cell.table ≡ d.table → (b : Bool) → bytes_eq cell.column d.column ≡ b
          → held_column (grid_at s d.table).rows d.row (cond b (Some f) (find_id kept_column_id d.column k.columns.items)) ≡ cond (b && nat_eq cell.row d.row) v (held_column (grid_at s d.table).rows d.row (find_id kept_column_id d.column k.columns.items))
      by_column t true c =
          let name : cell.column ≡ d.column = (bytes_eq-Decides cell.column d.column).0 c in
          by_row t name
          ∙ ap (λ x. cond (nat_eq cell.row d.row) v (held_column (grid_at s d.table).rows d.row x)) (sym (ap (λ x. find_id kept_column_id x k.columns.items) (sym name) ∙ (find-first kept_column_id k.columns.items cell.column j e at_column here_column).0))
      by_column t false c = refl

      by_table : (b : Bool) → bytes_eq cell.table d.table ≡ b
          → held_table (grid_at s d.table).rows d.column d.row (cond b (Some l) (find_id kept_table_id d.table ks)) ≡ cond (b && bytes_eq cell.column d.column && nat_eq cell.row d.row) v (held_at s ks d)
      by_table true t =
          let name : cell.table ≡ d.table = (bytes_eq-Decides cell.table d.table).0 t in
          ap (λ x. held_column (grid_at s d.table).rows d.row (find_id kept_column_id d.column x)) columns
          ∙ ap (held_column (grid_at s d.table).rows d.row) (find-set kept_column_id k.columns.items cell.column j f d.column at_column named_column)
          ∙ by_column name (bytes_eq cell.column d.column) refl
          ∙ ap (λ x. cond (bytes_eq cell.column d.column && nat_eq cell.row d.row) v (held_table (grid_at s d.table).rows d.column d.row x)) (sym (ap (λ x. find_id kept_table_id x ks) (sym name) ∙ (find-first kept_table_id ks cell.table i k at_table here_table).0))
      by_table false t = refl

-- what stands at the place of a row is held for it
pub held-get : (rows : List ℕ) (vs : List (Option CellValue)) (p r : ℕ) → IsAscending rows → slice_get rows p ≡ Some r → joined (slice_get vs p) ≡ held_in rows vs r
held-get [] vs zero r a at = absurd (cc)
held-get [] vs (suc p) r a at = absurd (cc)
held-get (x ∷ rows) [] zero r a at = refl
held-get (x ∷ rows) [] (suc p) r a at = refl
held-get (x ∷ rows) (w ∷ vs) zero r a at = let same : x ≡ r = cc in sym (cond_true (nat_eq x r) w (held_in rows vs r) (eq-eqb x r same))
held-get (x ∷ rows) (w ∷ vs) (suc p) r a at =
    held-get rows vs p r a.1 at ∙ sym (cond_false (nat_eq x r) w (held_in rows vs r) (ne_eqb x r (λ e. absurd (omega (arith, e, below rows p a.0 at)))))
  where
    below : (rows : List ℕ) (p : ℕ) → AllByRecursion (λ y. x < y) rows → slice_get rows p ≡ Some r → x < r
    below [] zero a e = absurd (cc)
    below [] (suc p) a e = absurd (cc)
    below (y ∷ ys) zero a e = let same : y ≡ r = cc in subst (λ z. x < z) same a.0
    below (y ∷ ys) (suc p) a e = below ys p a.1 e

pub held-none : (rows : List ℕ) (vs : List (Option CellValue)) (r : ℕ) → has rows r ≡ false → None ≡ held_in rows vs r
held-none [] vs r h = refl
held-none (x ∷ rows) [] r h = refl
held-none (x ∷ rows) (w ∷ vs) r h =
    elim (nat_eq x r) as (λ b. (b || has rows r) ≡ false → None ≡ cond b w (held_in rows vs r)) [ true ↦ λ e. absurd (true≢false e) | false ↦ λ e. held-none rows vs r e ] h

-- what is held of a table and a column that are found
pub held_found : (rows : List ℕ) (c : List ℕ) (r : ℕ) (o : Option KeptTable) (k : KeptTable) → Some k ≡ o → (e : KeptColumn) → Some e ≡ find_id kept_column_id c k.columns.items → held_in rows e.values.items r ≡ held_table rows c r o
held_found rows c r o k h e g = ap (held_column rows r) g ∙ ap (held_table rows c r) h

pub first_there : {X : Type 0} (id : X → List ℕ) (c : List ℕ) (xs : List X) (i : ℕ) → IsFirst id c xs i → (x : X) × (slice_get xs i ≡ Some x)
first_there id c [] i h = absurd h
first_there id c (x ∷ xs) zero h = (x, refl)
first_there id c (x ∷ xs) (suc i) h = first_there id c xs i h.1

-- what is read at a place
pub item_there : {X : Type 0} (xs : List X) (i : ℕ) (r x : X) → slice_get xs i ≡ Some x → r ≡ get_or xs i r → slice_get xs i ≡ Some r
item_there xs i r x at e = at ∙ ap (λ z. Some z) (sym (e ∙ get_or_from_slice_get xs i x r at))

pub same_item : {X : Type 0} (o : Option X) (x y : X) → o ≡ Some x → o ≡ Some y → x ≡ y
same_item o x y e f = some_same (sym e ∙ f)
  where
    some_same : Some x ≡ Some y → x ≡ y
    some_same h = cc

pub put_done : (s : Document) (ks new : List KeptTable) (cell : CellId) (v w : Option CellValue) (i j p : ℕ) → IsPutInTables ks new i j p v w → IsFirst kept_table_id cell.table ks i
    → ((k : KeptTable) → slice_get ks i ≡ Some k → IsFirst kept_column_id cell.column k.columns.items j)
    → (rows : List ℕ) → rows ≡ (grid_at s cell.table).rows → IsAscending rows → slice_get rows p ≡ Some cell.row
    → ((k : KeptTable) (e : KeptColumn) → slice_get ks i ≡ Some k → slice_get k.columns.items j ≡ Some e → p < length e.values.items)
    → (d : CellId) → held_at s new d ≡ cond (same_cell cell d) v (held_at s ks d)
put_done s ks new cell v w i j p done first_table first_column rows is ascending at within d =
    let k = done.was in
    let e = done.put.was in
    ap (λ l. held_at s l d) done.tables
    ∙ held-put s ks cell v i k first_table done.here j e (first_column k done.here) done.put.here p (subst (λ l. slice_get l p ≡ Some cell.row) is at) (within k e done.here done.put.here) (subst IsAscending is ascending)
    done.is done.put.is (done.put.named ∙ (find-first kept_table_id ks cell.table i k first_table done.here).1)
    (done.put.put.named ∙ (find-first kept_column_id k.columns.items cell.column j e (first_column k done.here) done.put.here).1)
    done.put.columns done.put.put.values d
