-- How changes of maps within maps show in what stands at cells.
use Rattle.std.proofs.Common.{◌≡◌, ◌∙◌, ℕ, Bool, true, false, cond, nat_eq, ◌&&◌, List, [], ◌∷◌, length, Option, Some, None, Result, Ok, Err, OnErr, refl, sym, ap, subst, arith}
use Rattle.std.proofs.lemmas.Bool.Decides.{nat_tests}
use Rattle.std.proofs.lemmas.Map.Text.{is_eq-slice_cmp}
use Rattle.std.proofs.lemmas.Slice.Eq.{bytes_eq-Decides}
use Rattle.std.specs.BTreeMap.{BTreeMap, UpdatesBy, get}
use Rattle.std.specs.Map.{lookup}
use Rattle.std.specs.Option.{is_some, unwrap_or}
use Rattle.std.specs.Ordering.{is_eq, nat_cmp}
use Rattle.std.specs.Str.{bytes_eq}
use Rattle.std.specs.declared.cmp.Ordering.{Ordering}
use mathlib.Core.Path.{fun_ext}
use Rattle.cell_types.specs.declared.cell.CellId.{CellId}
use Rattle.cell_types.specs.declared.value.CellValue.{CellValue}
use Rattle.cell_types.specs.declared.value.CellValue.TheVariants.{Null}
use Rattle.doc_model.proofs.ByIdsLaws.{bytes_itself}
use Rattle.shot_cells.specs.Places.{ByCell, Rows, Columns, HasPlace, Places, RoomFor, by_name, held, place_at, with_one}

pub same_name : (a b : List ℕ) → bytes_eq a b ≡ true → a ≡ b
same_name a b is = (bytes_eq-Decides a b).0 is

is_eq-nat_cmp : (a b : ℕ) → is_eq (nat_cmp a b) ≡ nat_eq a b
is_eq-nat_cmp a b = grind (arith, nat_tests)

pub any_err : {A E : Type 0} {P : Type 0} (r : Result A E) → P → OnErr r P
any_err (Ok a) p = tt
any_err (Err e) p = p

-- ---- one map

module _ {X : Type 0} (old new : BTreeMap (List ℕ) X) (name : List ℕ) (w : Option X) (is : UpdatesBy by_name (by_name name) old new w) where
  -- what a map has after a change at a name
  pub named_after : (other : List ℕ) → get by_name new other ≡ cond (bytes_eq name other) w (get by_name old other)
  named_after other = is.0 other ∙ ap (λ b. cond b w (get by_name old other)) (is_eq-slice_cmp name other)

-- the same of rows
pub row_after : (old new : Rows) (row : ℕ) (w : Option CellValue) → UpdatesBy nat_cmp (nat_cmp row) old new w
    → (other : ℕ) → get nat_cmp new other ≡ cond (nat_eq row other) w (get nat_cmp old other)
row_after old new row w is other = is.0 other ∙ ap (λ b. cond b w (get nat_cmp old other)) (is_eq-nat_cmp row other)

-- nothing is at a key of a map without entries
pub nothing_held : {K X : Type 0} (test : K → Bool) (entries : List (K × X)) → length entries ≡ 0 → lookup test entries ≡ None
nothing_held test [] is = refl
nothing_held test (e ∷ es) is = absurd (omega arith)

-- a map that is empty is let go
pub gone_empty : {K X : Type 0} (order : K → K → Ordering) (old new : BTreeMap (List ℕ) (BTreeMap K X)) (name : List ℕ) (inner : BTreeMap K X)
    → Some inner ≡ get by_name old name → length inner.entries ≡ 0 → UpdatesBy by_name (by_name name) old new None
    → (other : List ℕ) (key : K) → held order (get by_name new other) key ≡ held order (get by_name old other) key
gone_empty {K} order old new name inner was empty is other key = ap (λ o. held order o key) (named_after old new name None is other) ∙ by (bytes_eq name other) refl
  where
    by : (b : Bool) → bytes_eq name other ≡ b → held order (cond b None (get by_name old other)) key ≡ held order (get by_name old other) key
    by true e =
        sym (nothing_held (λ k. is_eq (order key k)) inner.entries empty)
        ∙ ap (λ o. held order o key) (was ∙ ap (get by_name old) (same_name name other e))
    by false e = refl

-- ---- a change at a cell that has a place

module _ (c : CellId) (w : Option CellValue) (old new : Places) (columns columns_now : Columns) (values values_now : Rows)
    (table_was : Some columns ≡ get by_name old c.table) (table_is : UpdatesBy by_name (by_name c.table) old new (Some columns_now))
    (column_was : Some values ≡ get by_name columns c.column) (column_is : UpdatesBy by_name (by_name c.column) columns columns_now (Some values_now))
    (row_is : UpdatesBy nat_cmp (nat_cmp c.row) values values_now w) where
  in_column : (k : List ℕ) (r : ℕ) (b : Bool) → bytes_eq c.column k ≡ b
      → held nat_cmp (cond b (Some values_now) (get by_name columns k)) r ≡ cond (b && nat_eq c.row r) w (held nat_cmp (get by_name columns k) r)
  in_column k r true e =
      row_after values values_now c.row w row_is r
      ∙ ap (λ o. cond (nat_eq c.row r) w (held nat_cmp o r)) (column_was ∙ ap (get by_name columns) (same_name c.column k e))
  in_column k r false e = refl

  in_columns : (k : List ℕ) (r : ℕ) → held nat_cmp (get by_name columns_now k) r ≡ cond (bytes_eq c.column k && nat_eq c.row r) w (held nat_cmp (get by_name columns k) r)
  in_columns k r = ap (λ o. held nat_cmp o r) (named_after columns columns_now c.column (Some values_now) column_is k) ∙ in_column k r (bytes_eq c.column k) refl

  in_table : (t k : List ℕ) (r : ℕ) (b : Bool) → bytes_eq c.table t ≡ b
      → held nat_cmp (held by_name (cond b (Some columns_now) (get by_name old t)) k) r ≡ cond (b && (bytes_eq c.column k && nat_eq c.row r)) w (place_at old t k r)
  in_table t k r true e =
      in_columns k r
      ∙ ap (λ o. cond (bytes_eq c.column k && nat_eq c.row r) w (held nat_cmp (held by_name o k) r)) (table_was ∙ ap (get by_name old) (same_name c.table t e))
  in_table t k r false e = refl

  pub placed_through : place_at new ≡ with_one c w (place_at old)
  placed_through = fun_ext (λ t. fun_ext (λ k. fun_ext (λ r.
      ap (λ o. held nat_cmp (held by_name o k) r) (named_after old new c.table (Some columns_now) table_is t) ∙ in_table t k r (bytes_eq c.table t) refl)))

-- a cell without a place loses none
pub none_taken : (f : ByCell (Option CellValue)) (c : CellId) → f c.table c.column c.row ≡ None → f ≡ with_one c None f
none_taken f c none = fun_ext (λ t. fun_ext (λ k. fun_ext (λ r. by_table t k r (bytes_eq c.table t) refl)))
  where
    by_row : (t k : List ℕ) (r : ℕ) → c.table ≡ t → c.column ≡ k → (b : Bool) → nat_eq c.row r ≡ b → f t k r ≡ cond b None (f t k r)
    by_row t k r et ek true e =
        ap (λ n. f n k r) (sym et) ∙ ap (λ n. f c.table n r) (sym ek) ∙ ap (f c.table c.column) (same_row c.row r e) ∙ none
      where
        same_row : (a b : ℕ) → nat_eq a b ≡ true → b ≡ a
        same_row a b e = grind (arith, nat_tests)
    by_row t k r et ek false e = refl

    by_column : (t k : List ℕ) (r : ℕ) → c.table ≡ t → (b : Bool) → bytes_eq c.column k ≡ b → f t k r ≡ cond (b && nat_eq c.row r) None (f t k r)
    by_column t k r et true e = by_row t k r et (same_name c.column k e) (nat_eq c.row r) refl
    by_column t k r et false e = refl

    by_table : (t k : List ℕ) (r : ℕ) (b : Bool) → bytes_eq c.table t ≡ b → f t k r ≡ cond (b && (bytes_eq c.column k && nat_eq c.row r)) None (f t k r)
    by_table t k r true e = by_column t k r (same_name c.table t e) (bytes_eq c.column k) refl
    by_table t k r false e = refl

-- ---- room

pub room_same : (o : Option CellValue) → RoomFor o o
room_same None = refl
room_same (Some v) = refl

-- room under a name at which something empty may be new
module _ {V J : Type 0} (at : Option V → J → Option CellValue) (old mid new : BTreeMap (List ℕ) V) (name : List ℕ) (empty was now : V)
    (none : (j : J) → at (Some empty) j ≡ at None j)
    (made : (other : List ℕ) → get by_name mid other ≡ cond (bytes_eq name other) (Some (unwrap_or (get by_name old name) empty)) (get by_name old other))
    (there : Some was ≡ get by_name mid name)
    (after : UpdatesBy by_name (by_name name) mid new (Some now))
    (room : (j : J) → RoomFor (at (Some was) j) (at (Some now) j)) where
  made_here : Some was ≡ Some (unwrap_or (get by_name old name) empty)
  made_here = there ∙ made name ∙ ap (λ b. cond b (Some (unwrap_or (get by_name old name) empty)) (get by_name old name)) (bytes_itself name)

  here : (j : J) (o : Option V) → Some was ≡ Some (unwrap_or o empty) → RoomFor (at o j) (at (Some now) j)
  here j None is = subst (λ p. RoomFor p (at (Some now) j)) (ap (λ o. at o j) is ∙ none j) (room j)
  here j (Some v) is = subst (λ o. RoomFor (at o j) (at (Some now) j)) is (room j)

  by : (other : List ℕ) (j : J) (b : Bool) → bytes_eq name other ≡ b → RoomFor (at (get by_name old other) j) (at (cond b (Some now) (get by_name mid other)) j)
  by other j true e = subst (λ n. RoomFor (at (get by_name old n) j) (at (Some now) j)) (same_name name other e) (here j (get by_name old name) made_here)
  by other j false e =
      subst (λ o. RoomFor (at (get by_name old other) j) (at o j))
      (sym (made other ∙ ap (λ b. cond b (Some (unwrap_or (get by_name old name) empty)) (get by_name old other)) e)) (room_same (at (get by_name old other) j))

  pub made_room : (other : List ℕ) (j : J) → RoomFor (at (get by_name old other) j) (at (get by_name new other) j)
  made_room other j = subst (λ o. RoomFor (at (get by_name old other) j) (at o j)) (sym (named_after mid new name (Some now) after other)) (by other j (bytes_eq name other) refl)

-- a row that comes has Null
pub row_room : (old new : Rows) (row : ℕ) → get nat_cmp old row ≡ None → UpdatesBy nat_cmp (nat_cmp row) old new (Some Null)
    → (other : ℕ) → RoomFor (get nat_cmp old other) (get nat_cmp new other)
row_room old new row none is other = subst (RoomFor (get nat_cmp old other)) (sym (row_after old new row (Some Null) is other)) (by (nat_eq row other) refl)
  where
    same_row : (a b : ℕ) → nat_eq a b ≡ true → a ≡ b
    same_row a b e = grind (arith, nat_tests)

    by : (b : Bool) → nat_eq row other ≡ b → RoomFor (get nat_cmp old other) (cond b (Some Null) (get nat_cmp old other))
    by true e = subst (λ o. RoomFor o (Some Null)) (sym none ∙ ap (get nat_cmp old) (same_row row other e)) refl
    by false e = room_same (get nat_cmp old other)

-- ---- names in one map

no_some : {X : Type 0} (o : Option X) → is_some o ≡ false → o ≡ None
no_some None is = refl
no_some (Some x) is = absurd (cc)

some_there : {X : Type 0} (o : Option X) (empty : X) → is_some o ≡ true → o ≡ Some (unwrap_or o empty)
some_there None empty is = absurd (cc)
some_there (Some x) empty is = refl

pub nothing_at : {X : Type 0} (o : Option X) (b : Bool) → b ≡ is_some o → b ≡ false → o ≡ None
nothing_at o b is lacks = no_some o (sym is ∙ lacks)

-- a name that was there stays
pub already_named : {X : Type 0} (m : BTreeMap (List ℕ) X) (name : List ℕ) (empty : X) → is_some (get by_name m name) ≡ true
    → (other : List ℕ) → get by_name m other ≡ cond (bytes_eq name other) (Some (unwrap_or (get by_name m name) empty)) (get by_name m other)
already_named m name empty there other = by (bytes_eq name other) refl
  where
    by : (b : Bool) → bytes_eq name other ≡ b → get by_name m other ≡ cond b (Some (unwrap_or (get by_name m name) empty)) (get by_name m other)
    by true e = ap (get by_name m) (sym (same_name name other e)) ∙ some_there (get by_name m name) empty there
    by false e = refl

-- a name that comes has what is new
pub newly_named : {X : Type 0} (old new : BTreeMap (List ℕ) X) (key name : List ℕ) (empty : X) → key ≡ name → is_some (get by_name old name) ≡ false
    → UpdatesBy by_name (by_name key) old new (Some empty)
    → (other : List ℕ) → get by_name new other ≡ cond (bytes_eq name other) (Some (unwrap_or (get by_name old name) empty)) (get by_name old other)
newly_named old new key name empty same none is other =
    named_after old new key (Some empty) is other
    ∙ ap (λ k. cond (bytes_eq k other) (Some empty) (get by_name old other)) same
    ∙ ap (λ o. cond (bytes_eq name other) (Some (unwrap_or o empty)) (get by_name old other)) (sym (no_some (get by_name old name) none))

-- ---- where a place cannot be missing

pub no_table : (tables : Places) (c : CellId) → None ≡ get by_name tables c.table → HasPlace tables c → ⊥
no_table tables c none there =
    let lost : is_some {T = CellValue} (held nat_cmp (held by_name None c.column) c.row) ≡ true = subst (λ o. is_some {T = CellValue} (held nat_cmp (held by_name o c.column) c.row) ≡ true) (sym none) there in
    absurd (cc)

pub no_column : (tables : Places) (c : CellId) (columns : Columns) → Some columns ≡ get by_name tables c.table → None ≡ get by_name columns c.column → HasPlace tables c → ⊥
no_column tables c columns some none there =
    let first : is_some {T = CellValue} (held nat_cmp (get by_name columns c.column) c.row) ≡ true = subst (λ o. is_some {T = CellValue} (held nat_cmp (held by_name o c.column) c.row) ≡ true) (sym some) there in
    let lost : is_some {T = CellValue} (held nat_cmp None c.row) ≡ true = subst (λ o. is_some {T = CellValue} (held nat_cmp o c.row) ≡ true) (sym none) first in
    absurd (cc)

pub no_row : (tables : Places) (c : CellId) (columns : Columns) (values : Rows) → Some columns ≡ get by_name tables c.table → Some values ≡ get by_name columns c.column
    → get nat_cmp values c.row ≡ None → HasPlace tables c → ⊥
no_row tables c columns values some at none there =
    let first : is_some {T = CellValue} (held nat_cmp (get by_name columns c.column) c.row) ≡ true = subst (λ o. is_some {T = CellValue} (held nat_cmp (held by_name o c.column) c.row) ≡ true) (sym some) there in
    let next : is_some {T = CellValue} (get nat_cmp values c.row) ≡ true = subst (λ o. is_some {T = CellValue} (held nat_cmp o c.row) ≡ true) (sym at) first in
    absurd (cc)

-- ---- maps that are let go

-- a change within a table that shows nowhere
pub same_inside : (old new : Places) (name : List ℕ) (was now : Columns) → Some was ≡ get by_name old name → UpdatesBy by_name (by_name name) old new (Some now)
    → ((k : List ℕ) (r : ℕ) → held nat_cmp (get by_name now k) r ≡ held nat_cmp (get by_name was k) r) → place_at new ≡ place_at old
same_inside old new name was now there is same = fun_ext (λ t. fun_ext (λ k. fun_ext (λ r.
    ap (λ o. held nat_cmp (held by_name o k) r) (named_after old new name (Some now) is t) ∙ by t k r (bytes_eq name t) refl)))
  where
    by : (t k : List ℕ) (r : ℕ) (b : Bool) → bytes_eq name t ≡ b → held nat_cmp (held by_name (cond b (Some now) (get by_name old t)) k) r ≡ place_at old t k r
    by t k r true e = same k r ∙ ap (λ o. held nat_cmp (held by_name o k) r) (there ∙ ap (get by_name old) (same_name name t e))
    by t k r false e = refl

-- tables that hold the same columns
pub same_columns : (old new : Places) → ((t k : List ℕ) → held by_name (get by_name new t) k ≡ held by_name (get by_name old t) k) → place_at new ≡ place_at old
same_columns old new same = fun_ext (λ t. fun_ext (λ k. fun_ext (λ r. ap (λ o. held nat_cmp o r) (same t k))))
