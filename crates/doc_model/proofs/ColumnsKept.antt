-- A table stays sound where one column's name or info changes.
use Rattle.std.proofs.Common.{ℕ, Bool, true, false, cond, not, ◌||◌, List, [], ◌∷◌, map, ◌≡◌, length, refl, sym, ap, ◌∙◌, eqb}
use Rattle.std.proofs.lemmas.Slice.Eq.{bytes_eq-Decides}
use Rattle.std.specs.List.{AllByRecursion}
use Rattle.std.specs.Str.{bytes_eq}
use Rattle.cell_types.specs.declared.value.CellValue.{CellValue}
use Rattle.cell_types.specs.declared.value.CellValue.TheVariants.{Null}
use Rattle.doc_model.specs.declared.column.ColDef.{ColDef}
use Rattle.doc_model.specs.declared.column.ColInfo.{ColInfo}
use Rattle.doc_model.specs.ByIds.{has_id, AreDistinct, with_id}
use Rattle.doc_model.specs.Rows.{has}
use Rattle.doc_model.specs.Grid.{Grid, beside, cell}
use Rattle.doc_model.specs.Column.{column_id, is_base, is_sound_info, may_hold}
use Rattle.cell_types.specs.ColumnRange.{is_null}
use Rattle.doc_model.specs.Sound.{IsSoundGrid}
use Rattle.doc_model.specs.Valid.{all_null}
use Rattle.doc_model.specs.Apply.{with_column, with_name, with_info}
use Rattle.doc_model.proofs.Choices.{each_weaker, each_mapped, each_true, length_map}
use Rattle.doc_model.proofs.ByIdsLaws.{bytes_itself, bytes_apart, found_all, each_found, apart_has}
use Rattle.doc_model.proofs.RowsLaws.{each_at}
use Rattle.doc_model.proofs.SoundLaws.{base_held}
use Rattle.doc_model.proofs.ByRowLaws.{each_with_id}

beside-map : {K K' V : Type 0} (test : K' → Bool) (h : K → K') (ks : List K) (vs : List V) (d : V) → beside test (map h ks) vs d ≡ beside (λ k. test (h k)) ks vs d
beside-map test h [] vs d = refl
beside-map test h (k ∷ ks) [] d = refl
beside-map test h (k ∷ ks) (v ∷ vs) d = ap (λ r. cond (test (h k)) v r) (beside-map test h ks vs d)

beside_agree : {K V : Type 0} (p q : K → Bool) (ks : List K) (vs : List V) (d : V) → AllByRecursion (λ k. p k ≡ q k) ks → beside p ks vs d ≡ beside q ks vs d
beside_agree p q [] vs d h = refl
beside_agree p q (k ∷ ks) [] d h = refl
beside_agree p q (k ∷ ks) (v ∷ vs) d h = ap (λ b. cond b v (beside p ks vs d)) h.0 ∙ ap (λ r. cond (q k) v r) (beside_agree p q ks vs d h.1)

module _ {X : Type 0} (id : X → List ℕ) where
  -- a change of things that tells their ids apart as before
  abbrev pub Agrees : (X → X) → List X → Type 0
  Agrees h xs = AllByRecursion (λ e. AllByRecursion (λ k. bytes_eq (id (h k)) (id (h e)) ≡ bytes_eq (id k) (id e)) xs) xs

  pub AreDistinct-Agrees : (h : X → X) (xs : List X) → Agrees h xs → AreDistinct id xs → AreDistinct id (map h xs)
  AreDistinct-Agrees h xs a d = go xs (each_weaker (λ e. AllByRecursion (λ k. bytes_eq (id (h k)) (id (h e)) ≡ bytes_eq (id k) (id e)) xs) (λ e. AllByRecursion (λ k. bytes_eq (id (h k)) (id (h e)) ≡ bytes_eq (id k) (id e)) xs) (λ e k. k) xs a) d
    where
      row : (e : X) (ys : List X) → AllByRecursion (λ y. bytes_eq (id (h e)) (id (h y)) ≡ bytes_eq (id e) (id y)) ys → AllByRecursion (λ y. bytes_eq (id e) (id y) ≡ false) ys → AllByRecursion (λ y. bytes_eq (id (h e)) (id y) ≡ false) (map h ys)
      row e [] a d = tt
      row e (y ∷ ys) a d = (a.0 ∙ d.0, row e ys a.1 d.1)

      first : (e : X) (ys : List X) → AllByRecursion (λ y. AllByRecursion (λ k. bytes_eq (id (h k)) (id (h y)) ≡ bytes_eq (id k) (id y)) (e ∷ ys)) ys → AllByRecursion (λ y. bytes_eq (id (h e)) (id (h y)) ≡ bytes_eq (id e) (id y)) ys
      first e ys a = each_weaker (λ y. AllByRecursion (λ k. bytes_eq (id (h k)) (id (h y)) ≡ bytes_eq (id k) (id y)) (e ∷ ys)) (λ y. bytes_eq (id (h e)) (id (h y)) ≡ bytes_eq (id e) (id y)) (λ y p. p.0) ys a

      go : (ys : List X) → Agrees h ys → AreDistinct id ys → AreDistinct id (map h ys)
      go [] a d = tt
      go (e ∷ ys) a d = (
        row e ys (first e ys a.1) d.0,
        go ys (each_weaker (λ y. AllByRecursion (λ k. bytes_eq (id (h k)) (id (h y)) ≡ bytes_eq (id k) (id y)) (e ∷ ys)) (λ y. AllByRecursion (λ k. bytes_eq (id (h k)) (id (h y)) ≡ bytes_eq (id k) (id y)) ys) (λ y p. p.1) ys a.1) d.1,
      )

  -- a new id tells things apart as the old one did
  pub Agrees-new_id : (c new : List ℕ) (f : X → X) (xs : List X) → ((x : X) → id (f x) ≡ new) → has_id id xs new ≡ false → Agrees (λ x. cond (bytes_eq (id x) c) (f x) x) xs
  Agrees-new_id c new f xs named fresh =
      each_weaker (λ y. bytes_eq new (id y) ≡ false) (λ e. AllByRecursion (λ k. bytes_eq (id (h k)) (id (h e)) ≡ bytes_eq (id k) (id e)) xs)
      (λ e ne. each_weaker (λ y. bytes_eq new (id y) ≡ false) (λ k. bytes_eq (id (h k)) (id (h e)) ≡ bytes_eq (id k) (id e)) (λ k nk. pair k e nk ne) xs absent) xs absent
    where
      h : X → X
      h x = cond (bytes_eq (id x) c) (f x) x

      absent : AllByRecursion (λ y. bytes_eq new (id y) ≡ false) xs
      absent = apart_has id new xs fresh

      pair : (k e : X) → bytes_eq new (id k) ≡ false → bytes_eq new (id e) ≡ false → bytes_eq (id (cond (bytes_eq (id k) c) (f k) k)) (id (cond (bytes_eq (id e) c) (f e) e)) ≡ bytes_eq (id k) (id e)
      pair k e nk ne =
          elim (bytes_eq (id k) c) as (λ a. bytes_eq (id k) c ≡ a → bytes_eq (id (cond a (f k) k)) (id (cond (bytes_eq (id e) c) (f e) e)) ≡ bytes_eq (id k) (id e)) [
            | true ↦ λ ik. elim (bytes_eq (id e) c) as (λ b. bytes_eq (id e) c ≡ b → bytes_eq (id (f k)) (id (cond b (f e) e)) ≡ bytes_eq (id k) (id e)) [
              | true ↦ λ ie. ap (λ n. bytes_eq n (id (f e))) (named k) ∙ ap (bytes_eq new) (named e) ∙ bytes_itself new
                  ∙ sym (ap (λ n. bytes_eq n (id e)) ((bytes_eq-Decides (id k) c).0 ik) ∙ ap (bytes_eq c) ((bytes_eq-Decides (id e) c).0 ie) ∙ bytes_itself c)
              | false ↦ λ oe. ap (λ n. bytes_eq n (id e)) (named k) ∙ ne ∙ sym (ap (λ n. bytes_eq n (id e)) ((bytes_eq-Decides (id k) c).0 ik) ∙ bytes_apart (id e) c oe)
            ] refl
            | false ↦ λ ok. elim (bytes_eq (id e) c) as (λ b. bytes_eq (id e) c ≡ b → bytes_eq (id k) (id (cond b (f e) e)) ≡ bytes_eq (id k) (id e)) [
              | true ↦ λ ie. ap (bytes_eq (id k)) (named e) ∙ bytes_apart new (id k) nk ∙ sym (ap (bytes_eq (id k)) ((bytes_eq-Decides (id e) c).0 ie) ∙ ok)
              | false ↦ λ _. refl
            ] refl
          ] refl

-- a changed column keeps the table sound where ids stay apart and each cell may stand in its column
pub IsSoundGrid-with_column : (c : List ℕ) (f : ColDef → ColDef) (g : Grid ColDef) → IsSoundGrid g → Agrees column_id (λ d. cond (bytes_eq d.id c) (f d) d) g.columns
    → AllByRecursion (λ d. is_sound_info d.info ≡ true) (with_id column_id c f g.columns)
    → AllByRecursion (λ e. (r : ℕ) → has g.rows r ≡ true → may_hold (cond (bytes_eq e.id c) (f e) e) (cell column_id g e.id r) ≡ true) g.columns
    → IsSoundGrid (with_column c f g)
IsSoundGrid-with_column c f g s a infos hold = record {
  is_grid = record {
    distinct = AreDistinct-Agrees column_id h g.columns a s.is_grid.distinct;
    ascending = s.is_grid.ascending;
    height = s.is_grid.height;
    width = each_weaker (λ row. length row ≡ length g.columns) (λ row. length row ≡ length (map h g.columns)) (λ row e. e ∙ sym (length_map h g.columns)) g.cells s.is_grid.width;
  };
  from_one = s.from_one;
  infos = infos;
  holds = λ d r found here. found_all column_id (λ d. may_hold d (cell column_id (with_column c f g) d.id r) ≡ true) d.id (map h g.columns) d
      (each_mapped (λ d. may_hold d (cell column_id (with_column c f g) d.id r) ≡ true) h g.columns (each r here g.columns a hold)) found;
}
  where
    h : ColDef → ColDef
    h d = cond (bytes_eq d.id c) (f d) d

    row_at : ℕ → List CellValue
    row_at r = beside (λ q. eqb q r) g.rows g.cells []

    same : (e : ColDef) (r : ℕ) → AllByRecursion (λ k. bytes_eq (h k).id (h e).id ≡ bytes_eq k.id e.id) g.columns → cell column_id (with_column c f g) (h e).id r ≡ cell column_id g e.id r
    same e r agree =
        beside-map (λ d. bytes_eq (column_id d) (h e).id) h g.columns (row_at r) Null
        ∙ beside_agree (λ k. bytes_eq (h k).id (h e).id) (λ k. bytes_eq k.id e.id) g.columns (row_at r) Null agree

    each : (r : ℕ) → has g.rows r ≡ true → (es : List ColDef)
        → AllByRecursion (λ e. AllByRecursion (λ k. bytes_eq (h k).id (h e).id ≡ bytes_eq k.id e.id) g.columns) es
        → AllByRecursion (λ e. (r : ℕ) → has g.rows r ≡ true → may_hold (h e) (cell column_id g e.id r) ≡ true) es
        → AllByRecursion (λ e. may_hold (h e) (cell column_id (with_column c f g) (h e).id r) ≡ true) es
    each r here [] a k = tt
    each r here (e ∷ es) a k = (ap (may_hold (h e)) (same e r a.0) ∙ k.0 r here, each r here es a.1 k.1)

-- each cell may stand in its column
each_holds : (g : Grid ColDef) → IsSoundGrid g → AllByRecursion (λ e. (r : ℕ) → has g.rows r ≡ true → may_hold e (cell column_id g e.id r) ≡ true) g.columns
each_holds g s = each_found column_id (λ e. (r : ℕ) → has g.rows r ≡ true → may_hold e (cell column_id g e.id r) ≡ true) g.columns s.is_grid.distinct (λ e found r here. s.holds e r found here)

pub IsSoundGrid-with_name : (c new : List ℕ) (g : Grid ColDef) → IsSoundGrid g → has_id column_id g.columns new ≡ false → IsSoundGrid (with_column c (with_name new) g)
IsSoundGrid-with_name c new g s fresh =
    IsSoundGrid-with_column c (with_name new) g s (Agrees-new_id column_id c new (with_name new) g.columns (λ d. refl) fresh)
    (each_with_id column_id (λ d. is_sound_info d.info ≡ true) c (with_name new) g.columns (λ d _ i. i) s.infos)
    (each_weaker (λ e. (r : ℕ) → has g.rows r ≡ true → may_hold e (cell column_id g e.id r) ≡ true) (λ e. (r : ℕ) → has g.rows r ≡ true → may_hold (cond (bytes_eq e.id c) (with_name new e) e) (cell column_id g e.id r) ≡ true)
    (λ e k r here. elim (bytes_eq e.id c) as (λ b. may_hold (cond b (with_name new e) e) (cell column_id g e.id r) ≡ true) [ true ↦ k r here | false ↦ k r here ]) g.columns (each_holds g s))

pub IsSoundGrid-with_info : (c : List ℕ) (info : ColInfo) (g : Grid ColDef) → IsSoundGrid g → is_sound_info info ≡ true → (not info.is_formula || all_null g c) ≡ true → IsSoundGrid (with_column c (with_info info) g)
IsSoundGrid-with_info c info g s sound null =
    IsSoundGrid-with_column c (with_info info) g s
    (each g.columns)
    (each_with_id column_id (λ d. is_sound_info d.info ≡ true) c (with_info info) g.columns (λ d _ _. sound) s.infos)
    (each_weaker (λ e. (r : ℕ) → has g.rows r ≡ true → may_hold e (cell column_id g e.id r) ≡ true) (λ e. (r : ℕ) → has g.rows r ≡ true → may_hold (cond (bytes_eq e.id c) (with_info info e) e) (cell column_id g e.id r) ≡ true)
    (λ e k r here. elim (bytes_eq e.id c) as (λ b. bytes_eq e.id c ≡ b → may_hold (cond b (with_info info e) e) (cell column_id g e.id r) ≡ true) [
      | true ↦ λ is. new e r ((bytes_eq-Decides e.id c).0 is) here (k r here)
      | false ↦ λ _. k r here
    ] refl) g.columns (each_holds g s))
  where
    h : ColDef → ColDef
    h d = cond (bytes_eq d.id c) (with_info info d) d

    same : (d : ColDef) → (h d).id ≡ d.id
    same d = elim (bytes_eq d.id c) as (λ b. (cond b (with_info info d) d).id ≡ d.id) [ true ↦ refl | false ↦ refl ]

    inner : (e : ColDef) (ks : List ColDef) → AllByRecursion (λ k. bytes_eq (h k).id (h e).id ≡ bytes_eq k.id e.id) ks
    inner e [] = tt
    inner e (k ∷ ks) = (ap (λ n. bytes_eq n (h e).id) (same k) ∙ ap (bytes_eq k.id) (same e), inner e ks)

    outer : (es : List ColDef) → AllByRecursion (λ e. AllByRecursion (λ k. bytes_eq (h k).id (h e).id ≡ bytes_eq k.id e.id) g.columns) es
    outer [] = tt
    outer (e ∷ es) = (inner e g.columns, outer es)

    each : (es : List ColDef) → AllByRecursion (λ e. AllByRecursion (λ k. bytes_eq (h k).id (h e).id ≡ bytes_eq k.id e.id) g.columns) es
    each es = outer es

    -- the cell under the new info
    new : (e : ColDef) (r : ℕ) → e.id ≡ c → has g.rows r ≡ true → may_hold e (cell column_id g e.id r) ≡ true → may_hold (with_info info e) (cell column_id g e.id r) ≡ true
    new e r named here held =
        elim info.is_formula as (λ b. (not b || all_null g c) ≡ true → cond b (is_null (cell column_id g e.id r)) (is_base (cell column_id g e.id r)) ≡ true) [
          | true ↦ λ all. ap (λ n. is_null (cell column_id g n r)) named ∙ each_at (λ r. is_null (cell column_id g c r) ≡ true) g.rows r (each_true (λ r. is_null (cell column_id g c r)) g.rows all) here
          | false ↦ λ _. base_held e (cell column_id g e.id r) held
        ] null

-- a new info leaves all cells
pub cell-with_info : (c : List ℕ) (info : ColInfo) (g : Grid ColDef) (n : List ℕ) (r : ℕ) → cell column_id (with_column c (with_info info) g) n r ≡ cell column_id g n r
cell-with_info c info g n r =
    beside-map (λ d. bytes_eq (column_id d) n) h g.columns (beside (λ q. eqb q r) g.rows g.cells []) Null
    ∙ beside_agree (λ k. bytes_eq (h k).id n) (λ k. bytes_eq k.id n) g.columns (beside (λ q. eqb q r) g.rows g.cells []) Null (each g.columns)
  where
    h : ColDef → ColDef
    h d = cond (bytes_eq d.id c) (with_info info d) d

    each : (ks : List ColDef) → AllByRecursion (λ k. bytes_eq (h k).id n ≡ bytes_eq k.id n) ks
    each [] = tt
    each (k ∷ ks) = (elim (bytes_eq k.id c) as (λ b. bytes_eq (cond b (with_info info k) k).id n ≡ bytes_eq k.id n) [ true ↦ refl | false ↦ refl ], each ks)
