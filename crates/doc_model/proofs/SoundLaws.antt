-- What keeps the columns, rows and cells of a table sound.
use Rattle.std.proofs.Common.{ℕ, Bool, true, false, cond, not, ◌||◌, List, [], ◌∷◌, ◌≡◌, ◌<◌, length, refl, sym, ap, subst, ◌∙◌, Option, Some, None, unwrap_or, eqb, ltb}
use Rattle.std.proofs.lemmas.Bool.{false≢true, and_parts, both_ways, ltb-true}
use Rattle.std.proofs.lemmas.Slice.Eq.{bytes_eq-Decides}
use Rattle.std.specs.List.{list_all, AllByRecursion}
use Rattle.std.specs.Str.{bytes_eq}
use Rattle.cell_types.specs.declared.column_type.ColType.{ColType}
use Rattle.cell_types.specs.declared.column_type.ColType.TheVariants as type
use Rattle.cell_types.specs.declared.value.CellValue.{CellValue}
use Rattle.cell_types.specs.declared.value.CellValue.TheVariants.{Null}
use Rattle.doc_model.specs.declared.column.CellColumn.{CellColumn}
use Rattle.doc_model.specs.declared.column.ColDef.{ColDef}
use Rattle.doc_model.specs.ByIds.{find_id, has_id, AreDistinct, are_distinct, without_id}
use Rattle.doc_model.specs.Rows.{has, insert_rows, without, IsAscending}
use Rattle.doc_model.specs.Grid.{Grid, grid_of, cell}
use Rattle.doc_model.specs.Records.{or_else, value_for, given, given_id, add_rows, update_rows, remove_rows}
use Rattle.doc_model.specs.Column.{column_id, column_row, start_of, is_base, is_sound_info, may_hold}
use Rattle.cell_types.specs.Conversion.{default_value}
use Rattle.cell_types.specs.ColumnRange.{is_null}
use Rattle.doc_model.specs.Document.{put_by_row}
use Rattle.doc_model.specs.Sound.{IsSoundGrid}
use Rattle.doc_model.specs.Valid.{passes, from_one, is_data, gives_column, gives_data}
use Rattle.doc_model.specs.Apply.{add_column, remove_column}
use Rattle.doc_model.proofs.Choices.{cond_true, cond_false, each_true, each_filter, each_weaker, false_from, parts_3}
use Rattle.doc_model.proofs.ByIdsLaws.{bytes_apart, found_id, found_all, found_has, find-without_id}
use Rattle.doc_model.proofs.RowsLaws.{each_has, each_at, has-filter, has-insert_rows, IsAscending-insert_rows, IsAscending-filter}
use Rattle.doc_model.proofs.GridLaws.{cell-grid_of, IsGrid-grid_of}
use Rattle.doc_model.proofs.RecordsLaws.{given_unnamed}
use Rattle.doc_model.proofs.ByRowLaws.{each_put, AreDistinct-put_by_row, AreDistinct-filter, find-put_by_row}

pub null_is : (v : CellValue) → is_null v ≡ true → v ≡ Null
null_is Null e = refl
null_is _ e = absurd (false≢true e)

pub base_null : (v : CellValue) → is_null v ≡ true → is_base v ≡ true
base_null v e = ap is_base (null_is v e)

pub base_default : (t : ColType) → is_base (default_value t) ≡ true
base_default type.Any = refl
base_default type.Text = refl
base_default type.Int = refl
base_default type.Bool = refl
base_default type.Date = refl
base_default (type.Ref t) = refl
base_default (type.RefList t) = refl

-- what a column may hold is a base value
pub base_held : (d : ColDef) (v : CellValue) → may_hold d v ≡ true → is_base v ≡ true
base_held d v e =
    elim d.info.is_formula as (λ b. cond b (is_null v) (is_base v) ≡ true → is_base v ≡ true) [ true ↦ λ e. base_null v e | false ↦ λ e. e ] e

-- a formula column holds Null
pub null_held : (d : ColDef) (v : CellValue) → d.info.is_formula ≡ true → may_hold d v ≡ true → v ≡ Null
null_held d v formula e = null_is v (sym (cond_true d.info.is_formula (is_null v) (is_base v) formula) ∙ e)

pub held_null : (d : ColDef) → may_hold d Null ≡ true
held_null d = elim d.info.is_formula as (λ b. cond b (is_null Null) (is_base Null) ≡ true) [ true ↦ refl | false ↦ refl ]

pub held_base : (d : ColDef) (v : CellValue) → d.info.is_formula ≡ false → is_base v ≡ true → may_hold d v ≡ true
held_base d v plain e = cond_false d.info.is_formula (is_null v) (is_base v) plain ∙ e

-- a new cell may stand in its column
pub held_start : (d : ColDef) → may_hold d (start_of d) ≡ true
held_start d = elim d.info.is_formula as (λ b. cond b (is_null (cond b Null (default_value d.info.ty))) (is_base (cond b Null (default_value d.info.ty))) ≡ true) [ true ↦ refl | false ↦ base_default d.info.ty ]

-- base, where there is a value
abbrev base_or_none : Option CellValue → Bool
base_or_none None = true
base_or_none (Some v) = is_base v

either : (o p : Option CellValue) → base_or_none o ≡ true → base_or_none p ≡ true → base_or_none (or_else o p) ≡ true
either None p a b = b
either (Some v) p a b = a

base_for : (rows : List ℕ) (vs : List CellValue) (r : ℕ) → list_all is_base vs ≡ true → base_or_none (value_for rows vs r) ≡ true
base_for [] vs r h = refl
base_for (q ∷ rows) [] r h = refl
base_for (q ∷ rows) (v ∷ vs) r h =
    let both : (is_base v ≡ true) × (list_all is_base vs ≡ true) = and_parts (is_base v) (list_all is_base vs) h in
    either (value_for rows vs r) (cond (eqb q r) (Some v) None) (base_for rows vs r both.1)
    (elim (eqb q r) as (λ b. base_or_none (cond b (Some v) None) ≡ true) [ true ↦ both.0 | false ↦ refl ])

-- what is given is a base value
pub base_given : (rows : List ℕ) (ks : List CellColumn) (c : List ℕ) (r : ℕ) → AllByRecursion (λ k. list_all is_base k.values ≡ true) ks → base_or_none (given rows ks c r) ≡ true
base_given rows [] c r h = refl
base_given rows (k ∷ ks) c r h =
    either (given rows ks c r) (cond (bytes_eq k.id c) (value_for rows k.values r) None) (base_given rows ks c r h.1)
    (elim (bytes_eq k.id c) as (λ b. base_or_none (cond b (value_for rows k.values r) None) ≡ true) [ true ↦ base_for rows k.values r h.0 | false ↦ refl ])

base_else : (o : Option CellValue) (x : CellValue) → base_or_none o ≡ true → is_base x ≡ true → is_base (unwrap_or o x) ≡ true
base_else None x a b = b
base_else (Some v) x a b = a

-- what validity says of the given columns
pub record GivesData (g : Grid ColDef) (ks : List CellColumn) : Type 0 where
  pub data' : AllByRecursion (λ k. is_data g k.id ≡ true) ks
  pub base : AllByRecursion (λ k. list_all is_base k.values ≡ true) ks

gives_parts : (g : Grid ColDef) (rows : List ℕ) (k : CellColumn) → gives_column g rows k ≡ true → (is_data g k.id ≡ true) × (list_all is_base k.values ≡ true)
gives_parts g rows k e = let three : (is_data g k.id ≡ true) × (eqb (length k.values) (length rows) ≡ true) × (list_all is_base k.values ≡ true) = parts_3 (is_data g k.id) (eqb (length k.values) (length rows)) (list_all is_base k.values) e in (three.0, three.2)

pub gives_from : (g : Grid ColDef) (rows : List ℕ) (ks : List CellColumn) → gives_data g rows ks ≡ true → GivesData g ks
gives_from g rows ks h =
    let each : AllByRecursion (λ k. gives_column g rows k ≡ true) ks = each_true (gives_column g rows) ks (and_parts (are_distinct given_id ks) (list_all (gives_column g rows) ks) h).1 in
    record {
      data' = each_weaker (λ k. gives_column g rows k ≡ true) (λ k. is_data g k.id ≡ true) (λ k e. (gives_parts g rows k e).0) ks each;
      base = each_weaker (λ k. gives_column g rows k ≡ true) (λ k. list_all is_base k.values ≡ true) (λ k e. (gives_parts g rows k e).1) ks each;
    }

-- no formula column is given
pub formula_unnamed : (g : Grid ColDef) (ks : List CellColumn) (d : ColDef) → GivesData g ks → find_id column_id d.id g.columns ≡ Some d → d.info.is_formula ≡ true → has_id given_id ks d.id ≡ false
formula_unnamed g ks d gives found formula =
    false_from (has_id given_id ks d.id) (λ there.
    let k : (k : CellColumn) × (find_id given_id d.id ks ≡ Some k) = found_has given_id d.id ks there in
    let is : is_data g k.0.id ≡ true = found_all given_id (λ k. is_data g k.id ≡ true) d.id ks k.0 gives.data' k.1 in
    let no : is_data g k.0.id ≡ false = ap (is_data g) (found_id given_id d.id ks k.0 k.1) ∙ ap (λ o. passes o (λ (d : ColDef). not d.info.is_formula)) found ∙ ap not formula in
    both_ways (is_data g k.0.id) no is)

pub from_one_each : (rows : List ℕ) → from_one rows ≡ true → AllByRecursion (λ r. 0 < r) rows
from_one_each rows h = each_weaker (λ r. ltb 0 r ≡ true) (λ r. 0 < r) (λ r e. ltb-true 0 r e) rows (each_true (λ r. ltb 0 r) rows h)

pub IsSoundGrid-grid_of : (cs : List ColDef) (rs : List ℕ) (f : ColDef → ℕ → CellValue) → AreDistinct column_id cs → IsAscending rs → AllByRecursion (λ r. 0 < r) rs → AllByRecursion (λ d. is_sound_info d.info ≡ true) cs
    → ((d : ColDef) (r : ℕ) → find_id column_id d.id cs ≡ Some d → has rs r ≡ true → may_hold d (f d r) ≡ true) → IsSoundGrid (grid_of cs rs f)
IsSoundGrid-grid_of cs rs f s a one infos h = record {
  is_grid = IsGrid-grid_of column_id cs rs f s a;
  from_one = one;
  infos = infos;
  holds = λ d r found here. ap (may_hold d) (cell-grid_of column_id cs rs f d r found here) ∙ h d r found here;
}

pub IsSoundGrid-add_rows : (rows : List ℕ) (ks : List CellColumn) (g : Grid ColDef) → IsSoundGrid g → GivesData g ks → from_one rows ≡ true → IsSoundGrid (add_rows column_id start_of rows ks g)
IsSoundGrid-add_rows rows ks g s gives one =
    IsSoundGrid-grid_of g.columns (insert_rows rows g.rows) (λ d r. cond (has rows r) (unwrap_or (given rows ks d.id r) (start_of d)) (cell column_id g d.id r))
    s.is_grid.distinct (IsAscending-insert_rows rows g.rows s.is_grid.ascending)
    (each_has (λ r. 0 < r) (insert_rows rows g.rows) (λ r here. from (has rows r) refl (sym (has-insert_rows rows g.rows r) ∙ here)))
    s.infos
    (λ d r found here.
    elim (has rows r) as (λ b. has rows r ≡ b → may_hold d (cond b (unwrap_or (given rows ks d.id r) (start_of d)) (cell column_id g d.id r)) ≡ true) [
      | true ↦ λ _. new d r found (d.info.is_formula) refl
      | false ↦ λ out. s.holds d r found (ap (λ b. b || has g.rows r) (sym out) ∙ sym (has-insert_rows rows g.rows r) ∙ here)
    ] refl)
  where
    from : {r : ℕ} (b : Bool) → has rows r ≡ b → (has rows r || has g.rows r) ≡ true → 0 < r
    from {r = r} true is e = each_at (λ q. 0 < q) rows r (from_one_each rows one) is
    from {r = r} false isnt e = each_at (λ q. 0 < q) g.rows r s.from_one (ap (λ b. b || has g.rows r) (sym isnt) ∙ e)

    new : (d : ColDef) (r : ℕ) → find_id column_id d.id g.columns ≡ Some d → (b : Bool) → d.info.is_formula ≡ b → may_hold d (unwrap_or (given rows ks d.id r) (start_of d)) ≡ true
    new d r found true formula = ap (λ o. may_hold d (unwrap_or o (start_of d))) (given_unnamed rows ks d.id r (formula_unnamed g ks d gives found formula)) ∙ held_start d
    new d r found false plain = held_base d (unwrap_or (given rows ks d.id r) (start_of d)) plain (base_else (given rows ks d.id r) (start_of d) (base_given rows ks d.id r gives.base) (base_held d (start_of d) (held_start d)))

pub IsSoundGrid-update_rows : (rows : List ℕ) (ks : List CellColumn) (g : Grid ColDef) → IsSoundGrid g → GivesData g ks → IsSoundGrid (update_rows column_id rows ks g)
IsSoundGrid-update_rows rows ks g s gives =
    IsSoundGrid-grid_of g.columns g.rows (λ d r. unwrap_or (given rows ks d.id r) (cell column_id g d.id r)) s.is_grid.distinct s.is_grid.ascending s.from_one s.infos
    (λ d r found here. new d r found here (d.info.is_formula) refl)
  where
    new : (d : ColDef) (r : ℕ) → find_id column_id d.id g.columns ≡ Some d → has g.rows r ≡ true → (b : Bool) → d.info.is_formula ≡ b → may_hold d (unwrap_or (given rows ks d.id r) (cell column_id g d.id r)) ≡ true
    new d r found here true formula = ap (λ o. may_hold d (unwrap_or o (cell column_id g d.id r))) (given_unnamed rows ks d.id r (formula_unnamed g ks d gives found formula)) ∙ s.holds d r found here
    new d r found here false plain = held_base d (unwrap_or (given rows ks d.id r) (cell column_id g d.id r)) plain (base_else (given rows ks d.id r) (cell column_id g d.id r) (base_given rows ks d.id r gives.base) (base_held d (cell column_id g d.id r) (s.holds d r found here)))

pub IsSoundGrid-remove_rows : (rows : List ℕ) (g : Grid ColDef) → IsSoundGrid g → IsSoundGrid (remove_rows column_id rows g)
IsSoundGrid-remove_rows rows g s =
    IsSoundGrid-grid_of g.columns (without rows g.rows) (λ d r. cell column_id g d.id r) s.is_grid.distinct (IsAscending-filter (λ r. not (has rows r)) g.rows s.is_grid.ascending)
    (each_filter (λ r. 0 < r) (λ r. not (has rows r)) g.rows s.from_one) s.infos
    (λ d r found here. s.holds d r found (and_parts (not (has rows r)) (has g.rows r) (sym (has-filter (λ r. not (has rows r)) g.rows r) ∙ here)).1)

pub IsSoundGrid-add_column : (d : ColDef) (g : Grid ColDef) → IsSoundGrid g → has_id column_id g.columns d.id ≡ false → is_sound_info d.info ≡ true → IsSoundGrid (add_column d g)
IsSoundGrid-add_column d g s fresh info =
    IsSoundGrid-grid_of (put_by_row column_row d g.columns) g.rows (λ e r. cond (bytes_eq e.id d.id) (start_of d) (cell column_id g e.id r))
    (AreDistinct-put_by_row column_row column_id d g.columns s.is_grid.distinct fresh) s.is_grid.ascending s.from_one
    (each_put column_row (λ e. is_sound_info e.info ≡ true) d g.columns info s.infos)
    (λ e r found here.
    let finds : cond (bytes_eq d.id e.id) (Some d) (find_id column_id e.id g.columns) ≡ Some e = sym (find-put_by_row column_row column_id d g.columns e.id fresh) ∙ found in
    elim (bytes_eq e.id d.id) as (λ b. bytes_eq e.id d.id ≡ b → may_hold e (cond b (start_of d) (cell column_id g e.id r)) ≡ true) [
      | true ↦ λ is.
          let turned : bytes_eq d.id e.id ≡ true = (bytes_eq-Decides d.id e.id).1 (sym ((bytes_eq-Decides e.id d.id).0 is)) in
          let some : Some d ≡ Some e = sym (cond_true (bytes_eq d.id e.id) (Some d) (find_id column_id e.id g.columns) turned) ∙ finds in
          let same : d ≡ e = cc in
          subst (λ x. may_hold x (start_of d) ≡ true) same (held_start d)
      | false ↦ λ apart. s.holds e r (sym (cond_false (bytes_eq d.id e.id) (Some d) (find_id column_id e.id g.columns) (bytes_apart e.id d.id apart)) ∙ finds) here
    ] refl)

pub IsSoundGrid-remove_column : (c : List ℕ) (g : Grid ColDef) → IsSoundGrid g → IsSoundGrid (remove_column c g)
IsSoundGrid-remove_column c g s =
    IsSoundGrid-grid_of (without_id column_id c g.columns) g.rows (λ d r. cell column_id g d.id r)
    (AreDistinct-filter column_id (λ d. not (bytes_eq (column_id d) c)) g.columns s.is_grid.distinct) s.is_grid.ascending s.from_one
    (each_filter (λ d. is_sound_info d.info ≡ true) (λ d. not (bytes_eq (column_id d) c)) g.columns s.infos)
    (λ d r found here.
    let finds : cond (bytes_eq c d.id) None (find_id column_id d.id g.columns) ≡ Some d = sym (find-without_id column_id c g.columns d.id) ∙ found in
    s.holds d r (elim (bytes_eq c d.id) as (λ b. cond b None (find_id column_id d.id g.columns) ≡ Some d → find_id column_id d.id g.columns ≡ Some d) [ true ↦ λ e. absurd (cc) | false ↦ λ e. e ] finds) here)
