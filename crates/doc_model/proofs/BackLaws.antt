-- What undoes a change of a table's rows, cells and columns.
use Rattle.std.proofs.Common.{ℕ, Bool, true, false, cond, not, ◌||◌, ◌&&◌, List, [], ◌∷◌, map, filter, ◌≡◌, length, refl, sym, ap, subst, ◌∙◌, Some, None, unwrap_or, is_some, eqb}
use Rattle.std.proofs.lemmas.Bool.{false≢true, both_ways, or_right, eq-eqb}
use Rattle.std.proofs.lemmas.Slice.Eq.{bytes_eq-Decides}
use Rattle.std.specs.List.{list_all, AllByRecursion}
use Rattle.std.specs.Str.{bytes_eq}
use Rattle.cell_types.specs.declared.value.CellValue.{CellValue}
use Rattle.cell_types.specs.declared.value.CellValue.TheVariants.{Null}
use Rattle.doc_model.specs.declared.column.CellColumn.{CellColumn}
use Rattle.doc_model.specs.declared.column.ColDef.{ColDef}
use Rattle.doc_model.specs.declared.column.ColInfo.{ColInfo}
use Rattle.doc_model.specs.ByIds.{find_id, has_id, AreDistinct, are_distinct, by_id, without_id}
use Rattle.doc_model.specs.Rows.{has, insert_rows, without, all_in, none_in, IsAscending}
use Rattle.doc_model.specs.Grid.{Grid, IsGrid, cell}
use Rattle.doc_model.specs.Records.{given, given_id, add_rows, update_rows, remove_rows, column_of}
use Rattle.doc_model.specs.Column.{column_id, column_row, start_of, is_base}
use Rattle.cell_types.specs.Conversion.{default_value}
use Rattle.doc_model.specs.Document.{put_by_row}
use Rattle.doc_model.specs.Sound.{IsSoundGrid}
use Rattle.doc_model.specs.Valid.{passes, is_data, gives_column, gives_data}
use Rattle.doc_model.specs.Apply.{add_column, remove_column, with_column, with_name, with_info}
use Rattle.doc_model.specs.Inverse.{data_columns, old_columns}
use Rattle.doc_model.proofs.Choices.{cond_true, cond_false, each_weaker, each_mapped, each_passed, both_true, true_each, length_map, keep}
use Rattle.doc_model.proofs.ByIdsLaws.{bytes_itself, bytes_apart, found_id, found_all, has_found, each_found, has_id-find, has_id-map, find-filtered, find-without_id, has_id-by_id, IsByIds-by_id, each_by_id, AreDistinct-IsByIds, are_distinct-AreDistinct, AreDistinct-are_distinct}
use Rattle.doc_model.proofs.RowsLaws.{each_has, has-insert_rows, has-filter, without-insert_rows, insert_rows-again, insert_rows-all, none_in_at, all_in_at}
use Rattle.doc_model.proofs.GridLaws.{cell-grid_of, filled_again}
use Rattle.doc_model.proofs.RecordsLaws.{given_own, given_absent, given_unnamed}
use Rattle.doc_model.proofs.ByRowLaws.{find-put_by_row, without-put_by_row, put_by_row-without, with_id_back, with_id-with_id, with_id_same}
use Rattle.doc_model.proofs.SoundLaws.{base_held, null_held}

abbrev at : Grid ColDef → List ℕ → ℕ → CellValue
at g c r = cell column_id g c r

-- rows added and removed
pub remove_rows-add_rows : (rows : List ℕ) (ks : List CellColumn) (g : Grid ColDef) → IsGrid column_id g → none_in rows g.rows ≡ true
    → remove_rows column_id rows (add_rows column_id start_of rows ks g) ≡ g
remove_rows-add_rows rows ks g s fresh =
    let f : ColDef → ℕ → CellValue = λ d r. cond (has rows r) (unwrap_or (given rows ks d.id r) (start_of d)) (at g d.id r) in
    filled_again column_id g s g.columns (without rows (insert_rows rows g.rows)) (λ d r. at (add_rows column_id start_of rows ks g) d.id r) refl
    (without-insert_rows rows g.rows s.ascending fresh)
    (λ d r found here.
    cell-grid_of column_id g.columns (insert_rows rows g.rows) f d r found (has-insert_rows rows g.rows r ∙ or_right (has rows r) (has g.rows r) here)
    ∙ elim (has rows r) as (λ b. has rows r ≡ b → cond b (unwrap_or (given rows ks d.id r) (start_of d)) (at g d.id r) ≡ at g d.id r) [
      | true ↦ λ there. absurd (both_ways (has g.rows r) (none_in_at rows g.rows r fresh there) here)
      | false ↦ λ _. refl
    ] refl)

-- cells written and written back
pub update_rows-update_rows : (rows : List ℕ) (ks : List CellColumn) (g : Grid ColDef) → IsGrid column_id g
    → update_rows column_id rows (old_columns g rows ks) (update_rows column_id rows ks g) ≡ g
update_rows-update_rows rows ks g s =
    let after : Grid ColDef = update_rows column_id rows ks g in
    let old : List CellColumn = old_columns g rows ks in
    filled_again column_id g s g.columns g.rows (λ d r. unwrap_or (given rows old d.id r) (at after d.id r)) refl refl
    (λ d r found here.
    let now : at after d.id r ≡ unwrap_or (given rows ks d.id r) (at g d.id r) = cell-grid_of column_id g.columns g.rows (λ d r. unwrap_or (given rows ks d.id r) (at g d.id r)) d r found here in
    elim (has rows r) as (λ b. has rows r ≡ b → unwrap_or (given rows old d.id r) (at after d.id r) ≡ at g d.id r) [
      | true ↦ λ there.
          ap (λ o. unwrap_or o (at after d.id r)) (given_own column_id g rows given_id (by_id given_id ks) d.id r there ∙ ap (λ b. cond b (Some (at g d.id r)) None) (has_id-by_id given_id ks d.id))
          ∙ elim (has_id given_id ks d.id) as (λ b. has_id given_id ks d.id ≡ b → unwrap_or (cond b (Some (at g d.id r)) None) (at after d.id r) ≡ at g d.id r) [
            | true ↦ λ _. refl
            | false ↦ λ no. now ∙ ap (λ o. unwrap_or o (at g d.id r)) (given_unnamed rows ks d.id r no)
          ] refl
      | false ↦ λ out. ap (λ o. unwrap_or o (at after d.id r)) (given_absent rows old d.id r out) ∙ now ∙ ap (λ o. unwrap_or o (at g d.id r)) (given_absent rows ks d.id r out)
    ] refl)

-- what the cells of all data columns give
given_data : (g : Grid ColDef) (rows : List ℕ) (d : ColDef) (r : ℕ) → IsSoundGrid g → find_id column_id d.id g.columns ≡ Some d → has g.rows r ≡ true → has rows r ≡ true
    → unwrap_or (given rows (data_columns g rows) d.id r) (start_of d) ≡ at g d.id r
given_data g rows d r s found here there =
    let test : ColDef → Bool = λ (d : ColDef). not d.info.is_formula in
    ap (λ o. unwrap_or o (start_of d)) (given_own column_id g rows column_id (by_id column_id (filter test g.columns)) d.id r there
    ∙ ap (λ b. cond b (Some (at g d.id r)) None) (has_id-by_id column_id (filter test g.columns) d.id ∙ has_id-find column_id d.id (filter test g.columns)
    ∙ ap is_some (find-filtered column_id test d.id g.columns s.is_grid.distinct ∙ ap (keep test) found)))
    ∙ elim d.info.is_formula as (λ b. d.info.is_formula ≡ b → unwrap_or (cond (is_some (cond (not b) (Some d) None)) (Some (at g d.id r)) None) (cond b Null (default_value d.info.ty)) ≡ at g d.id r) [
      | true ↦ λ formula. sym (null_held d (at g d.id r) formula (s.holds d r found here))
      | false ↦ λ _. refl
    ] refl

-- rows removed and added back
pub add_rows-remove_rows : (rows : List ℕ) (g : Grid ColDef) → IsSoundGrid g → all_in rows g.rows ≡ true
    → add_rows column_id start_of rows (data_columns g rows) (remove_rows column_id rows g) ≡ g
add_rows-remove_rows rows g s there =
    let left : Grid ColDef = remove_rows column_id rows g in
    filled_again column_id g s.is_grid g.columns (insert_rows rows (without rows g.rows)) (λ d r. cond (has rows r) (unwrap_or (given rows (data_columns g rows) d.id r) (start_of d)) (at left d.id r)) refl
    (insert_rows-again rows g.rows s.is_grid.ascending there)
    (λ d r found here.
    elim (has rows r) as (λ b. has rows r ≡ b → cond b (unwrap_or (given rows (data_columns g rows) d.id r) (start_of d)) (at left d.id r) ≡ at g d.id r) [
      | true ↦ λ back. given_data g rows d r s found here back
      | false ↦ λ out. cell-grid_of column_id g.columns (without rows g.rows) (λ d r. at g d.id r) d r found (has-filter (λ q. not (has rows q)) g.rows r ∙ ap (λ b. not b && has g.rows r) out ∙ here)
    ] refl)

-- a table's columns without its rows
abbrev pub bare : Grid ColDef → Grid ColDef
bare g = record { columns = g.columns; rows = []; cells = [] }

-- all rows of a table added where there is none
pub add_rows-bare : (g : Grid ColDef) → IsSoundGrid g → add_rows column_id start_of g.rows (data_columns g g.rows) (bare g) ≡ g
add_rows-bare g s =
    filled_again column_id g s.is_grid g.columns (insert_rows g.rows []) (λ d r. cond (has g.rows r) (unwrap_or (given g.rows (data_columns g g.rows) d.id r) (start_of d)) (at (bare g) d.id r)) refl
    (insert_rows-all g.rows s.is_grid.ascending)
    (λ d r found here.
    cond_true (has g.rows r) (unwrap_or (given g.rows (data_columns g g.rows) d.id r) (start_of d)) (at (bare g) d.id r) here
    ∙ given_data g g.rows d r s found here here)

-- a column added and removed
pub remove_column-add_column : (d : ColDef) (g : Grid ColDef) → IsGrid column_id g → has_id column_id g.columns d.id ≡ false → remove_column d.id (add_column d g) ≡ g
remove_column-add_column d g s fresh =
    let f : ColDef → ℕ → CellValue = λ e r. cond (bytes_eq e.id d.id) (start_of d) (at g e.id r) in
    filled_again column_id g s (without_id column_id d.id (put_by_row column_row d g.columns)) g.rows (λ e r. at (add_column d g) e.id r)
    (without-put_by_row column_row column_id d g.columns fresh) refl
    (λ e r found here.
    let apart : bytes_eq e.id d.id ≡ false = other e found in
    cell-grid_of column_id (put_by_row column_row d g.columns) g.rows f e r
    (find-put_by_row column_row column_id d g.columns e.id fresh ∙ cond_false (bytes_eq d.id e.id) (Some d) (find_id column_id e.id g.columns) (bytes_apart e.id d.id apart) ∙ found) here
    ∙ cond_false (bytes_eq e.id d.id) (start_of d) (at g e.id r) apart)
  where
    other : (e : ColDef) → find_id column_id e.id g.columns ≡ Some e → bytes_eq e.id d.id ≡ false
    other e found =
        elim (bytes_eq e.id d.id) as (λ b. bytes_eq e.id d.id ≡ b → b ≡ false) [
          | true ↦ λ is. absurd (both_ways (has_id column_id g.columns d.id) fresh (ap (has_id column_id g.columns) (sym ((bytes_eq-Decides e.id d.id).0 is)) ∙ has_found column_id e.id g.columns e found))
          | false ↦ λ _. refl
        ] refl

module _ (d : ColDef) (g : Grid ColDef) (s : IsSoundGrid g) (ascend : IsAscending (map column_row g.columns)) (is_there : find_id column_id d.id g.columns ≡ Some d) where
  abbrev gone : Grid ColDef
  gone = remove_column d.id g

  abbrev again : Grid ColDef
  again = add_column d gone

  same_columns : put_by_row column_row d (without_id column_id d.id g.columns) ≡ g.columns
  same_columns = put_by_row-without column_row column_id d g.columns s.is_grid.distinct ascend is_there

  cell_other : (e : ColDef) (r : ℕ) → find_id column_id e.id g.columns ≡ Some e → has g.rows r ≡ true → bytes_eq e.id d.id ≡ false → at gone e.id r ≡ at g e.id r
  cell_other e r found here apart =
      cell-grid_of column_id (without_id column_id d.id g.columns) g.rows (λ e r. at g e.id r) e r
      (find-without_id column_id d.id g.columns e.id ∙ cond_false (bytes_eq d.id e.id) None (find_id column_id e.id g.columns) (bytes_apart e.id d.id apart) ∙ found) here

  -- a column whose cells are as new ones comes back by itself
  pub add_column-remove_column : ((r : ℕ) → has g.rows r ≡ true → start_of d ≡ at g d.id r) → again ≡ g
  add_column-remove_column same =
      filled_again column_id g s.is_grid (put_by_row column_row d (without_id column_id d.id g.columns)) g.rows (λ e r. cond (bytes_eq e.id d.id) (start_of d) (at gone e.id r)) same_columns refl
      (λ e r found here.
      elim (bytes_eq e.id d.id) as (λ b. bytes_eq e.id d.id ≡ b → cond b (start_of d) (at gone e.id r) ≡ at g e.id r) [
        | true ↦ λ is. same r here ∙ ap (λ n. at g n r) (sym ((bytes_eq-Decides e.id d.id).0 is))
        | false ↦ λ apart. cell_other e r found here apart
      ] refl)

  -- a column comes back, and then its cells
  pub update_rows-add_column : update_rows column_id g.rows (column_of column_id g g.rows d.id ∷ []) again ≡ g
  update_rows-add_column =
      filled_again column_id g s.is_grid (put_by_row column_row d (without_id column_id d.id g.columns)) g.rows
      (λ e r. unwrap_or (given g.rows (column_of column_id g g.rows d.id ∷ []) e.id r) (at again e.id r)) same_columns refl
      (λ e r found here.
      ap (λ o. unwrap_or o (at again e.id r)) (given_own column_id g g.rows column_id (d ∷ []) e.id r here)
      ∙ elim (bytes_eq d.id e.id) as (λ b. bytes_eq d.id e.id ≡ b → unwrap_or (cond (b || false) (Some (at g e.id r)) None) (at again e.id r) ≡ at g e.id r) [
        | true ↦ λ _. refl
        | false ↦ λ apart.
            cell-grid_of column_id (put_by_row column_row d (without_id column_id d.id g.columns)) g.rows (λ e r. cond (bytes_eq e.id d.id) (start_of d) (at gone e.id r)) e r (ap (find_id column_id e.id) same_columns ∙ found) here
            ∙ cond_false (bytes_eq e.id d.id) (start_of d) (at gone e.id r) (bytes_apart d.id e.id apart)
            ∙ cell_other e r found here (bytes_apart d.id e.id apart)
      ] refl)

-- a column renamed and renamed back
pub with_name-with_name : (c new : List ℕ) (g : Grid ColDef) → has_id column_id g.columns new ≡ false → with_column new (with_name c) (with_column c (with_name new) g) ≡ g
with_name-with_name c new g fresh =
    ap (λ cs. let x : Grid ColDef = record { columns = cs; rows = g.rows; cells = g.cells } in x)
    (with_id_back column_id c new (with_name new) (with_name c) g.columns (λ d. refl) (λ d e. ap (λ n. let x : ColDef = record { id = n; info = d.info; row = d.row } in x) (sym e)) fresh)

-- a column's info changed and changed back
pub with_info-with_info : (c : List ℕ) (info : ColInfo) (d : ColDef) (g : Grid ColDef) → AreDistinct column_id g.columns → find_id column_id c g.columns ≡ Some d → with_column c (with_info d.info) (with_column c (with_info info) g) ≡ g
with_info-with_info c info d g s found =
    ap (λ cs. let x : Grid ColDef = record { columns = cs; rows = g.rows; cells = g.cells } in x)
    (with_id-with_id column_id c (with_info info) (λ d. refl) (with_info d.info) g.columns
    ∙ with_id_same column_id c (λ e. with_info d.info (with_info info e)) g.columns d s found refl)

-- ---- what the inverses give is valid to give

pub gives_own : {X : Type 0} (g after : Grid ColDef) (rows : List ℕ) (name : X → List ℕ) (xs : List X) → AreDistinct name xs → AllByRecursion (λ x. is_data after (name x) ≡ true) xs
    → AllByRecursion (λ x. AllByRecursion (λ r. is_base (at g (name x) r) ≡ true) rows) xs → gives_data after rows (map (λ x. column_of column_id g rows (name x)) xs) ≡ true
gives_own g after rows name xs d data' base =
    both_true (are_distinct given_id (map (λ x. column_of column_id g rows (name x)) xs)) (list_all (gives_column after rows) (map (λ x. column_of column_id g rows (name x)) xs))
    (distinct xs d) (each xs data' base)
  where
    distinct : (xs : List _) → AreDistinct name xs → are_distinct given_id (map (λ x. column_of column_id g rows (name x)) xs) ≡ true
    distinct [] d = refl
    distinct (x ∷ xs) d =
        both_true (not (has_id given_id (map (λ x. column_of column_id g rows (name x)) xs) (name x))) (are_distinct given_id (map (λ x. column_of column_id g rows (name x)) xs))
        (ap not (has_id-map given_id (λ x. column_of column_id g rows (name x)) xs (name x) ∙ Rattle.doc_model.proofs.ByIdsLaws.has_apart name (name x) xs d.0))
        (distinct xs d.1)

    each : (xs : List _) → AllByRecursion (λ x. is_data after (name x) ≡ true) xs → AllByRecursion (λ x. AllByRecursion (λ r. is_base (at g (name x) r) ≡ true) rows) xs
        → list_all (gives_column after rows) (map (λ x. column_of column_id g rows (name x)) xs) ≡ true
    each [] p q = refl
    each (x ∷ xs) p q =
        both_true (gives_column after rows (column_of column_id g rows (name x))) (list_all (gives_column after rows) (map (λ x. column_of column_id g rows (name x)) xs))
        (both_true (is_data after (name x) && eqb (length (map (at g (name x)) rows)) (length rows)) (list_all is_base (map (at g (name x)) rows))
        (both_true (is_data after (name x)) (eqb (length (map (at g (name x)) rows)) (length rows)) p.0 (eq-eqb (length (map (at g (name x)) rows)) (length rows) (length_map (at g (name x)) rows)))
        (true_each is_base (map (at g (name x)) rows) (each_mapped (λ v. is_base v ≡ true) (at g (name x)) rows q.0)))
        (each xs p.1 q.1)

-- the cells of data columns in rows that are there
pub gives_data_columns : (g after : Grid ColDef) (rows : List ℕ) → IsSoundGrid g → after.columns ≡ g.columns → all_in rows g.rows ≡ true → gives_data after rows (data_columns g rows) ≡ true
gives_data_columns g after rows s same there =
    let test : ColDef → Bool = λ (d : ColDef). not d.info.is_formula in
    let kept : List ColDef = filter test g.columns in
    let each : AllByRecursion (λ d. (find_id column_id d.id g.columns ≡ Some d) × (test d ≡ true)) (by_id column_id kept)
    = each_by_id column_id (λ d. (find_id column_id d.id g.columns ≡ Some d) × (test d ≡ true)) kept
    (each_passed (λ d. find_id column_id d.id g.columns ≡ Some d) test g.columns (each_found column_id (λ d. find_id column_id d.id g.columns ≡ Some d) g.columns s.is_grid.distinct (λ d found. found))) in
    gives_own g after rows column_id (by_id column_id kept) (AreDistinct-IsByIds column_id (by_id column_id kept) (IsByIds-by_id column_id kept))
    (each_weaker (λ d. (find_id column_id d.id g.columns ≡ Some d) × (test d ≡ true)) (λ d. is_data after d.id ≡ true)
    (λ d h. ap (λ cs. passes (find_id column_id d.id cs) (λ (d : ColDef). not d.info.is_formula)) same ∙ ap (λ o. passes o (λ (d : ColDef). not d.info.is_formula)) h.0 ∙ h.1) (by_id column_id kept) each)
    (each_weaker (λ d. (find_id column_id d.id g.columns ≡ Some d) × (test d ≡ true)) (λ d. AllByRecursion (λ r. is_base (at g d.id r) ≡ true) rows)
    (λ d h. each_has (λ r. is_base (at g d.id r) ≡ true) rows (λ r here. base_held d (at g d.id r) (s.holds d r h.0 (all_in_at rows g.rows r there here)))) (by_id column_id kept) each)

data_found : (g : Grid ColDef) (c : List ℕ) → is_data g c ≡ true → (d : ColDef) × (find_id column_id c g.columns ≡ Some d)
data_found g c e =
    elim (find_id column_id c g.columns) as (λ o. passes o (λ (d : ColDef). not d.info.is_formula) ≡ true → (d : ColDef) × (o ≡ Some d)) [
      | None ↦ λ e. absurd (false≢true e)
      | Some d ↦ λ e. (d, refl)
    ] e

-- the old cells of columns that are given
pub gives_old_columns : (g after : Grid ColDef) (rows : List ℕ) (ks : List CellColumn) → IsSoundGrid g → after.columns ≡ g.columns → AllByRecursion (λ k. is_data g k.id ≡ true) ks → all_in rows g.rows ≡ true → gives_data after rows (old_columns g rows ks) ≡ true
gives_old_columns g after rows ks s same data' there =
    let each : AllByRecursion (λ k. is_data g k.id ≡ true) (by_id given_id ks) = each_by_id given_id (λ k. is_data g k.id ≡ true) ks data' in
    gives_own g after rows given_id (by_id given_id ks) (AreDistinct-IsByIds given_id (by_id given_id ks) (IsByIds-by_id given_id ks))
    (each_weaker (λ k. is_data g k.id ≡ true) (λ k. is_data after k.id ≡ true) (λ k e. ap (λ cs. passes (find_id column_id k.id cs) (λ (d : ColDef). not d.info.is_formula)) same ∙ e) (by_id given_id ks) each)
    (each_weaker (λ k. is_data g k.id ≡ true) (λ k. AllByRecursion (λ r. is_base (at g k.id r) ≡ true) rows)
    (λ k e. each_has (λ r. is_base (at g k.id r) ≡ true) rows (λ r here.
    let found : (d : ColDef) × (find_id column_id k.id g.columns ≡ Some d) = data_found g k.id e in
    let named : found.0.id ≡ k.id = found_id column_id k.id g.columns found.0 found.1 in
    subst (λ n. is_base (at g n r) ≡ true) named
    (base_held found.0 (at g found.0.id r) (s.holds found.0 r (ap (λ n. find_id column_id n g.columns) named ∙ found.1) (all_in_at rows g.rows r there here))))) (by_id given_id ks) each)

-- the cells of one data column
pub gives_column_of : (g after : Grid ColDef) (rows : List ℕ) (d : ColDef) → IsSoundGrid g → find_id column_id d.id g.columns ≡ Some d → is_data after d.id ≡ true → all_in rows g.rows ≡ true → gives_data after rows (column_of column_id g rows d.id ∷ []) ≡ true
gives_column_of g after rows d s found data' there =
    gives_own g after rows column_id (d ∷ []) (tt, tt) (data', tt)
    (each_has (λ r. is_base (at g d.id r) ≡ true) rows (λ r here. base_held d (at g d.id r) (s.holds d r found (all_in_at rows g.rows r there here))), tt)
