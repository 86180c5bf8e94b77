-- The steps of record actions are valid.
use Rattle.std.proofs.Common.{ℕ, ℤ, pos, negsuc, zero, suc, ◌+◌, ◌<◌, ◌≤◌, Bool, true, false, cond, not, ◌&&◌, ◌||◌, eqb, ltb, nat_eq, nat_le, List, [], ◌∷◌, map, length, ◌≡◌, refl, sym, ap, ◌∙◌, Option, Some, None, unwrap_or, arith}
use Rattle.std.proofs.lemmas.List.{length-map}
use Rattle.std.proofs.lemmas.Bool.{and_parts, or_parts, eqb-true, ne_eqb, lt-ltb, ltb-true, ltb-false, true≢false, false≢true}
use Rattle.std.specs.List.{list_all, AllByRecursion}
use Rattle.std.proofs.lemmas.Cmp.{int_eq_equiv}
use Rattle.std.specs.Ordering.{int_eq}
use Rattle.std.specs.Str.{bytes_eq}
use Rattle.cell_types.specs.declared.column_type.ColType.{ColType}
use Rattle.cell_types.specs.declared.value.CellValue.{CellValue}
use Rattle.cell_types.specs.Conversion.{fit}
use Rattle.cell_types.specs.Reference.{row_number}
use Rattle.doc_model.specs.declared.action.DocAction.TheVariants.{BulkAdd, BulkUpdate, BulkRemove}
use Rattle.doc_model.specs.declared.column.ColDef.{ColDef}
use Rattle.doc_model.specs.declared.user_action.UserColumn.{UserColumn}
use Rattle.doc_model.specs.ByIds.{are_distinct, find_id, has_id}
use Rattle.doc_model.specs.Column.{is_base}
use Rattle.doc_model.specs.Counts.{greatest}
use Rattle.doc_model.specs.Document.{Table, Document, table_id}
use Rattle.doc_model.specs.DocumentLaws.{IsWhole}
use Rattle.doc_model.specs.Grid.{Grid}
use Rattle.doc_model.specs.MetadataIds.{is_schema_id}
use Rattle.doc_model.specs.Records.{given_id}
use Rattle.doc_model.specs.Rows.{IsAscending, all_in, has, has_no_duplicates, none_in}
use Rattle.doc_model.specs.Schema.{no_grid}
use Rattle.doc_model.specs.Sound.{IsSoundGrid}
use Rattle.doc_model.specs.Valid.{from_one, gives_column, gives_data, is_data, passes, record_table, valid}
use Rattle.doc_model.specs.WellFormed.{are_whole, user_id}
use Rattle.doc_model.proofs.ByIdsLaws.{found_all}
use Rattle.doc_model.proofs.Choices.{both_true, each_weaker, not_true}
use Rattle.doc_model.proofs.DocumentParts.{passes_parts}
use Rattle.doc_model.proofs.TimesLaws.{once_ascending}
use Rattle.doc_readers.specs.Parts.{grid_at}
use Rattle.user_actions.specs.Allowed.{may_give, may_name}
use Rattle.user_actions.specs.Given.{have_no_duplicates, has_base, has_number, is_row}
use Rattle.user_actions.specs.Steps.{all_fitted, fitted, last_row, numbers_after, row_ids, type_in}

-- ---- new rows

pub numbers_above : (n count : ℕ) → AllByRecursion (λ r. n < r) (numbers_after n count)
numbers_above n zero = tt
numbers_above n (suc count) = (omega arith, each_weaker (λ r. n + 1 < r) (λ r. n < r) (λ r h. omega arith) (numbers_after (n + 1) count) (numbers_above (n + 1) count))

pub numbers_ascend : (n count : ℕ) → IsAscending (numbers_after n count)
numbers_ascend n zero = tt
numbers_ascend n (suc count) = (numbers_above (n + 1) count, numbers_ascend (n + 1) count)

pub length-numbers_after : (n count : ℕ) → length (numbers_after n count) ≡ count
length-numbers_after n zero = refl
length-numbers_after n (suc count) = ap suc (length-numbers_after (n + 1) count)

pub above_from_one : (n : ℕ) (rows : List ℕ) → AllByRecursion (λ r. n < r) rows → from_one rows ≡ true
above_from_one n [] h = refl
above_from_one n (r ∷ rows) h = both_true (ltb 0 r) (from_one rows) (lt-ltb 0 r (omega (arith, h.0))) (above_from_one n rows h.1)

-- a row that is greater than all is not there
pub has_greater : (rows : List ℕ) (q : ℕ) → greatest rows < q → has rows q ≡ false
has_greater [] q h = refl
has_greater (r ∷ rows) q h =
    elim (ltb r (greatest rows)) as (λ b. ltb r (greatest rows) ≡ b → cond b (greatest rows) r < q → (eqb r q || has rows q) ≡ false) [
      | true ↦ λ less g.
          let lt : r < greatest rows = ltb-true r (greatest rows) less in
          ap (λ b. b || has rows q) (ne_eqb r q (λ e. absurd (omega (arith, lt, g, e)))) ∙ has_greater rows q g
      | false ↦ λ more g.
          let le : greatest rows ≤ r = ltb-false r (greatest rows) more in
          ap (λ b. b || has rows q) (ne_eqb r q (λ e. absurd (omega (arith, g, e)))) ∙ has_greater rows q (omega (arith, le, g))
    ] refl h

pub above_none_in : (new rows : List ℕ) → AllByRecursion (λ r. greatest rows < r) new → none_in new rows ≡ true
above_none_in [] rows h = refl
above_none_in (q ∷ new) rows h = both_true (not (has rows q)) (none_in new rows) (ap not (has_greater rows q h.0)) (above_none_in new rows h.1)

-- ---- rows that are named

-- the row of a number that is one of these
row_of : (known : List ℕ) (n : ℤ) → is_row known n ≡ true → (r : ℕ) × (n ≡ pos r) × (row_number n ≡ Some r) × (has known r ≡ true)
row_of known (pos m) h =
    elim (nat_le m 4294967295) as (λ b. nat_le m 4294967295 ≡ b → elim (cond b (Some m) None) as (λ _. Bool) [ None ↦ false | Some r ↦ has known r ] ≡ true → (r : ℕ) × (pos m ≡ pos r) × (row_number (pos m) ≡ Some r) × (has known r ≡ true)) [
      | true ↦ λ is here. (m, refl, ap (λ b. cond b (Some m) None) is, here)
      | false ↦ λ is here. absurd (false≢true here)
    ] refl h
row_of known (negsuc m) h = absurd (false≢true h)

ids_in : (known : List ℕ) (ns : List ℤ) → list_all (is_row known) ns ≡ true → all_in (row_ids ns) known ≡ true
ids_in known [] h = refl
ids_in known (n ∷ ns) h =
    let p : (is_row known n ≡ true) × (list_all (is_row known) ns ≡ true) = and_parts (is_row known n) (list_all (is_row known) ns) h in
    let r : (r : ℕ) × (n ≡ pos r) × (row_number n ≡ Some r) × (has known r ≡ true) = row_of known n p.0 in
    both_true (has known (unwrap_or (row_number n) 0)) (all_in (row_ids ns) known) (ap (λ o. has known (unwrap_or o 0)) r.2 ∙ r.3) (ids_in known ns p.1)

-- a row id stands among the ids where its number stands among the numbers
has_ids : (known : List ℕ) (ns : List ℤ) (r : ℕ) → list_all (is_row known) ns ≡ true → has_number ns (pos r) ≡ false → has (row_ids ns) r ≡ false
has_ids known [] r h gone = refl
has_ids known (n ∷ ns) r h gone =
    let p : (is_row known n ≡ true) × (list_all (is_row known) ns ≡ true) = and_parts (is_row known n) (list_all (is_row known) ns) h in
    let m : (m : ℕ) × (n ≡ pos m) × (row_number n ≡ Some m) × (has known m ≡ true) = row_of known n p.0 in
    let q : (int_eq n (pos r) ≡ false) × (has_number ns (pos r) ≡ false) = or_parts (int_eq n (pos r)) (has_number ns (pos r)) gone in
    let differs : m.0 ≡ r → ⊥ = λ e. true≢false (sym (int_itself (pos r)) ∙ ap (λ z. int_eq z (pos r)) (sym (m.1 ∙ ap pos e)) ∙ q.0) in
    ap (λ o. eqb (unwrap_or o 0) r || has (row_ids ns) r) m.2 ∙ ap (λ b. b || has (row_ids ns) r) (ne_eqb m.0 r differs) ∙ has_ids known ns r p.1 q.1
  where
    int_itself : (z : ℤ) → int_eq z z ≡ true
    int_itself z = int_eq_equiv.refl z

ids_once : (known : List ℕ) (ns : List ℤ) → have_no_duplicates ns ≡ true → list_all (is_row known) ns ≡ true → has_no_duplicates (row_ids ns) ≡ true
ids_once known [] once h = refl
ids_once known (n ∷ ns) once h =
    let o : (not (has_number ns n) ≡ true) × (have_no_duplicates ns ≡ true) = and_parts (not (has_number ns n)) (have_no_duplicates ns) once in
    let p : (is_row known n ≡ true) × (list_all (is_row known) ns ≡ true) = and_parts (is_row known n) (list_all (is_row known) ns) h in
    let m : (m : ℕ) × (n ≡ pos m) × (row_number n ≡ Some m) × (has known m ≡ true) = row_of known n p.0 in
    let absent : has_number ns (pos m.0) ≡ false = ap (has_number ns) (sym m.1) ∙ not_true (has_number ns n) o.0 in
    both_true (not (has (row_ids ns) (unwrap_or (row_number n) 0))) (has_no_duplicates (row_ids ns))
    (ap (λ q. not (has (row_ids ns) (unwrap_or q 0))) m.2 ∙ ap not (has_ids known ns m.0 p.1 absent)) (ids_once known ns o.1 p.1)

-- rows of a sound table are from 1
low_ids : (known rows : List ℕ) → AllByRecursion (λ r. 0 < r) known → all_in rows known ≡ true → from_one rows ≡ true
low_ids known [] low h = refl
low_ids known (r ∷ rows) low h =
    let p : (has known r ≡ true) × (all_in rows known ≡ true) = and_parts (has known r) (all_in rows known) h in
    both_true (ltb 0 r) (from_one rows) (lt-ltb 0 r (low_one known r low p.0)) (low_ids known rows low p.1)
  where
    low_one : (known : List ℕ) (r : ℕ) → AllByRecursion (λ r. 0 < r) known → has known r ≡ true → 0 < r
    low_one [] r low here = absurd (false≢true here)
    low_one (q ∷ known) r low here =
        elim (eqb q r) as (λ b. eqb q r ≡ b → (b || has known r) ≡ true → 0 < r) [
          | true ↦ λ is _. let e : q ≡ r = eqb-true q r is in omega (arith, e, low.0)
          | false ↦ λ _ rest. low_one known r low.1 rest
        ] refl here

-- ---- given columns

has_id-fitted : (g : Grid ColDef) (c : List ℕ) (ks : List UserColumn) → has_id given_id (map (fitted g) ks) c ≡ has_id user_id ks c
has_id-fitted g c [] = refl
has_id-fitted g c (k ∷ ks) = ap (λ b. bytes_eq k.id c || b) (has_id-fitted g c ks)

are_distinct-fitted : (g : Grid ColDef) (ks : List UserColumn) → are_distinct given_id (map (fitted g) ks) ≡ are_distinct user_id ks
are_distinct-fitted g [] = refl
are_distinct-fitted g (k ∷ ks) =
    ap (λ b. not b && are_distinct given_id (map (fitted g) ks)) (has_id-fitted g k.id ks)
    ∙ ap (λ b. not (has_id user_id ks k.id) && b) (are_distinct-fitted g ks)

module _ (fits : (ty : ColType) (vs : List CellValue) → list_all is_base vs ≡ true → list_all is_base (map (fit ty) vs) ≡ true) where
  column_given : (g : Grid ColDef) (rows : List ℕ) (k : UserColumn) → may_give g k ≡ true → nat_eq (length k.values) (length rows) ≡ true → gives_column g rows (fitted g k) ≡ true
  column_given g rows k may len =
      let p : (is_data g k.id ≡ true) × (has_base k ≡ true) = and_parts (is_data g k.id) (has_base k) may in
      both_true (is_data g k.id && nat_eq (length (map (fit (type_in g k.id)) k.values)) (length rows)) (list_all is_base (map (fit (type_in g k.id)) k.values))
      (both_true (is_data g k.id) (nat_eq (length (map (fit (type_in g k.id)) k.values)) (length rows)) p.0 (ap (λ n. nat_eq n (length rows)) (length-map k.values (fit (type_in g k.id))) ∙ len))
      (fits (type_in g k.id) k.values p.1)

  columns_given : (g : Grid ColDef) (rows : List ℕ) (ks : List UserColumn) → list_all (may_give g) ks ≡ true → list_all (λ (k : UserColumn). nat_eq (length k.values) (length rows)) ks ≡ true → list_all (gives_column g rows) (map (fitted g) ks) ≡ true
  columns_given g rows [] may len = refl
  columns_given g rows (k ∷ ks) may len =
      let p : (may_give g k ≡ true) × (list_all (may_give g) ks ≡ true) = and_parts (may_give g k) (list_all (may_give g) ks) may in
      let q : (nat_eq (length k.values) (length rows) ≡ true) × (list_all (λ (k : UserColumn). nat_eq (length k.values) (length rows)) ks ≡ true) = and_parts (nat_eq (length k.values) (length rows)) (list_all (λ (k : UserColumn). nat_eq (length k.values) (length rows)) ks) len in
      both_true (gives_column g rows (fitted g k)) (list_all (gives_column g rows) (map (fitted g) ks)) (column_given g rows k p.0 q.0) (columns_given g rows ks p.1 q.1)

  data_given : (g : Grid ColDef) (rows : List ℕ) (ks : List UserColumn) → list_all (may_give g) ks ≡ true → are_whole (length rows) ks ≡ true → gives_data g rows (map (fitted g) ks) ≡ true
  data_given g rows ks may whole =
      let w : (are_distinct user_id ks ≡ true) × (list_all (λ (k : UserColumn). nat_eq (length k.values) (length rows)) ks ≡ true) = and_parts (are_distinct user_id ks) (list_all (λ (k : UserColumn). nat_eq (length k.values) (length rows)) ks) whole in
      both_true (are_distinct given_id (map (fitted g) ks)) (list_all (gives_column g rows) (map (fitted g) ks)) (are_distinct-fitted g ks ∙ w.0) (columns_given g rows ks may w.1)

  -- ---- tables

  -- the same table passes another test
  same_records : (s : Document) (id : List ℕ) (test holds : Table → Bool) → ((t : Table) → find_id table_id id s ≡ Some t → test t ≡ true → holds t ≡ true)
      → passes (record_table s id) test ≡ true → passes (record_table s id) holds ≡ true
  same_records s id test holds each h =
      elim (is_schema_id id) as (λ b. passes (cond b None (find_id table_id id s)) test ≡ true → passes (cond b None (find_id table_id id s)) holds ≡ true) [
        | true ↦ λ e. e
        | false ↦ λ e.
            let p : (t : Table) × ((find_id table_id id s ≡ Some t) × (test t ≡ true)) = passes_parts (find_id table_id id s) test e in
            ap (λ o. passes o holds) p.1.0 ∙ each p.0 p.1.0 p.1.1
      ] h

  grid_found : (s : Document) (id : List ℕ) (t : Table) → find_id table_id id s ≡ Some t → grid_at s id ≡ t.grid
  grid_found s id t h = ap (λ (o : Option Table). elim o as (λ _. Grid ColDef) [ None ↦ no_grid | Some t ↦ t.grid ]) h

  pub valid-add : (s : Document) (table : List ℕ) (count : ℕ) (ks : List UserColumn) → passes (record_table s table) (λ t. list_all (may_give t.grid) ks) ≡ true → are_whole count ks ≡ true
      → valid s (BulkAdd table (numbers_after (last_row s table) count) (all_fitted s table ks)) ≡ true
  valid-add s table count ks may whole =
      let rows : List ℕ = numbers_after (last_row s table) count in
      same_records s table (λ t. list_all (may_give t.grid) ks) (λ t. has_no_duplicates rows && from_one rows && none_in rows t.grid.rows && gives_data t.grid rows (all_fitted s table ks))
      (λ t found m.
      let g : grid_at s table ≡ t.grid = grid_found s table t found in
      both_true ((has_no_duplicates rows && from_one rows) && none_in rows t.grid.rows) (gives_data t.grid rows (all_fitted s table ks))
      (both_true (has_no_duplicates rows && from_one rows) (none_in rows t.grid.rows)
      (both_true (has_no_duplicates rows) (from_one rows) (once_ascending rows (numbers_ascend (last_row s table) count)) (above_from_one (last_row s table) rows (numbers_above (last_row s table) count)))
      (ap (λ (x : Grid ColDef). none_in rows x.rows) (sym g) ∙ above_none_in rows (grid_at s table).rows (numbers_above (last_row s table) count)))
      (ap (λ (x : Grid ColDef). gives_data t.grid rows (map (fitted x) ks)) g
      ∙ data_given t.grid rows ks m (ap (λ n. are_whole n ks) (length-numbers_after (last_row s table) count) ∙ whole))) may

  sound_rows : (s : Document) → IsWhole s → (id : List ℕ) (t : Table) → find_id table_id id s ≡ Some t → AllByRecursion (λ r. 0 < r) t.grid.rows
  sound_rows s w id t found = (found_all table_id (λ t. IsSoundGrid t.grid) id s t w.sound.grids found).from_one

  pub valid-update : (s : Document) → IsWhole s → (table : List ℕ) (rows : List ℤ) (ks : List UserColumn)
      → passes (record_table s table) (λ t. may_name t.grid.rows rows && list_all (may_give t.grid) ks) ≡ true → are_whole (length rows) ks ≡ true
      → valid s (BulkUpdate table (row_ids rows) (all_fitted s table ks)) ≡ true
  valid-update s w table rows ks may whole =
      same_records s table (λ t. may_name t.grid.rows rows && list_all (may_give t.grid) ks) (λ t. has_no_duplicates (row_ids rows) && from_one (row_ids rows) && all_in (row_ids rows) t.grid.rows && gives_data t.grid (row_ids rows) (all_fitted s table ks))
      (λ t found m.
      let g : grid_at s table ≡ t.grid = grid_found s table t found in
      let a : (may_name t.grid.rows rows ≡ true) × (list_all (may_give t.grid) ks ≡ true) = and_parts (may_name t.grid.rows rows) (list_all (may_give t.grid) ks) m in
      let b : (have_no_duplicates rows ≡ true) × (list_all (is_row t.grid.rows) rows ≡ true) = and_parts (have_no_duplicates rows) (list_all (is_row t.grid.rows) rows) a.0 in
      let known : all_in (row_ids rows) t.grid.rows ≡ true = ids_in t.grid.rows rows b.1 in
      both_true ((has_no_duplicates (row_ids rows) && from_one (row_ids rows)) && all_in (row_ids rows) t.grid.rows) (gives_data t.grid (row_ids rows) (all_fitted s table ks))
      (both_true (has_no_duplicates (row_ids rows) && from_one (row_ids rows)) (all_in (row_ids rows) t.grid.rows)
      (both_true (has_no_duplicates (row_ids rows)) (from_one (row_ids rows)) (ids_once t.grid.rows rows b.0 b.1) (low_ids t.grid.rows (row_ids rows) (sound_rows s w table t found) known)) known)
      (ap (λ (x : Grid ColDef). gives_data t.grid (row_ids rows) (map (fitted x) ks)) g
      ∙ data_given t.grid (row_ids rows) ks a.1 (ap (λ n. are_whole n ks) (length-map rows (λ n. unwrap_or (row_number n) 0)) ∙ whole))) may

  pub valid-remove : (s : Document) (table : List ℕ) (rows : List ℤ) → passes (record_table s table) (λ t. may_name t.grid.rows rows) ≡ true → valid s (BulkRemove table (row_ids rows)) ≡ true
  valid-remove s table rows may =
      same_records s table (λ t. may_name t.grid.rows rows) (λ t. has_no_duplicates (row_ids rows) && all_in (row_ids rows) t.grid.rows)
      (λ t found m.
      let b : (have_no_duplicates rows ≡ true) × (list_all (is_row t.grid.rows) rows ≡ true) = and_parts (have_no_duplicates rows) (list_all (is_row t.grid.rows) rows) m in
      both_true (has_no_duplicates (row_ids rows)) (all_in (row_ids rows) t.grid.rows) (ids_once t.grid.rows rows b.0 b.1) (ids_in t.grid.rows rows b.1)) may
