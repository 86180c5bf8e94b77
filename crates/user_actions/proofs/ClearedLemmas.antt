-- Updates of cells and cleared references are valid at their places.
use Rattle.std.proofs.Common.{ℕ, Bool, true, false, cond, not, ◌&&◌, ◌≤◌, List, [], ◌∷◌, map, filter, length, ◌≡◌, refl, sym, ap, subst, ◌∙◌, Option, Some, None, option_map, eqb, leb, arith}
use Rattle.std.proofs.lemmas.Bool.{and_parts, eq-eqb, leb-true, le-leb}
use Rattle.std.specs.List.{list_all, AllByRecursion}
use Rattle.std.specs.Str.{bytes_eq}
use Rattle.cell_types.specs.declared.column_type.ColType.{ColType}
use Rattle.cell_types.specs.declared.column_type.ColType.TheVariants as type
use Rattle.cell_types.specs.declared.value.CellItem.{CellItem}
use Rattle.cell_types.specs.declared.value.CellValue.{CellValue}
use Rattle.cell_types.specs.declared.value.CellValue.TheVariants as value
use Rattle.doc_model.specs.declared.action.DocAction.{DocAction}
use Rattle.doc_model.specs.declared.action.DocAction.TheVariants.{BulkRemove, BulkUpdate}
use Rattle.doc_model.specs.declared.action.Step.{Step}
use Rattle.doc_model.specs.declared.column.CellColumn.{CellColumn}
use Rattle.doc_model.specs.declared.column.ColDef.{ColDef}
use Rattle.doc_model.specs.Apply.{apply, all_valid}
use Rattle.doc_model.specs.ByIds.{find_id}
use Rattle.doc_model.specs.Column.{column_id, is_base, is_base_item}
use Rattle.doc_model.specs.Document.{Document, Table, on_grid, table_id, with_table}
use Rattle.doc_model.specs.DocumentLaws.{IsWhole}
use Rattle.doc_model.specs.Grid.{Grid, cell}
use Rattle.doc_model.specs.MetadataIds.{is_schema_id}
use Rattle.doc_model.specs.Records.{remove_rows, update_rows}
use Rattle.doc_model.specs.Rows.{IsAscending, all_in, has, has_no_duplicates, without}
use Rattle.doc_model.specs.Same.{same_value}
use Rattle.doc_model.specs.Sound.{IsSoundGrid}
use Rattle.doc_model.specs.Valid.{from_one, gives_column, gives_data, is_data, passes, record_table, valid}
use Rattle.doc_model.specs.ViewEdits.{if_any}
use Rattle.doc_model.proofs.ByIdsLaws.{found_all}
use Rattle.doc_model.proofs.ByRowLaws.{find-with_id}
use Rattle.doc_model.proofs.Choices.{both_true, cond_false, each_mapped, each_weaker, length_map, true_each}
use Rattle.doc_model.proofs.DocumentParts.{applied}
use Rattle.doc_model.proofs.RecordSteps.{from_one_in}
use Rattle.doc_model.proofs.RowsLaws.{each_has, has-filter, IsAscending-filter}
use Rattle.doc_model.proofs.SoundLaws.{base_held}
use Rattle.doc_model.proofs.TimesLaws.{once_ascending}
use Rattle.doc_readers.specs.Parts.{grid_at}
use Rattle.user_actions.specs.declared.referrers.Referrer.{Referrer}
use Rattle.user_actions.specs.CellUpdates.{column_changed, rows_changed, update_changed}
use Rattle.user_actions.specs.Marked.{indirect}
use Rattle.user_actions.specs.Given.{is_row}
use Rattle.user_actions.specs.References.{cleared, cleared_list, clearings, is_gone, list_or_null, name_gone, referrers, refers_to, renamed_id, rows_staying}
use Rattle.user_actions.specs.StepLaws.{action_of}
use Rattle.user_actions.proofs.ReferrerLemmas.{IsReferrer, each_referrer}
use Rattle.user_actions.proofs.SchemaStepLemmas.{bytes_symm}

-- ---- one update of cells that something changes

module _ (g : Grid ColDef) (sound : IsSoundGrid g) (e : ColDef) (there : find_id column_id e.id g.columns ≡ Some e) (f : CellValue → CellValue) (fits : (v : CellValue) → is_base v ≡ true → is_base (f v) ≡ true)
    (rows : List ℕ) (ascend : IsAscending rows) (known : (q : ℕ) → has rows q ≡ true → has g.rows q ≡ true) where
  abbrev changed : List ℕ
  changed = rows_changed g e.id f rows

  abbrev differs : ℕ → Bool
  differs q = not (same_value (cell column_id g e.id q) (f (cell column_id g e.id q)))

  among : (q : ℕ) → has changed q ≡ true → has rows q ≡ true
  among q here = (and_parts (differs q) (has rows q) (sym (has-filter differs rows q) ∙ here)).1

  all_among : (more : List ℕ) → ((q : ℕ) → has rows q ≡ true → has more q ≡ true) → all_in changed more ≡ true
  all_among more within = true_each (λ q. has more q) changed (each_has (λ q. has more q ≡ true) changed (λ q here. within q (among q here)))

  all_base : list_all is_base (map (λ q. f (cell column_id g e.id q)) changed) ≡ true
  all_base =
      true_each is_base (map (λ q. f (cell column_id g e.id q)) changed) (each_mapped (λ v. is_base v ≡ true) (λ q. f (cell column_id g e.id q)) changed
      (each_has (λ q. is_base (f (cell column_id g e.id q)) ≡ true) changed (λ q here.
      fits (cell column_id g e.id q) (base_held e (cell column_id g e.id q) (sound.holds e q there (known q (among q here)))))))

  pub valid_update : (s : Document) (table : List ℕ) (t : Table) → record_table s table ≡ Some t → is_data t.grid e.id ≡ true → ((q : ℕ) → has rows q ≡ true → has t.grid.rows q ≡ true)
      → valid s (BulkUpdate table changed (column_changed g e.id f changed ∷ [])) ≡ true
  valid_update s table t found is_given within =
      let k : CellColumn = column_changed g e.id f changed in
      let count : eqb (length k.values) (length changed) ≡ true = eq-eqb (length k.values) (length changed) (length_map (λ q. f (cell column_id g e.id q)) changed) in
      ap (λ o. passes o (λ x. has_no_duplicates changed && from_one changed && all_in changed x.grid.rows && gives_data x.grid changed (k ∷ []))) found
      ∙ both_true ((has_no_duplicates changed && from_one changed) && all_in changed t.grid.rows) (gives_data t.grid changed (k ∷ []))
      (both_true (has_no_duplicates changed && from_one changed) (all_in changed t.grid.rows)
      (both_true (has_no_duplicates changed) (from_one changed) (once_ascending changed (IsAscending-filter differs rows ascend)) (from_one_in changed g sound (all_among g.rows known)))
      (all_among t.grid.rows within))
      (both_true (gives_column t.grid changed k) true
      (both_true (is_data t.grid e.id && eqb (length k.values) (length changed)) (list_all is_base k.values)
      (both_true (is_data t.grid e.id) (eqb (length k.values) (length changed)) is_given count) all_base) refl)

-- ---- updates, one after another

pub record IsUpdate (s : Document) (x : Step) : Type 0 where
  pub table : List ℕ
  pub rows : List ℕ
  pub columns : List CellColumn
  pub is : x.action ≡ BulkUpdate table rows columns
  pub valid : valid s x.action ≡ true

abbrev update_test : List ℕ → List CellColumn → Table → Bool
update_test rows ks t = has_no_duplicates rows && from_one rows && all_in rows t.grid.rows && gives_data t.grid rows ks

stays : (rows rows' : List ℕ) (ks ks' : List CellColumn) (a b : Bool) (o : Option Table) → passes (cond a None o) (update_test rows' ks') ≡ true → passes (cond a None (cond b (option_map (on_grid (update_rows column_id rows ks)) o) o)) (update_test rows' ks') ≡ true
stays rows rows' ks ks' true b o h = h
stays rows rows' ks ks' false false o h = h
stays rows rows' ks ks' false true None h = h
stays rows rows' ks ks' false true (Some t) h = h

keep_valid : (s : Document) (table table' rows rows' : List ℕ) (ks ks' : List CellColumn) → valid s (BulkUpdate table rows ks) ≡ true → valid s (BulkUpdate table' rows' ks') ≡ true → valid (apply s (BulkUpdate table rows ks)) (BulkUpdate table' rows' ks') ≡ true
keep_valid s table table' rows rows' ks ks' v w =
    ap (λ d. valid d (BulkUpdate table' rows' ks')) (applied s (BulkUpdate table rows ks) v)
    ∙ ap (λ o. passes (cond (is_schema_id table') None o) (update_test rows' ks')) (find-with_id table_id table (on_grid (update_rows column_id rows ks)) (λ x. refl) s table')
    ∙ stays rows rows' ks ks' (is_schema_id table') (bytes_eq table table') (find_id table_id table' s) w

keep_update : (s : Document) (x y : Step) → IsUpdate s x → IsUpdate s y → IsUpdate (apply s x.action) y
keep_update s x y a b = record {
  table = b.table;
  rows = b.rows;
  columns = b.columns;
  is = b.is;
  valid = ap (λ u. valid (apply s u) y.action) a.is ∙ ap (valid (apply s (BulkUpdate a.table a.rows a.columns))) b.is
      ∙ keep_valid s a.table b.table a.rows b.rows a.columns b.columns (sym (ap (valid s) a.is) ∙ a.valid) (sym (ap (valid s) b.is) ∙ b.valid);
}

pub all_updates : (s : Document) (xs : List Step) → AllByRecursion (IsUpdate s) xs → all_valid s (map action_of xs) ≡ true
all_updates s [] h = refl
all_updates s (x ∷ xs) h =
    both_true (valid s x.action) (all_valid (apply s x.action) (map action_of xs)) h.0.valid
    (all_updates (apply s x.action) xs (each_weaker (IsUpdate s) (IsUpdate (apply s x.action)) (λ y. keep_update s x y h.0) xs h.1))

-- ---- what clearing leaves is a base value

filter_short : {X : Type 0} (p : X → Bool) (xs : List X) → length (filter p xs) ≤ length xs
filter_short p [] = omega arith
filter_short p (x ∷ xs) =
    let rest : length (filter p xs) ≤ length xs = filter_short p xs in
    elim (p x) as (λ b. length (cond b (x ∷ filter p xs) (filter p xs)) ≤ length (x ∷ xs)) [ true ↦ omega arith | false ↦ omega arith ]

filter_holds : {X : Type 0} (p q : X → Bool) (xs : List X) → list_all q xs ≡ true → list_all q (filter p xs) ≡ true
filter_holds p q [] h = refl
filter_holds p q (x ∷ xs) h =
    let parts : (q x ≡ true) × (list_all q xs ≡ true) = and_parts (q x) (list_all q xs) h in
    elim (p x) as (λ b. list_all q (cond b (x ∷ filter p xs) (filter p xs)) ≡ true) [
      | true ↦ both_true (q x) (list_all q (filter p xs)) parts.0 (filter_holds p q xs parts.1)
      | false ↦ filter_holds p q xs parts.1
    ]

null_base : (items : List CellItem) → is_base (value.List items) ≡ true → is_base (list_or_null items) ≡ true
null_base [] h = refl
null_base (i ∷ items) h = h

left_base : (p : CellItem → Bool) (items : List CellItem) → is_base (value.List items) ≡ true → is_base (value.List (filter p items)) ≡ true
left_base p items h =
    let parts : (leb (length items) 10000 ≡ true) × (list_all is_base_item items ≡ true) = and_parts (leb (length items) 10000) (list_all is_base_item items) h in
    let most : length items ≤ 10000 = leb-true (length items) 10000 parts.0 in
    let fewer : length (filter p items) ≤ length items = filter_short p items in
    both_true (leb (length (filter p items)) 10000) (list_all is_base_item (filter p items)) (le-leb (length (filter p items)) 10000 (omega (arith, most, fewer))) (filter_holds p is_base_item items parts.1)

list_base : (gone : List ℕ) (v : CellValue) → is_base v ≡ true → is_base (cleared_list gone v) ≡ true
list_base gone value.Null h = h
list_base gone (value.Int n) h = h
list_base gone (value.Bool b) h = h
list_base gone (value.Text t) h = h
list_base gone (value.Date n) h = h
list_base gone (value.Rec r) h = h
list_base gone (value.RecSet r) h = h
list_base gone (value.List items) h =
    elim (name_gone gone items) as (λ b. is_base (cond b (list_or_null (filter (λ i. not (is_gone gone i)) items)) (value.List items)) ≡ true) [
      | true ↦ null_base (filter (λ i. not (is_gone gone i)) items) (left_base (λ i. not (is_gone gone i)) items h)
      | false ↦ h
    ]
list_base gone (value.Err e) h = h
list_base gone value.Censored h = h

reference_base : (gone : List ℕ) (t : List ℕ) (v : CellValue) → is_base v ≡ true → is_base (cleared gone (type.Ref t) v) ≡ true
reference_base gone t value.Null h = h
reference_base gone t (value.Int n) h = elim (is_row gone n) as (λ b. is_base (cond b (value.Int (Rattle.std.specs.Prelude.pos 0)) (value.Int n)) ≡ true) [ true ↦ refl | false ↦ refl ]
reference_base gone t (value.Bool b) h = h
reference_base gone t (value.Text x) h = h
reference_base gone t (value.Date n) h = h
reference_base gone t (value.Rec r) h = h
reference_base gone t (value.RecSet r) h = h
reference_base gone t (value.List items) h = h
reference_base gone t (value.Err e) h = h
reference_base gone t value.Censored h = h

pub cleared_base : (gone : List ℕ) (ty : ColType) (v : CellValue) → is_base v ≡ true → is_base (cleared gone ty v) ≡ true
cleared_base gone type.Any v h = h
cleared_base gone type.Text v h = h
cleared_base gone type.Int v h = h
cleared_base gone type.Bool v h = h
cleared_base gone type.Date v h = h
cleared_base gone (type.Ref t) v h = reference_base gone t v h
cleared_base gone (type.RefList t) v h = list_base gone v h

-- ---- the columns cleared of rows that go

pub same_id : (old id : List ℕ) → renamed_id old old id ≡ id
same_id old id =
    elim (bytes_eq id old) as (λ b. bytes_eq id old ≡ b → cond b old id ≡ id) [
      | true ↦ λ is. sym ((Rattle.std.proofs.lemmas.Slice.Eq.bytes_eq-Decides id old).0 is)
      | false ↦ λ _. refl
    ] refl

module _ (s : Document) (whole : IsWhole s) (table : List ℕ) (gone : List ℕ) (v : valid s (BulkRemove table gone) ≡ true) where
  abbrev after : Document
  after = apply s (BulkRemove table gone)

  -- a table that has lost the rows has those that stay
  pub found_after : (id : List ℕ) (t : Table) → is_schema_id id ≡ false → find_id table_id id s ≡ Some t
      → (u : Table) × (record_table after id ≡ Some u) × (u.grid.columns ≡ t.grid.columns) × (u.grid.rows ≡ cond (bytes_eq id table) (without gone t.grid.rows) t.grid.rows)
  found_after id t plain there =
      let becomes : record_table after id ≡ cond (bytes_eq id table) (Some (on_grid (remove_rows column_id gone) t)) (Some t)
      = ap (λ d. record_table d id) (applied s (BulkRemove table gone) v)
      ∙ cond_false (is_schema_id id) None (find_id table_id id (with_table table (on_grid (remove_rows column_id gone)) s)) plain
      ∙ find-with_id table_id table (on_grid (remove_rows column_id gone)) (λ x. refl) s id
      ∙ ap (λ o. cond (bytes_eq table id) (option_map (on_grid (remove_rows column_id gone)) o) o) there
      ∙ ap (λ b. cond b (Some (on_grid (remove_rows column_id gone) t)) (Some t)) (bytes_symm table id) in
      elim (bytes_eq id table) as (λ b. record_table after id ≡ cond b (Some (on_grid (remove_rows column_id gone) t)) (Some t)
      → (u : Table) × (record_table after id ≡ Some u) × (u.grid.columns ≡ t.grid.columns) × (u.grid.rows ≡ cond b (without gone t.grid.rows) t.grid.rows)) [
        | true ↦ λ e. (on_grid (remove_rows column_id gone) t, e, refl, refl)
        | false ↦ λ e. (t, e, refl, refl)
      ] becomes

  staying_ascend : (b : Bool) (rows : List ℕ) → IsAscending rows → IsAscending (cond b (without gone rows) rows)
  staying_ascend true rows h = IsAscending-filter (λ r. not (has gone r)) rows h
  staying_ascend false rows h = h

  staying_known : (b : Bool) (rows : List ℕ) (q : ℕ) → has (cond b (without gone rows) rows) q ≡ true → has rows q ≡ true
  staying_known true rows q here = (and_parts (not (has gone q)) (has rows q) (sym (has-filter (λ r. not (has gone r)) rows q) ∙ here)).1
  staying_known false rows q here = here

  one_cleared : (k : Referrer) → IsReferrer s table table false k → AllByRecursion (IsUpdate after) (update_changed k.table (grid_at s k.table) k.column.id (cleared gone k.column.info.ty) (rows_staying s table gone k.table))
  one_cleared k is =
      let id : List ℕ = is.id in
      let t : Table = is.table in
      let e : ColDef = k.column in
      let f : CellValue → CellValue = cleared gone e.info.ty in
      let named : k.table ≡ id = is.named ∙ same_id table id in
      let told : grid_at s id ≡ t.grid = ap (λ (o : Option Table). elim o as (λ _. Grid ColDef) [ None ↦ Rattle.doc_model.specs.Schema.no_grid | Some t ↦ t.grid ]) is.there in
      let sound : IsSoundGrid t.grid = found_all table_id (λ t. IsSoundGrid t.grid) id s t whole.sound.grids is.there in
      let rows : List ℕ = cond (bytes_eq id table) (without gone t.grid.rows) t.grid.rows in
      let at = found_after id t is.inside is.there in
      let u : Table = at.0 in
      let data' : not e.info.is_formula ≡ true = (and_parts (refers_to table e.info.ty) (not e.info.is_formula) is.test).1 in
      let data_after : is_data u.grid e.id ≡ true = ap (λ cs. passes (find_id column_id e.id cs) (λ (d : ColDef). not d.info.is_formula)) at.2 ∙ ap (λ o. passes o (λ (d : ColDef). not d.info.is_formula)) is.found ∙ data' in
      let q : List ℕ = rows_changed t.grid e.id f rows in
      let action : DocAction = BulkUpdate id q (column_changed t.grid e.id f q ∷ []) in
      let good : valid after action ≡ true = valid_update t.grid sound e is.found f (cleared_base gone e.info.ty) rows (staying_ascend (bytes_eq id table) t.grid.rows sound.is_grid.ascending) (staying_known (bytes_eq id table) t.grid.rows)
      after id u at.1 data_after (λ r here. ap (λ rows. has rows r) at.3 ∙ here) in
      let step : IsUpdate after (indirect action) = record { table = id; rows = q; columns = column_changed t.grid e.id f q ∷ []; is = refl; valid = good } in
      subst (λ n. AllByRecursion (IsUpdate after) (update_changed n (grid_at s n) e.id f (rows_staying s table gone n))) (sym named)
      (subst (λ g. AllByRecursion (IsUpdate after) (update_changed id g e.id f (cond (bytes_eq id table) (without gone g.rows) g.rows))) (sym told)
      (any_each q (indirect action) step))
    where
      any_each : (rows : List ℕ) (x : Step) → IsUpdate after x → AllByRecursion (IsUpdate after) (if_any rows x)
      any_each [] x h = tt
      any_each (r ∷ rows) x h = (h, tt)

  each_cleared : (ks : List Referrer) → AllByRecursion (IsReferrer s table table false) ks → AllByRecursion (IsUpdate after) (clearings s table gone ks)
  each_cleared [] h = tt
  each_cleared (k ∷ ks) h = Rattle.user_actions.proofs.ReferrerLemmas.each_append (IsUpdate after) (update_changed k.table (grid_at s k.table) k.column.id (cleared gone k.column.info.ty) (rows_staying s table gone k.table)) (clearings s table gone ks) (one_cleared k h.0) (each_cleared ks h.1)

  pub valid_clearings : all_valid after (map action_of (clearings s table gone (referrers s table table false))) ≡ true
  valid_clearings = all_updates after (clearings s table gone (referrers s table table false)) (each_cleared (referrers s table table false) (each_referrer s whole table table false))
