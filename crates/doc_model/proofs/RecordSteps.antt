-- Record actions: what they leave whole, and that what undoes them does so.
use Rattle.std.proofs.Common.{ℕ, Bool, true, false, cond, ◌||◌, ◌&&◌, List, [], ◌∷◌, map, ◌≡◌, ◌<◌, refl, sym, ap, subst, ◌∙◌, Option, Some, None, option_map, ltb}
use Rattle.std.proofs.lemmas.Bool.{and_parts, both_ways, lt-ltb}
use Rattle.std.proofs.lemmas.Slice.Eq.{bytes_eq-Decides}
use Rattle.std.specs.List.{list_all, AllByRecursion}
use Rattle.std.specs.Str.{bytes_eq}
use Rattle.cell_types.specs.NameRule.{is_name}
use Rattle.doc_model.specs.declared.action.DocAction.TheVariants.{BulkAdd, BulkUpdate, BulkRemove}
use Rattle.doc_model.specs.declared.column.CellColumn.{CellColumn}
use Rattle.doc_model.specs.declared.column.ColDef.{ColDef}
use Rattle.doc_model.specs.MetadataIds.{tables_id, columns_id, resources_id, rules_id, is_schema_id, is_metadata_id}
use Rattle.doc_model.specs.ByIds.{find_id, has_id}
use Rattle.doc_model.specs.Rows.{has_no_duplicates, all_in, none_in}
use Rattle.doc_model.specs.Grid.{Grid}
use Rattle.doc_model.specs.Records.{add_rows, update_rows, remove_rows}
use Rattle.doc_model.specs.Column.{column_id, column_row, start_of}
use Rattle.doc_model.specs.Document.{Table, Document, table_id, on_grid, with_table}
use Rattle.doc_model.specs.Schema.{resources_columns, rules_columns, tables_grid, columns_grid, metadata_table, with_schema}
use Rattle.doc_model.specs.Sound.{IsSoundGrid, has_names}
use Rattle.doc_model.specs.Valid.{passes, record_table, from_one, gives_data, valid}
use Rattle.doc_model.specs.Inverse.{made_of, data_columns, old_columns, inverse}
use Rattle.doc_model.proofs.Choices.{cond_true, cond_false, parts_4, both_true, true_each}
use Rattle.doc_model.proofs.ByIdsLaws.{bytes_itself, bytes_apart, found_all}
use Rattle.doc_model.proofs.RowsLaws.{each_has, each_at, all_in_at, all_in-insert_rows, none_in-without}
use Rattle.doc_model.proofs.ByRowLaws.{with_id_absent, with_id_same, with_id-with_id, find-with_id}
use Rattle.doc_model.proofs.SoundLaws.{GivesData, gives_from, IsSoundGrid-add_rows, IsSoundGrid-update_rows, IsSoundGrid-remove_rows}
use Rattle.doc_model.proofs.BackLaws.{remove_rows-add_rows, update_rows-update_rows, add_rows-remove_rows, gives_old_columns, gives_data_columns}
use Rattle.doc_model.proofs.WholeLaws.{IsGood, IsPlain, resources_rules_apart}
use Rattle.doc_model.proofs.DocumentParts.{record_table_plain, KeepsColumns, with_table-plain, passes_parts, one_back, LeadsBack, Outcome}
use Rattle.doc_model.proofs.GoodLaws.{good_same_rows}

-- a table that stands at one of the two indexes of the access tables
module _ (r u : Grid ColDef) (p : List Table) (id : List ℕ) (f : Grid ColDef → Grid ColDef) (nt : bytes_eq tables_id id ≡ false) (nc : bytes_eq columns_id id ≡ false) (absent : has_id table_id p id ≡ false) where
  with_table-resources : bytes_eq resources_id id ≡ true → bytes_eq rules_id id ≡ false → with_table id (on_grid f) (with_schema r u p) ≡ with_schema (f r) u p
  with_table-resources is nu =
      ap (λ t. t ∷ with_table id (on_grid f) (metadata_table columns_id (columns_grid p) ∷ metadata_table resources_id r ∷ metadata_table rules_id u ∷ p))
      (cond_false (bytes_eq tables_id id) (on_grid f (metadata_table tables_id (tables_grid p))) (metadata_table tables_id (tables_grid p)) nt)
      ∙ ap (λ t. metadata_table tables_id (tables_grid p) ∷ t ∷ with_table id (on_grid f) (metadata_table resources_id r ∷ metadata_table rules_id u ∷ p))
      (cond_false (bytes_eq columns_id id) (on_grid f (metadata_table columns_id (columns_grid p))) (metadata_table columns_id (columns_grid p)) nc)
      ∙ ap (λ t. metadata_table tables_id (tables_grid p) ∷ metadata_table columns_id (columns_grid p) ∷ t ∷ with_table id (on_grid f) (metadata_table rules_id u ∷ p))
      (cond_true (bytes_eq resources_id id) (metadata_table resources_id (f r)) (metadata_table resources_id r) is)
      ∙ ap (λ t. metadata_table tables_id (tables_grid p) ∷ metadata_table columns_id (columns_grid p) ∷ metadata_table resources_id (f r) ∷ t ∷ with_table id (on_grid f) p)
      (cond_false (bytes_eq rules_id id) (metadata_table rules_id (f u)) (metadata_table rules_id u) nu)
      ∙ ap (λ q. metadata_table tables_id (tables_grid p) ∷ metadata_table columns_id (columns_grid p) ∷ metadata_table resources_id (f r) ∷ metadata_table rules_id u ∷ q)
      (with_id_absent table_id id (on_grid f) p absent)

  with_table-rules : bytes_eq resources_id id ≡ false → bytes_eq rules_id id ≡ true → with_table id (on_grid f) (with_schema r u p) ≡ with_schema r (f u) p
  with_table-rules nr is =
      ap (λ t. t ∷ with_table id (on_grid f) (metadata_table columns_id (columns_grid p) ∷ metadata_table resources_id r ∷ metadata_table rules_id u ∷ p))
      (cond_false (bytes_eq tables_id id) (on_grid f (metadata_table tables_id (tables_grid p))) (metadata_table tables_id (tables_grid p)) nt)
      ∙ ap (λ t. metadata_table tables_id (tables_grid p) ∷ t ∷ with_table id (on_grid f) (metadata_table resources_id r ∷ metadata_table rules_id u ∷ p))
      (cond_false (bytes_eq columns_id id) (on_grid f (metadata_table columns_id (columns_grid p))) (metadata_table columns_id (columns_grid p)) nc)
      ∙ ap (λ t. metadata_table tables_id (tables_grid p) ∷ metadata_table columns_id (columns_grid p) ∷ t ∷ with_table id (on_grid f) (metadata_table rules_id u ∷ p))
      (cond_false (bytes_eq resources_id id) (metadata_table resources_id (f r)) (metadata_table resources_id r) nr)
      ∙ ap (λ t. metadata_table tables_id (tables_grid p) ∷ metadata_table columns_id (columns_grid p) ∷ metadata_table resources_id r ∷ t ∷ with_table id (on_grid f) p)
      (cond_true (bytes_eq rules_id id) (metadata_table rules_id (f u)) (metadata_table rules_id u) is)
      ∙ ap (λ q. metadata_table tables_id (tables_grid p) ∷ metadata_table columns_id (columns_grid p) ∷ metadata_table resources_id r ∷ metadata_table rules_id (f u) ∷ q)
      (with_id_absent table_id id (on_grid f) p absent)

module _ (r u : Grid ColDef) (p : List Table) (id : List ℕ) where
  abbrev schema_false : bytes_eq tables_id id ≡ false → bytes_eq columns_id id ≡ false → is_schema_id id ≡ false
  schema_false nt nc = ap (λ b. b || bytes_eq columns_id id) nt ∙ nc

  -- what a record action finds, past the schema tables
  record_table-past : bytes_eq tables_id id ≡ false → bytes_eq columns_id id ≡ false
      → record_table (with_schema r u p) id ≡ find_id table_id id (metadata_table resources_id r ∷ metadata_table rules_id u ∷ p)
  record_table-past nt nc =
      cond_false (is_schema_id id) None (find_id table_id id (with_schema r u p)) (schema_false nt nc)
      ∙ cond_false (bytes_eq tables_id id) (Some (metadata_table tables_id (tables_grid p))) (find_id table_id id (metadata_table columns_id (columns_grid p) ∷ metadata_table resources_id r ∷ metadata_table rules_id u ∷ p)) nt
      ∙ cond_false (bytes_eq columns_id id) (Some (metadata_table columns_id (columns_grid p))) (find_id table_id id (metadata_table resources_id r ∷ metadata_table rules_id u ∷ p)) nc

-- what a change of the cells and rows of one table leaves
pub record Changed (r u : Grid ColDef) (p : List Table) (id : List ℕ) (f : Grid ColDef → Grid ColDef) (t : Table) : Type 0 where
  pub resources : Grid ColDef
  pub rules : Grid ColDef
  pub plain : List Table
  pub becomes : with_table id (on_grid f) (with_schema r u p) ≡ with_schema resources rules plain
  pub good : IsGood resources rules plain
  pub there : record_table (with_schema resources rules plain) id ≡ Some (on_grid f t)
  pub back : (g : Grid ColDef → Grid ColDef) → KeepsColumns g → g (f t.grid) ≡ t.grid → with_table id (on_grid g) (with_schema resources rules plain) ≡ with_schema r u p

module _ (r u : Grid ColDef) (p : List Table) (good : IsGood r u p) (id : List ℕ) (f : Grid ColDef → Grid ColDef) (k : KeepsColumns f) (t : Table) (sound : IsSoundGrid (f t.grid)) where
  -- no plain table has a metadata table's id
  absent_plain : is_metadata_id id ≡ true → has_id table_id p id ≡ false
  absent_plain is = none p good.plain
    where
      none : (p : List Table) → AllByRecursion (λ t. is_metadata_id t.id ≡ false) p → has_id table_id p id ≡ false
      none [] h = refl
      none (x ∷ p) h =
          elim (bytes_eq x.id id) as (λ b. bytes_eq x.id id ≡ b → (b || has_id table_id p id) ≡ false) [
            | true ↦ λ same. absurd (both_ways (is_metadata_id x.id) h.0 (ap is_metadata_id ((bytes_eq-Decides x.id id).0 same) ∙ is))
            | false ↦ λ _. none p h.1
          ] refl

  good_resources : (x : Grid ColDef) → IsSoundGrid x → x.columns ≡ resources_columns → IsGood x u p
  good_resources x s h = record {
    resources_sound = s;
    rules_sound = good.rules_sound;
    resources_have = h;
    rules_have = good.rules_have;
    distinct = good.distinct;
    plain = good.plain;
    grids = good.grids;
    names = good.names;
    once = good.once;
    tables_ascend = good.tables_ascend;
    columns_ascend = good.columns_ascend;
    table_rows = good.table_rows;
    columns_from_one = good.columns_from_one;
  }

  good_rules : (x : Grid ColDef) → IsSoundGrid x → x.columns ≡ rules_columns → IsGood r x p
  good_rules x s h = record {
    resources_sound = good.resources_sound;
    rules_sound = s;
    resources_have = good.resources_have;
    rules_have = h;
    distinct = good.distinct;
    plain = good.plain;
    grids = good.grids;
    names = good.names;
    once = good.once;
    tables_ascend = good.tables_ascend;
    columns_ascend = good.columns_ascend;
    table_rows = good.table_rows;
    columns_from_one = good.columns_from_one;
  }

  changed_resources : bytes_eq tables_id id ≡ false → bytes_eq columns_id id ≡ false → bytes_eq resources_id id ≡ true → t ≡ metadata_table resources_id r → Changed r u p id f t
  changed_resources nt nc is same =
      let metadata : is_metadata_id id ≡ true = ap (λ b. is_schema_id id || (b || bytes_eq rules_id id)) is ∙ or_true (is_schema_id id) in
      let nu : bytes_eq rules_id id ≡ false = ap (bytes_eq rules_id) (sym ((bytes_eq-Decides resources_id id).0 is)) ∙ bytes_apart resources_id rules_id resources_rules_apart in
      let absent : has_id table_id p id ≡ false = absent_plain metadata in
      let grid : t.grid ≡ r = ap (λ x. x.grid) same in
      record {
        resources = f r;
        rules = u;
        plain = p;
        becomes = with_table-resources r u p id f nt nc absent is nu;
        good = good_resources (f r) (subst (λ g. IsSoundGrid (f g)) grid sound) (k r ∙ good.resources_have);
        there = record_table-past (f r) u p id nt nc ∙ cond_true (bytes_eq resources_id id) (Some (metadata_table resources_id (f r))) (find_id table_id id (metadata_table rules_id u ∷ p)) is
            ∙ ap (λ x. let y : Option Table = Some (on_grid f x) in y) (sym same);
        back = λ g _ e. with_table-resources (f r) u p id g nt nc absent is nu ∙ ap (λ x. with_schema x u p) (subst (λ x. g (f x) ≡ x) grid e);
      }
    where
      or_true : (b : Bool) → (b || true) ≡ true
      or_true true = refl
      or_true false = refl

  changed_rules : bytes_eq tables_id id ≡ false → bytes_eq columns_id id ≡ false → bytes_eq resources_id id ≡ false → bytes_eq rules_id id ≡ true → t ≡ metadata_table rules_id u → Changed r u p id f t
  changed_rules nt nc nr is same =
      let metadata : is_metadata_id id ≡ true = ap (λ b. is_schema_id id || (bytes_eq resources_id id || b)) is ∙ ap (λ b. is_schema_id id || b) (or_true (bytes_eq resources_id id)) ∙ or_true (is_schema_id id) in
      let absent : has_id table_id p id ≡ false = absent_plain metadata in
      let grid : t.grid ≡ u = ap (λ x. x.grid) same in
      record {
        resources = r;
        rules = f u;
        plain = p;
        becomes = with_table-rules r u p id f nt nc absent nr is;
        good = good_rules (f u) (subst (λ g. IsSoundGrid (f g)) grid sound) (k u ∙ good.rules_have);
        there = record_table-past r (f u) p id nt nc
            ∙ cond_false (bytes_eq resources_id id) (Some (metadata_table resources_id r)) (find_id table_id id (metadata_table rules_id (f u) ∷ p)) nr
            ∙ cond_true (bytes_eq rules_id id) (Some (metadata_table rules_id (f u))) (find_id table_id id p) is
            ∙ ap (λ x. let y : Option Table = Some (on_grid f x) in y) (sym same);
        back = λ g _ e. with_table-rules r (f u) p id g nt nc absent nr is ∙ ap (λ x. with_schema r x p) (subst (λ x. g (f x) ≡ x) grid e);
      }
    where
      or_true : (b : Bool) → (b || true) ≡ true
      or_true true = refl
      or_true false = refl

  pub changed_plain : IsPlain id → find_id table_id id p ≡ Some t → Changed r u p id f t
  changed_plain plain found = record {
    resources = r;
    rules = u;
    plain = with_table id (on_grid f) p;
    becomes = with_table-plain r u p id f plain k;
    good = good_same_rows r u p good id (on_grid f) t (λ x. refl) (λ x. refl) found sound
        (ap (λ cs. is_name t.id && list_all (λ (d : ColDef). is_name d.id) cs) (k t.grid) ∙ found_all table_id (λ t. has_names t ≡ true) id p t good.names found)
        (ap (map column_row) (k t.grid));
    there = record_table_plain r u (with_table id (on_grid f) p) id plain
        ∙ find-with_id table_id id (on_grid f) (λ x. refl) p id
        ∙ cond_true (bytes_eq id id) (option_map (on_grid f) (find_id table_id id p)) (find_id table_id id p) (bytes_itself id)
        ∙ ap (option_map (on_grid f)) found;
    back = λ g kg e.
        with_table-plain r u (with_table id (on_grid f) p) id g plain kg
        ∙ ap (with_schema r u) (with_id-with_id table_id id (on_grid f) (λ x. refl) (on_grid g) p
        ∙ with_id_same table_id id (λ x. on_grid g (on_grid f x)) p t good.distinct found (ap (λ x. let y : Table = record { id = t.id; row = t.row; grid = x } in y) e));
  }

  -- a change of the table that a record action finds
  pub changed : record_table (with_schema r u p) id ≡ Some t → Changed r u p id f t
  changed e =
      elim (bytes_eq tables_id id) as (λ b. bytes_eq tables_id id ≡ b → Changed r u p id f t) [
        | true ↦ λ it. absurd (none (sym (cond_true (is_schema_id id) None (find_id table_id id (with_schema r u p)) (ap (λ b. b || bytes_eq columns_id id) it)) ∙ e))
        | false ↦ λ nt. elim (bytes_eq columns_id id) as (λ b. bytes_eq columns_id id ≡ b → Changed r u p id f t) [
          | true ↦ λ ic. absurd (none (sym (cond_true (is_schema_id id) None (find_id table_id id (with_schema r u p)) (ap (λ b. b || bytes_eq columns_id id) nt ∙ ic)) ∙ e))
          | false ↦ λ nc.
              let found : find_id table_id id (metadata_table resources_id r ∷ metadata_table rules_id u ∷ p) ≡ Some t = sym (record_table-past r u p id nt nc) ∙ e in
              elim (bytes_eq resources_id id) as (λ b. bytes_eq resources_id id ≡ b → Changed r u p id f t) [
                | true ↦ λ ir.
                    let some : Some (metadata_table resources_id r) ≡ Some t = sym (cond_true (bytes_eq resources_id id) (Some (metadata_table resources_id r)) (find_id table_id id (metadata_table rules_id u ∷ p)) ir) ∙ found in
                    let same : metadata_table resources_id r ≡ t = cc in
                    changed_resources nt nc ir (sym same)
                | false ↦ λ nr.
                    let later : find_id table_id id (metadata_table rules_id u ∷ p) ≡ Some t = sym (cond_false (bytes_eq resources_id id) (Some (metadata_table resources_id r)) (find_id table_id id (metadata_table rules_id u ∷ p)) nr) ∙ found in
                    elim (bytes_eq rules_id id) as (λ b. bytes_eq rules_id id ≡ b → Changed r u p id f t) [
                      | true ↦ λ iu.
                          let some : Some (metadata_table rules_id u) ≡ Some t = sym (cond_true (bytes_eq rules_id id) (Some (metadata_table rules_id u)) (find_id table_id id p) iu) ∙ later in
                          let same : metadata_table rules_id u ≡ t = cc in
                          changed_rules nt nc nr iu (sym same)
                      | false ↦ λ nu. changed_plain (record { tables = nt; columns = nc; resources = nr; rules = nu }) (sym (cond_false (bytes_eq rules_id id) (Some (metadata_table rules_id u)) (find_id table_id id p) nu) ∙ later)
                    ] refl
              ] refl
        ] refl
      ] refl
    where
      none : ◌≡◌ {A = Option Table} None (Some t) → ⊥
      none e = absurd (cc)

-- the table that a record action finds is there, and is sound
found_record : (s : Document) (id : List ℕ) (t : Table) → record_table s id ≡ Some t → find_id table_id id s ≡ Some t
found_record s id t e = elim (is_schema_id id) as (λ b. cond b None (find_id table_id id s) ≡ Some t → find_id table_id id s ≡ Some t) [ true ↦ λ e. absurd (cc) | false ↦ λ e. e ] e

pub from_one_in : (rows : List ℕ) (g : Grid ColDef) → IsSoundGrid g → all_in rows g.rows ≡ true → from_one rows ≡ true
from_one_in rows g s there = true_each (λ r. ltb 0 r) rows (each_has (λ r. ltb 0 r ≡ true) rows (λ r here. lt-ltb 0 r (each_at (λ r. 0 < r) g.rows r s.from_one (all_in_at rows g.rows r there here))))

module _ (r u : Grid ColDef) (p : List Table) (good : IsGood r u p) (sound : AllByRecursion (λ t. IsSoundGrid t.grid) (with_schema r u p)) (table : List ℕ) where
  abbrev whole : Document
  whole = with_schema r u p

  sound_record : (t : Table) → record_table whole table ≡ Some t → IsSoundGrid t.grid
  sound_record t e = found_all table_id (λ t. IsSoundGrid t.grid) table whole t sound (found_record whole table t e)

  pub add_outcome : (rows : List ℕ) (ks : List CellColumn) → valid whole (BulkAdd table rows ks) ≡ true → Outcome whole (BulkAdd table rows ks) (inverse whole (BulkAdd table rows ks))
  add_outcome rows ks v =
      let parts : (t : Table) × ((record_table whole table ≡ Some t) × ((((has_no_duplicates rows && from_one rows) && none_in rows t.grid.rows) && gives_data t.grid rows ks) ≡ true))
      = passes_parts (record_table whole table) (λ t. has_no_duplicates rows && from_one rows && none_in rows t.grid.rows && gives_data t.grid rows ks) v in
      let t : Table = parts.0 in
      let tests : (has_no_duplicates rows ≡ true) × (from_one rows ≡ true) × (none_in rows t.grid.rows ≡ true) × (gives_data t.grid rows ks ≡ true) = parts_4 (has_no_duplicates rows) (from_one rows) (none_in rows t.grid.rows) (gives_data t.grid rows ks) parts.1.1 in
      let s : IsSoundGrid t.grid = sound_record t parts.1.0 in
      let f : Grid ColDef → Grid ColDef = add_rows column_id start_of rows ks in
      let c : Changed r u p table f t = changed r u p good table f (λ g. refl) t (IsSoundGrid-add_rows rows ks t.grid s (gives_from t.grid rows ks tests.3) tests.1) parts.1.0 in
      record {
        resources = c.resources;
        rules = c.rules;
        plain = c.plain;
        becomes = c.becomes;
        good = c.good;
        leads = one_back whole (with_schema c.resources c.rules c.plain) (BulkRemove table rows)
            (ap (λ o. passes o (λ t. has_no_duplicates rows && all_in rows t.grid.rows)) c.there
            ∙ both_true (has_no_duplicates rows) (all_in rows (f t.grid).rows) tests.0 (all_in-insert_rows rows t.grid.rows))
            (c.back (remove_rows column_id rows) (λ g. refl) (remove_rows-add_rows rows ks t.grid s.is_grid tests.2));
      }

  pub update_outcome : (rows : List ℕ) (ks : List CellColumn) → valid whole (BulkUpdate table rows ks) ≡ true → Outcome whole (BulkUpdate table rows ks) (inverse whole (BulkUpdate table rows ks))
  update_outcome rows ks v =
      let parts : (t : Table) × ((record_table whole table ≡ Some t) × ((((has_no_duplicates rows && from_one rows) && all_in rows t.grid.rows) && gives_data t.grid rows ks) ≡ true))
      = passes_parts (record_table whole table) (λ t. has_no_duplicates rows && from_one rows && all_in rows t.grid.rows && gives_data t.grid rows ks) v in
      let t : Table = parts.0 in
      let tests : (has_no_duplicates rows ≡ true) × (from_one rows ≡ true) × (all_in rows t.grid.rows ≡ true) × (gives_data t.grid rows ks ≡ true) = parts_4 (has_no_duplicates rows) (from_one rows) (all_in rows t.grid.rows) (gives_data t.grid rows ks) parts.1.1 in
      let s : IsSoundGrid t.grid = sound_record t parts.1.0 in
      let f : Grid ColDef → Grid ColDef = update_rows column_id rows ks in
      let gives : GivesData t.grid ks = gives_from t.grid rows ks tests.3 in
      let c : Changed r u p table f t = changed r u p good table f (λ g. refl) t (IsSoundGrid-update_rows rows ks t.grid s gives) parts.1.0 in
      let old : List CellColumn = old_columns t.grid rows ks in
      let after : Document = with_schema c.resources c.rules c.plain in
      record {
        resources = c.resources;
        rules = c.rules;
        plain = c.plain;
        becomes = c.becomes;
        good = c.good;
        leads = subst (λ o. LeadsBack after whole (made_of o (λ t. BulkUpdate table rows (old_columns t.grid rows ks) ∷ []))) (sym (found_record whole table t parts.1.0))
            (one_back whole after (BulkUpdate table rows old)
            (ap (λ o. passes o (λ t. has_no_duplicates rows && from_one rows && all_in rows t.grid.rows && gives_data t.grid rows old)) c.there
            ∙ both_true ((has_no_duplicates rows && from_one rows) && all_in rows t.grid.rows) (gives_data (f t.grid) rows old)
            (both_true (has_no_duplicates rows && from_one rows) (all_in rows t.grid.rows) (both_true (has_no_duplicates rows) (from_one rows) tests.0 tests.1) tests.2)
            (gives_old_columns t.grid (f t.grid) rows ks s refl gives.data' tests.2))
            (c.back (update_rows column_id rows old) (λ g. refl) (update_rows-update_rows rows ks t.grid s.is_grid)));
      }

  pub remove_outcome : (rows : List ℕ) → valid whole (BulkRemove table rows) ≡ true → Outcome whole (BulkRemove table rows) (inverse whole (BulkRemove table rows))
  remove_outcome rows v =
      let parts : (t : Table) × ((record_table whole table ≡ Some t) × ((has_no_duplicates rows && all_in rows t.grid.rows) ≡ true))
      = passes_parts (record_table whole table) (λ t. has_no_duplicates rows && all_in rows t.grid.rows) v in
      let t : Table = parts.0 in
      let tests : (has_no_duplicates rows ≡ true) × (all_in rows t.grid.rows ≡ true) = and_parts (has_no_duplicates rows) (all_in rows t.grid.rows) parts.1.1 in
      let s : IsSoundGrid t.grid = sound_record t parts.1.0 in
      let f : Grid ColDef → Grid ColDef = remove_rows column_id rows in
      let c : Changed r u p table f t = changed r u p good table f (λ g. refl) t (IsSoundGrid-remove_rows rows t.grid s) parts.1.0 in
      let old : List CellColumn = data_columns t.grid rows in
      let after : Document = with_schema c.resources c.rules c.plain in
      record {
        resources = c.resources;
        rules = c.rules;
        plain = c.plain;
        becomes = c.becomes;
        good = c.good;
        leads = subst (λ o. LeadsBack after whole (made_of o (λ t. BulkAdd table rows (data_columns t.grid rows) ∷ []))) (sym (found_record whole table t parts.1.0))
            (one_back whole after (BulkAdd table rows old)
            (ap (λ o. passes o (λ t. has_no_duplicates rows && from_one rows && none_in rows t.grid.rows && gives_data t.grid rows old)) c.there
            ∙ both_true ((has_no_duplicates rows && from_one rows) && none_in rows (f t.grid).rows) (gives_data (f t.grid) rows old)
            (both_true (has_no_duplicates rows && from_one rows) (none_in rows (f t.grid).rows) (both_true (has_no_duplicates rows) (from_one rows) tests.0 (from_one_in rows t.grid s tests.1)) (none_in-without rows t.grid.rows))
            (gives_data_columns t.grid (f t.grid) rows s refl tests.1))
            (c.back (add_rows column_id start_of rows old) (λ g. refl) (add_rows-remove_rows rows t.grid s tests.1)));
      }
