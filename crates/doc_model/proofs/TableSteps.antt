-- Actions that add, remove and rename tables: what they leave whole, and that what undoes them does so.
use Rattle.std.proofs.Common.{ℕ, Bool, true, false, not, ◌&&◌, ◌+◌, List, [], ◌∷◌, map, ◌≡◌, ◌<◌, ◌≤◌, length, refl, sym, ap, subst, ◌∙◌, Some, eqb, ltb, arith}
use Rattle.std.proofs.lemmas.Bool.{false≢true, and_parts, lt-ltb, ltb-true}
use Rattle.std.specs.List.{list_all, AllByRecursion}
use Rattle.std.specs.Str.{bytes_eq}
use Rattle.cell_types.specs.NameRule.{is_name}
use Rattle.cell_types.specs.declared.value.CellValue.{CellValue}
use Rattle.doc_model.specs.declared.action.DocAction.TheVariants.{BulkAdd, AddTable, RemoveTable, RenameTable}
use Rattle.doc_model.specs.declared.column.ColDef.{ColDef}
use Rattle.doc_model.specs.MetadataIds.{tables_id, columns_id}
use Rattle.doc_model.specs.ByIds.{find_id, has_id, are_distinct, without_id}
use Rattle.doc_model.specs.Rows.{has, has_no_duplicates, none_in, IsAscending}
use Rattle.doc_model.specs.Grid.{Grid}
use Rattle.doc_model.specs.Records.{add_rows}
use Rattle.doc_model.specs.Column.{column_id, column_row, start_of, is_sound_info}
use Rattle.doc_model.specs.Document.{Table, Document, table_id, table_row, on_grid, renamed, with_table, put_by_row, by_row}
use Rattle.doc_model.specs.Schema.{all_columns, with_schema}
use Rattle.doc_model.specs.Sound.{IsSoundGrid, has_names}
use Rattle.doc_model.specs.Valid.{passes, schema_table, record_table, rows_of, from_one, are_free, is_new_table, gives_data, valid}
use Rattle.doc_model.specs.Apply.{new_table, effect}
use Rattle.doc_model.specs.Inverse.{made_of, data_columns, table_again, inverse}
use Rattle.doc_model.specs.ViewEdits.{if_any}
use Rattle.doc_model.proofs.Choices.{cond_true, not_true, parts_3, parts_6, both_true, true_each, each_true, each_weaker, each_mapped, each_unmapped}
use Rattle.doc_model.proofs.ByIdsLaws.{bytes_itself, found_id, found_all, has_found, are_distinct-AreDistinct, AreDistinct-are_distinct}
use Rattle.doc_model.proofs.RowsLaws.{all_in_itself}
use Rattle.doc_model.proofs.ByRowLaws.{each_by_row, IsAscending-by_row, by_row_again, AreDistinct-by_row, find-put_by_row, without-put_by_row, put_by_row-without, with_id-put_by_row, with_id_back, find-new_id, has-old_id, apart_ids, has_id-without_id}
use Rattle.doc_model.proofs.TimesLaws.{one_if, times, times-absent, absent-times, there-times, times-once, once_ascending, none_in-times, times-none_in, times-by_row, times-without_id}
use Rattle.doc_model.proofs.SoundLaws.{from_one_each}
use Rattle.doc_model.proofs.SchemaLaws.{has-in_order}
use Rattle.doc_model.proofs.WholeLaws.{IsGood, IsPlain, column_rows, described_rows, names_parts}
use Rattle.doc_model.proofs.DocumentParts.{find_plain, has_plain, absent_parts, schema_table_plain, record_table_plain, schema_table_parts, passes_parts, rows_of-tables, rows_of-columns, with_table-plain, one_back, two_back, LeadsBack, Outcome}
use Rattle.doc_model.proofs.BackLaws.{bare, add_rows-bare, gives_data_columns}
use Rattle.doc_model.proofs.GoodLaws.{own, times-without, good_added, good_removed, good_renamed}
use Rattle.doc_model.proofs.RecordSteps.{from_one_in}

-- a row that describes no column is not among the rows of the table of columns, and the other way round
pub not_described : (r u : Grid ColDef) (p : List Table) (q : ℕ) → times q (column_rows p) ≡ 0 → has (rows_of (with_schema r u p) columns_id) q ≡ false
not_described r u p q none =
    ap (λ rows. has rows q) (rows_of-columns r u p) ∙ has-in_order (all_columns p) q ∙ ap (λ rows. has rows q) (described_rows p) ∙ absent-times q (column_rows p) none

pub undescribed : (r u : Grid ColDef) (p : List Table) (q : ℕ) → has (rows_of (with_schema r u p) columns_id) q ≡ false → times q (column_rows p) ≡ 0
undescribed r u p q none =
    times-absent q (column_rows p) (ap (λ rows. has rows q) (sym (described_rows p)) ∙ sym (has-in_order (all_columns p) q) ∙ ap (λ rows. has rows q) (sym (rows_of-columns r u p)) ∙ none)

-- rows that are free in a schema table
pub free_parts : (s : Document) (id : List ℕ) (rows : List ℕ) → are_free s id rows ≡ true → (from_one rows ≡ true) × (has_no_duplicates rows ≡ true) × (none_in rows (rows_of s id) ≡ true)
free_parts s id rows e = parts_3 (from_one rows) (has_no_duplicates rows) (none_in rows (rows_of s id)) e

pub free_from : (s : Document) (id : List ℕ) (rows : List ℕ) → from_one rows ≡ true → has_no_duplicates rows ≡ true → none_in rows (rows_of s id) ≡ true → are_free s id rows ≡ true
free_from s id rows a b c = both_true (from_one rows && has_no_duplicates rows) (none_in rows (rows_of s id)) (both_true (from_one rows) (has_no_duplicates rows) a b) c

and_true : (b : Bool) → (b && true) ≡ true → b ≡ true
and_true true e = refl
and_true false e = e

true_and : (b : Bool) → b ≡ true → (b && true) ≡ true
true_and true e = refl
true_and false e = e

pub one_free : (s : Document) (id : List ℕ) (row : ℕ) → 0 < row → has (rows_of s id) row ≡ false → are_free s id (row ∷ []) ≡ true
one_free s id row positive absent = free_from s id (row ∷ []) (true_and (ltb 0 row) (lt-ltb 0 row positive)) refl (true_and (not (has (rows_of s id) row)) (ap not absent))

pub one_free_parts : (s : Document) (id : List ℕ) (row : ℕ) → are_free s id (row ∷ []) ≡ true → (0 < row) × (has (rows_of s id) row ≡ false)
one_free_parts s id row e =
    let three : (from_one (row ∷ []) ≡ true) × (has_no_duplicates (row ∷ []) ≡ true) × (none_in (row ∷ []) (rows_of s id) ≡ true) = free_parts s id (row ∷ []) e in
    (ltb-true 0 row (and_true (ltb 0 row) three.0), not_true (has (rows_of s id) row) (and_true (not (has (rows_of s id) row)) three.2))

module _ (r u : Grid ColDef) (p : List Table) (good : IsGood r u p) where
  abbrev whole : Document
  whole = with_schema r u p

  -- ---- a new table

  pub add_table_outcome : (table : List ℕ) (row : ℕ) (columns : List ColDef) → valid whole (AddTable table row columns) ≡ true → Outcome whole (AddTable table row columns) (inverse whole (AddTable table row columns))
  add_table_outcome table row columns v =
      let six : (is_new_table whole table ≡ true) × (are_free whole tables_id (row ∷ []) ≡ true) × (are_distinct column_id columns ≡ true) × (list_all (λ (d : ColDef). is_name d.id) columns ≡ true)
      × (are_free whole columns_id (map column_row columns) ≡ true) × (list_all (λ (d : ColDef). is_sound_info d.info) columns ≡ true)
      = parts_6 (is_new_table whole table) (are_free whole tables_id (row ∷ [])) (are_distinct column_id columns) (list_all (λ (d : ColDef). is_name d.id) columns) (are_free whole columns_id (map column_row columns)) (list_all (λ (d : ColDef). is_sound_info d.info) columns) v in
      let new : (not (has_id table_id whole table) ≡ true) × (is_name table ≡ true) = and_parts (not (has_id table_id whole table)) (is_name table) six.0 in
      let absent : IsPlain table × (has_id table_id p table ≡ false) = absent_parts r u p table (not_true (has_id table_id whole table) new.0) in
      let row_free : (0 < row) × (has (rows_of whole tables_id) row ≡ false) = one_free_parts whole tables_id row six.1 in
      let free : (from_one (map column_row columns) ≡ true) × (has_no_duplicates (map column_row columns) ≡ true) × (none_in (map column_row columns) (rows_of whole columns_id) ≡ true) = free_parts whole columns_id (map column_row columns) six.4 in
      let t : Table = new_table table row columns in
      let sound : IsSoundGrid t.grid = record {
        is_grid = record { distinct = AreDistinct-by_row column_row column_id columns (AreDistinct-are_distinct column_id columns six.2); ascending = tt; height = refl; width = tt };
        from_one = tt;
        infos = each_by_row column_row (λ d. is_sound_info d.info ≡ true) columns (each_true (λ (d : ColDef). is_sound_info d.info) columns six.5);
        holds = λ d q found here. absurd (false≢true here);
      } in
      let names : has_names t ≡ true = both_true (is_name table) (list_all (λ (d : ColDef). is_name d.id) (by_row column_row columns)) new.1
      (true_each (λ (d : ColDef). is_name d.id) (by_row column_row columns) (each_by_row column_row (λ d. is_name d.id ≡ true) columns (each_true (λ (d : ColDef). is_name d.id) columns six.3))) in
      record {
        resources = r;
        rules = u;
        plain = put_by_row table_row t p;
        becomes = refl;
        good = good_added r u p good t absent.0 absent.1 sound names (IsAscending-by_row column_row columns free.1)
            (each_mapped (λ q. 0 < q) column_row (by_row column_row columns) (each_by_row column_row (λ d. 0 < column_row d) columns (each_unmapped (λ q. 0 < q) column_row columns (from_one_each (map column_row columns) free.0))))
            row_free.0 (ap (λ rows. has rows row) (sym (rows_of-tables r u p)) ∙ row_free.1)
            (λ q. once q free.1 free.2);
        leads = one_back whole (with_schema r u (put_by_row table_row t p)) (RemoveTable table)
            (ap (λ o. passes o (λ (_ : Table). true)) (schema_table_plain r u (put_by_row table_row t p) table absent.0 ∙ find-put_by_row table_row table_id t p table absent.1 ∙ cond_true (bytes_eq table table) (Some t) (find_id table_id table p) (bytes_itself table)))
            (ap (with_schema r u) (without-put_by_row table_row table_id t p absent.1));
      }
    where
      once : (q : ℕ) → has_no_duplicates (map column_row columns) ≡ true → none_in (map column_row columns) (rows_of whole columns_id) ≡ true → times q (map column_row (by_row column_row columns)) + times q (column_rows p) ≤ 1
      once q o n =
          let mine : times q (map column_row (by_row column_row columns)) ≡ times q (map column_row columns) = times-by_row column_row q columns in
          elim (has (map column_row columns) q) as (λ b. has (map column_row columns) q ≡ b → times q (map column_row (by_row column_row columns)) + times q (column_rows p) ≤ 1) [
            | true ↦ λ here.
                let few : times q (map column_row columns) ≤ 1 = times-once q (map column_row columns) o in
                let none : times q (column_rows p) ≡ 0 = undescribed r u p q (absent-times q (rows_of whole columns_id) (times-none_in (map column_row columns) (rows_of whole columns_id) q n here)) in
                omega arith
            | false ↦ λ out.
                let none : times q (map column_row columns) ≡ 0 = times-absent q (map column_row columns) out in
                let few : times q (column_rows p) ≤ 1 = times-once q (column_rows p) good.once in
                omega arith
          ] refl

  -- ---- a table gone

  module _ (t : Table) (plain : IsPlain t.id) (found : find_id table_id t.id p ≡ Some t) where
    abbrev left : List Table
    left = without_id table_id t.id p

    abbrev after : Document
    after = with_schema r u left

    sound_t : IsSoundGrid t.grid
    sound_t = found_all table_id (λ t. IsSoundGrid t.grid) t.id p t good.grids found

    ascend_t : IsAscending (own t)
    ascend_t = found_all table_id (λ t. IsAscending (own t)) t.id p t good.columns_ascend found

    names_t : (is_name t.id ≡ true) × AllByRecursion (λ d. is_name d.id ≡ true) t.grid.columns
    names_t = names_parts t (found_all table_id (λ t. has_names t ≡ true) t.id p t good.names found)

    table_absent : has_id table_id left t.id ≡ false
    table_absent = has_id-without_id table_id t.id p

    row_positive : 0 < t.row
    row_positive = found_all table_id (λ t. 0 < table_row t) t.id p t (each_unmapped (λ q. 0 < q) table_row p good.table_rows) found

    row_absent : has (rows_of after tables_id) t.row ≡ false
    row_absent =
        let here : times t.row (map table_row left) + one_if (eqb t.row t.row) ≡ times t.row (map table_row p) = times-without_id table_row t.row table_id t.id p t good.distinct found in
        let one : one_if (eqb t.row t.row) ≡ 1 = ap one_if (Rattle.doc_model.proofs.RowsLaws.number_itself t.row) in
        let few : times t.row (map table_row p) ≤ 1 = times-once t.row (map table_row p) (once_ascending (map table_row p) good.tables_ascend) in
        ap (λ rows. has rows t.row) (rows_of-tables r u left) ∙ absent-times t.row (map table_row left) (omega arith)

    own_absent : none_in (own t) (rows_of after columns_id) ≡ true
    own_absent = none_in-times (own t) (rows_of after columns_id) (λ q here.
        let sum : times q (column_rows left) + times q (own t) ≡ times q (column_rows p) = times-without q t.id p t good.distinct found in
        let few : times q (column_rows p) ≤ 1 = times-once q (column_rows p) good.once in
        let some : 1 ≤ times q (own t) = there-times q (own t) here in
        times-absent q (rows_of after columns_id) (not_described r u left q (omega arith)))

    valid_again : valid after (AddTable t.id t.row t.grid.columns) ≡ true
    valid_again =
        both_true ((((is_new_table after t.id && are_free after tables_id (t.row ∷ [])) && are_distinct column_id t.grid.columns) && list_all (λ (d : ColDef). is_name d.id) t.grid.columns) && are_free after columns_id (own t)) (list_all (λ (d : ColDef). is_sound_info d.info) t.grid.columns)
        (both_true (((is_new_table after t.id && are_free after tables_id (t.row ∷ [])) && are_distinct column_id t.grid.columns) && list_all (λ (d : ColDef). is_name d.id) t.grid.columns) (are_free after columns_id (own t))
        (both_true ((is_new_table after t.id && are_free after tables_id (t.row ∷ [])) && are_distinct column_id t.grid.columns) (list_all (λ (d : ColDef). is_name d.id) t.grid.columns)
        (both_true (is_new_table after t.id && are_free after tables_id (t.row ∷ [])) (are_distinct column_id t.grid.columns)
        (both_true (is_new_table after t.id) (are_free after tables_id (t.row ∷ []))
        (both_true (not (has_id table_id after t.id)) (is_name t.id) (ap not (has_plain r u left t.id plain ∙ table_absent)) names_t.0)
        (one_free after tables_id t.row row_positive row_absent))
        (are_distinct-AreDistinct column_id t.grid.columns sound_t.is_grid.distinct))
        (true_each (λ (d : ColDef). is_name d.id) t.grid.columns names_t.1))
        (free_from after columns_id (own t)
        (true_each (λ q. ltb 0 q) (own t) (each_weaker (λ q. 0 < q) (λ q. ltb 0 q ≡ true) (λ q l. lt-ltb 0 q l) (own t) (found_all table_id (λ t. AllByRecursion (λ q. 0 < q) (own t)) t.id p t good.columns_from_one found)))
        (once_ascending (own t) ascend_t) own_absent))
        (true_each (λ (d : ColDef). is_sound_info d.info) t.grid.columns sound_t.infos)

    -- the table as it comes back, without its rows
    abbrev empty : Table
    empty = record { id = t.id; row = t.row; grid = bare t.grid }

    abbrev between : Document
    between = with_schema r u (put_by_row table_row empty left)

    comes : effect after (AddTable t.id t.row t.grid.columns) ≡ between
    comes = ap (λ cs. with_schema r u (put_by_row table_row (record { id = t.id; row = t.row; grid = record { columns = cs; rows = []; cells = [] } }) left)) (by_row_again column_row t.grid.columns ascend_t)

    filled : put_by_row table_row t left ≡ p
    filled = put_by_row-without table_row table_id t p good.distinct good.tables_ascend found

    no_cells : t.grid.rows ≡ [] → bare t.grid ≡ t.grid
    no_cells none = empty_grid t.grid.cells t.grid.rows none sound_t.is_grid.height
      where
        empty_grid : (cells : List (List CellValue)) (rows : List ℕ) → rows ≡ [] → length cells ≡ length rows
            → ◌≡◌ {A = Grid ColDef} (record { columns = t.grid.columns; rows = []; cells = [] }) (record { columns = t.grid.columns; rows = rows; cells = cells })
        empty_grid [] rows e h = ap (λ x. let g : Grid ColDef = record { columns = t.grid.columns; rows = x; cells = [] } in g) (sym e)
        empty_grid (c ∷ cells) rows e h = let none : length rows ≡ 0 = ap length e in absurd (omega arith)

    back_empty : t.grid.rows ≡ [] → LeadsBack after whole (AddTable t.id t.row t.grid.columns ∷ [])
    back_empty none = one_back whole after (AddTable t.id t.row t.grid.columns) valid_again
        (comes ∙ ap (λ g. with_schema r u (put_by_row table_row (record { id = t.id; row = t.row; grid = g }) left)) (no_cells none) ∙ ap (with_schema r u) filled)

    found_between : record_table between t.id ≡ Some empty
    found_between = record_table_plain r u (put_by_row table_row empty left) t.id plain ∙ find-put_by_row table_row table_id empty left t.id table_absent ∙ cond_true (bytes_eq t.id t.id) (Some empty) (find_id table_id t.id left) (bytes_itself t.id)

    valid_rows : valid between (BulkAdd t.id t.grid.rows (data_columns t.grid t.grid.rows)) ≡ true
    valid_rows =
        ap (λ o. passes o (λ x. has_no_duplicates t.grid.rows && from_one t.grid.rows && none_in t.grid.rows x.grid.rows && gives_data x.grid t.grid.rows (data_columns t.grid t.grid.rows))) found_between
        ∙ both_true ((has_no_duplicates t.grid.rows && from_one t.grid.rows) && none_in t.grid.rows []) (gives_data (bare t.grid) t.grid.rows (data_columns t.grid t.grid.rows))
        (both_true (has_no_duplicates t.grid.rows && from_one t.grid.rows) (none_in t.grid.rows [])
        (both_true (has_no_duplicates t.grid.rows) (from_one t.grid.rows) (once_ascending t.grid.rows sound_t.is_grid.ascending) (from_one_in t.grid.rows t.grid sound_t (all_in_itself t.grid.rows)))
        (none_there t.grid.rows))
        (gives_data_columns t.grid (bare t.grid) t.grid.rows sound_t refl (all_in_itself t.grid.rows))
      where
        none_there : (rows : List ℕ) → none_in rows [] ≡ true
        none_there [] = refl
        none_there (q ∷ rows) = none_there rows

    rows_come : effect between (BulkAdd t.id t.grid.rows (data_columns t.grid t.grid.rows)) ≡ whole
    rows_come =
        let f : Grid ColDef → Grid ColDef = add_rows column_id start_of t.grid.rows (data_columns t.grid t.grid.rows) in
        with_table-plain r u (put_by_row table_row empty left) t.id f plain (λ g. refl)
        ∙ ap (with_schema r u)
        (with_id-put_by_row table_id table_row (on_grid f) empty left refl table_absent
        ∙ ap (λ g. put_by_row table_row (record { id = t.id; row = t.row; grid = g }) left) (add_rows-bare t.grid sound_t)
        ∙ filled)

    table_back : LeadsBack after whole (table_again t)
    table_back =
        elim t.grid.rows as (λ rows. t.grid.rows ≡ rows → LeadsBack after whole (AddTable t.id t.row t.grid.columns ∷ if_any rows (BulkAdd t.id t.grid.rows (data_columns t.grid t.grid.rows)))) [
          | [] ↦ λ none. back_empty none
          | q ∷ rows ↦ λ _. two_back whole between after (AddTable t.id t.row t.grid.columns) (BulkAdd t.id t.grid.rows (data_columns t.grid t.grid.rows)) valid_again comes valid_rows rows_come
        ] refl

  pub remove_table_outcome : (table : List ℕ) → valid whole (RemoveTable table) ≡ true → Outcome whole (RemoveTable table) (inverse whole (RemoveTable table))
  remove_table_outcome table v =
      let parts : (t : Table) × ((schema_table whole table ≡ Some t) × (true ≡ true)) = passes_parts (schema_table whole table) (λ (_ : Table). true) v in
      let t : Table = parts.0 in
      let at : IsPlain table × (find_id table_id table p ≡ Some t) = schema_table_parts r u p table t parts.1.0 in
      let named : t.id ≡ table = found_id table_id table p t at.1 in
      record {
        resources = r;
        rules = u;
        plain = without_id table_id table p;
        becomes = refl;
        good = good_removed r u p good table t at.1;
        leads = subst (λ o. LeadsBack (with_schema r u (without_id table_id table p)) whole (made_of o table_again)) (sym (find_plain r u p table at.0 ∙ at.1))
            (subst (λ id. LeadsBack (with_schema r u (without_id table_id id p)) whole (table_again t)) named
            (table_back t (subst IsPlain (sym named) at.0) (ap (λ id. find_id table_id id p) named ∙ at.1)));
      }

  -- ---- a table under a new id

  pub rename_table_outcome : (table new : List ℕ) → valid whole (RenameTable table new) ≡ true → Outcome whole (RenameTable table new) (inverse whole (RenameTable table new))
  rename_table_outcome table new v =
      let parts : (t : Table) × ((schema_table whole table ≡ Some t) × (is_new_table whole new ≡ true)) = passes_parts (schema_table whole table) (λ (_ : Table). is_new_table whole new) v in
      let t : Table = parts.0 in
      let at : IsPlain table × (find_id table_id table p ≡ Some t) = schema_table_parts r u p table t parts.1.0 in
      let named : t.id ≡ table = found_id table_id table p t at.1 in
      let fresh : (not (has_id table_id whole new) ≡ true) × (is_name new ≡ true) = and_parts (not (has_id table_id whole new)) (is_name new) parts.1.1 in
      let absent : IsPlain new × (has_id table_id p new ≡ false) = absent_parts r u p new (not_true (has_id table_id whole new) fresh.0) in
      let names : (is_name t.id ≡ true) × AllByRecursion (λ d. is_name d.id ≡ true) t.grid.columns = names_parts t (found_all table_id (λ t. has_names t ≡ true) table p t good.names at.1) in
      let q : List Table = with_table table (renamed new) p in
      record {
        resources = r;
        rules = u;
        plain = q;
        becomes = refl;
        good = good_renamed r u p good table new t absent.0 absent.1 at.1
            (both_true (is_name new) (list_all (λ (d : ColDef). is_name d.id) t.grid.columns) fresh.1 (true_each (λ (d : ColDef). is_name d.id) t.grid.columns names.1));
        leads = one_back whole (with_schema r u q) (RenameTable new table)
            (ap (λ o. passes o (λ (_ : Table). is_new_table (with_schema r u q) table)) (schema_table_plain r u q new absent.0 ∙ find-new_id table_id table new (renamed new) p t (λ x. refl) at.1 absent.1)
            ∙ both_true (not (has_id table_id (with_schema r u q) table)) (is_name table)
            (ap not (has_plain r u q table at.0 ∙ has-old_id table_id table new (renamed new) p (λ x. refl) (apart_ids table_id table new p (has_found table_id table p t at.1) absent.1)))
            (ap is_name (sym named) ∙ names.0))
            (ap (with_schema r u) (with_id_back table_id table new (renamed new) (renamed table) p (λ x. refl) (λ x e. ap (λ n. let y : Table = record { id = n; row = x.row; grid = x.grid } in y) (sym e)) absent.1));
      }
