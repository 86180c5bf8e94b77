-- Actions on columns: what they leave whole, and that what undoes them does so.
use Rattle.std.proofs.Common.{ℕ, true, false, cond, not, ◌||◌, ◌&&◌, ◌+◌, List, [], ◌∷◌, map, ◌≡◌, ◌<◌, ◌≤◌, refl, sym, ap, subst, ◌∙◌, Some, option_map, eqb, arith}
use Rattle.std.proofs.lemmas.Bool.{false≢true, true≢false, and_parts, both_ways}
use Rattle.std.specs.List.{list_all, AllByRecursion}
use Rattle.std.specs.Str.{bytes_eq}
use Rattle.cell_types.specs.NameRule.{is_name}
use Rattle.cell_types.specs.declared.value.CellValue.TheVariants.{Null}
use Rattle.doc_model.specs.declared.action.DocAction.TheVariants.{BulkUpdate, AddColumn, RemoveColumn, RenameColumn, ModifyColumn}
use Rattle.doc_model.specs.declared.column.CellColumn.{CellColumn}
use Rattle.doc_model.specs.declared.column.ColDef.{ColDef}
use Rattle.doc_model.specs.declared.column.ColInfo.{ColInfo}
use Rattle.doc_model.specs.MetadataIds.{columns_id}
use Rattle.doc_model.specs.ByIds.{find_id, has_id, with_id, without_id}
use Rattle.doc_model.specs.Rows.{has, has_no_duplicates, all_in, IsAscending}
use Rattle.doc_model.specs.Grid.{Grid, cell}
use Rattle.doc_model.specs.Records.{update_rows, column_of}
use Rattle.doc_model.specs.Column.{column_id, column_row, start_of, is_sound_info}
use Rattle.cell_types.specs.Conversion.{default_value}
use Rattle.cell_types.specs.ColumnRange.{is_null}
use Rattle.doc_model.specs.Document.{Table, Document, table_id, on_grid, with_table, put_by_row}
use Rattle.doc_model.specs.Schema.{with_schema}
use Rattle.doc_model.specs.Sound.{IsSoundGrid, has_names}
use Rattle.doc_model.specs.Valid.{passes, schema_table, rows_of, from_one, are_free, is_new_column, gives_data, all_null, valid}
use Rattle.doc_model.specs.Apply.{add_column, remove_column, with_column, with_name, with_info, effect}
use Rattle.doc_model.specs.Inverse.{made_of, column_again, inverse}
use Rattle.doc_model.specs.ViewEdits.{if_any}
use Rattle.doc_model.proofs.Choices.{cond_true, not_true, parts_3, both_true, true_each, each_filter, each_mapped, each_unmapped}
use Rattle.doc_model.proofs.ByIdsLaws.{bytes_itself, found_id, found_all, found_has, has_found}
use Rattle.doc_model.proofs.RowsLaws.{number_itself, each_has, all_in_itself}
use Rattle.doc_model.proofs.ByRowLaws.{each_put, IsAscending-put_by_row, IsAscending-filtered, has_id-put_by_row, find-put_by_row, with_id_same, with_id-with_id, find-with_id, has_id-with_id, map-with_id, each_with_id, find-new_id, has-old_id, apart_ids, has_id-without_id}
use Rattle.doc_model.proofs.TimesLaws.{one_if, times, absent-times, times-once, once_ascending, times-put_by_row, times-without_id}
use Rattle.doc_model.proofs.SoundLaws.{null_held, IsSoundGrid-add_column, IsSoundGrid-remove_column}
use Rattle.doc_model.proofs.BackLaws.{remove_column-add_column, add_column-remove_column, update_rows-add_column, with_name-with_name, with_info-with_info, gives_column_of}
use Rattle.doc_model.proofs.ColumnsKept.{IsSoundGrid-with_name, IsSoundGrid-with_info, cell-with_info}
use Rattle.doc_model.proofs.WholeLaws.{IsGood, IsPlain, column_rows, names_parts}
use Rattle.doc_model.proofs.DocumentParts.{find_plain, schema_table_plain, record_table_plain, schema_table_parts, passes_parts, with_table-plain, one_back, two_back, LeadsBack, Outcome}
use Rattle.doc_model.proofs.GoodLaws.{own, times-with, times-without, good_with, good_same_rows}
use Rattle.doc_model.proofs.RecordSteps.{from_one_in}
use Rattle.doc_model.proofs.TableSteps.{not_described, undescribed, one_free, one_free_parts}

module _ (r u : Grid ColDef) (p : List Table) (good : IsGood r u p) (table : List ℕ) where
  abbrev whole : Document
  whole = with_schema r u p

  -- the document with the columns of a plain table changed
  abbrev changed : (Grid ColDef → Grid ColDef) → List Table
  changed f = with_table table (on_grid f) p

  module _ (t : Table) (plain : IsPlain table) (found : find_id table_id table p ≡ Some t) where
    sound_t : IsSoundGrid t.grid
    sound_t = found_all table_id (λ t. IsSoundGrid t.grid) table p t good.grids found

    ascend_t : IsAscending (own t)
    ascend_t = found_all table_id (λ t. IsAscending (own t)) table p t good.columns_ascend found

    positive_t : AllByRecursion (λ q. 0 < q) (own t)
    positive_t = found_all table_id (λ t. AllByRecursion (λ q. 0 < q) (own t)) table p t good.columns_from_one found

    names_t : (is_name t.id ≡ true) × AllByRecursion (λ d. is_name d.id ≡ true) t.grid.columns
    names_t = names_parts t (found_all table_id (λ t. has_names t ≡ true) table p t good.names found)

    named_of : (cs : List ColDef) → AllByRecursion (λ d. is_name d.id ≡ true) cs → (is_name t.id && list_all (λ (d : ColDef). is_name d.id) cs) ≡ true
    named_of cs n = both_true (is_name t.id) (list_all (λ (d : ColDef). is_name d.id) cs) names_t.0 (true_each (λ (d : ColDef). is_name d.id) cs n)

    -- the table after a change, and after a second one
    found_after : (f : Grid ColDef → Grid ColDef) → find_id table_id table (changed f) ≡ Some (on_grid f t)
    found_after f =
        find-with_id table_id table (on_grid f) (λ x. refl) p table
        ∙ cond_true (bytes_eq table table) (option_map (on_grid f) (find_id table_id table p)) (find_id table_id table p) (bytes_itself table)
        ∙ ap (option_map (on_grid f)) found

    schema_after : (f : Grid ColDef → Grid ColDef) → schema_table (with_schema r u (changed f)) table ≡ Some (on_grid f t)
    schema_after f = schema_table_plain r u (changed f) table plain ∙ found_after f

    back_after : (f g : Grid ColDef → Grid ColDef) → g (f t.grid) ≡ t.grid → with_table table (on_grid g) (changed f) ≡ p
    back_after f g e =
        with_id-with_id table_id table (on_grid f) (λ x. refl) (on_grid g) p
        ∙ with_id_same table_id table (λ x. on_grid g (on_grid f x)) p t good.distinct found (ap (λ g. let x : Table = record { id = t.id; row = t.row; grid = g } in x) e)

    own_few : (q : ℕ) → times q (own t) ≤ times q (column_rows p)
    own_few q = let sum : times q (column_rows (without_id table_id table p)) + times q (own t) ≡ times q (column_rows p) = times-without q table p t good.distinct found in omega arith

    times_after : (f : Grid ColDef → Grid ColDef) (q : ℕ) → times q (column_rows (changed f)) + times q (own t) ≡ times q (column_rows p) + times q (map column_row (f t.grid).columns)
    times_after f q = times-with q table (on_grid f) p t good.distinct found

    -- ---- a new column

    add_back : (d : ColDef) → (has_id column_id t.grid.columns d.id ≡ false) → is_name d.id ≡ true → 0 < d.row → has (rows_of whole columns_id) d.row ≡ false → is_sound_info d.info ≡ true
        → Outcome whole (AddColumn table d) (RemoveColumn table d.id ∷ [])
    add_back d fresh name positive free info =
        let f : Grid ColDef → Grid ColDef = add_column d in
        let none : times d.row (column_rows p) ≡ 0 = undescribed r u p d.row free in
        let few : times d.row (own t) ≤ times d.row (column_rows p) = own_few d.row in
        let not_mine : has (own t) d.row ≡ false = absent-times d.row (own t) (omega arith) in
        record {
          resources = r;
          rules = u;
          plain = changed f;
          becomes = refl;
          good = good_with r u p good table (on_grid f) t (λ x. refl) (λ x. refl) found
              (IsSoundGrid-add_column d t.grid sound_t fresh info)
              (named_of (put_by_row column_row d t.grid.columns) (each_put column_row (λ d. is_name d.id ≡ true) d t.grid.columns name names_t.1))
              (IsAscending-put_by_row column_row d t.grid.columns ascend_t not_mine)
              (each_mapped (λ q. 0 < q) column_row (put_by_row column_row d t.grid.columns) (each_put column_row (λ d. 0 < column_row d) d t.grid.columns positive (each_unmapped (λ q. 0 < q) column_row t.grid.columns positive_t)))
              (λ q. once q none);
          leads = one_back whole (with_schema r u (changed f)) (RemoveColumn table d.id)
              (ap (λ o. passes o (λ x. has_id column_id x.grid.columns d.id)) (schema_after f)
              ∙ has_id-put_by_row column_row column_id d t.grid.columns d.id ∙ ap (λ b. b || has_id column_id t.grid.columns d.id) (bytes_itself d.id))
              (ap (with_schema r u) (back_after f (remove_column d.id) (remove_column-add_column d t.grid sound_t.is_grid fresh)));
        }
      where
        once : (q : ℕ) → times d.row (column_rows p) ≡ 0 → times q (column_rows (changed (add_column d))) ≤ 1
        once q none =
            let sum : times q (column_rows (changed (add_column d))) + times q (own t) ≡ times q (column_rows p) + times q (map column_row (put_by_row column_row d t.grid.columns)) = times_after (add_column d) q in
            let put : times q (map column_row (put_by_row column_row d t.grid.columns)) ≡ one_if (eqb d.row q) + times q (own t) = times-put_by_row column_row q d t.grid.columns in
            let few : times q (column_rows p) ≤ 1 = times-once q (column_rows p) good.once in
            elim (eqb d.row q) as (λ b. eqb d.row q ≡ b → one_if (eqb d.row q) ≡ one_if b → times q (column_rows (changed (add_column d))) ≤ 1) [
              | true ↦ λ is one.
                  let gone : times q (column_rows p) ≡ 0 = ap (λ n. times n (column_rows p)) (sym (Rattle.std.proofs.lemmas.Bool.eqb-true d.row q is)) ∙ none in
                  let one' : one_if (eqb d.row q) ≡ 1 = one in
                  omega arith
              | false ↦ λ _ zero'. let none' : one_if (eqb d.row q) ≡ 0 = zero' in omega arith
            ] refl refl

    -- ---- a column gone

    module _ (d : ColDef) (is_there : find_id column_id d.id t.grid.columns ≡ Some d) where
      abbrev out : Grid ColDef → Grid ColDef
      out = remove_column d.id

      abbrev after : Document
      after = with_schema r u (changed out)

      times_out : (q : ℕ) → times q (column_rows (changed out)) + one_if (eqb d.row q) ≡ times q (column_rows p)
      times_out q =
          let sum : times q (column_rows (changed out)) + times q (own t) ≡ times q (column_rows p) + times q (map column_row (without_id column_id d.id t.grid.columns)) = times_after out q in
          let less : times q (map column_row (without_id column_id d.id t.grid.columns)) + one_if (eqb d.row q) ≡ times q (own t) = times-without_id column_row q column_id d.id t.grid.columns d sound_t.is_grid.distinct is_there in
          omega arith

      good_out : IsGood r u (changed out)
      good_out =
          good_with r u p good table (on_grid out) t (λ x. refl) (λ x. refl) found
          (IsSoundGrid-remove_column d.id t.grid sound_t)
          (named_of (without_id column_id d.id t.grid.columns) (each_filter (λ d. is_name d.id ≡ true) (λ x. not (bytes_eq (column_id x) d.id)) t.grid.columns names_t.1))
          (IsAscending-filtered column_row (λ x. not (bytes_eq (column_id x) d.id)) t.grid.columns ascend_t)
          (each_mapped (λ q. 0 < q) column_row (without_id column_id d.id t.grid.columns) (each_filter (λ d. 0 < column_row d) (λ x. not (bytes_eq (column_id x) d.id)) t.grid.columns (each_unmapped (λ q. 0 < q) column_row t.grid.columns positive_t)))
          (λ q. let sum : times q (column_rows (changed out)) + one_if (eqb d.row q) ≡ times q (column_rows p) = times_out q in
          let few : times q (column_rows p) ≤ 1 = times-once q (column_rows p) good.once in
          omega arith)

      valid_again : valid after (AddColumn table d) ≡ true
      valid_again =
          ap (λ o. passes o (λ x. is_new_column x.grid d.id && are_free after columns_id (d.row ∷ []) && is_sound_info d.info)) (schema_after out)
          ∙ both_true (is_new_column (out t.grid) d.id && are_free after columns_id (d.row ∷ [])) (is_sound_info d.info)
          (both_true (is_new_column (out t.grid) d.id) (are_free after columns_id (d.row ∷ []))
          (both_true (not (has_id column_id (without_id column_id d.id t.grid.columns) d.id)) (is_name d.id) (ap not (has_id-without_id column_id d.id t.grid.columns)) (found_all column_id (λ d. is_name d.id ≡ true) d.id t.grid.columns d names_t.1 is_there))
          (one_free after columns_id d.row (found_all column_id (λ d. 0 < column_row d) d.id t.grid.columns d (each_unmapped (λ q. 0 < q) column_row t.grid.columns positive_t) is_there)
          (let sum : times d.row (column_rows (changed out)) + one_if (eqb d.row d.row) ≡ times d.row (column_rows p) = times_out d.row in
          let one : one_if (eqb d.row d.row) ≡ 1 = ap one_if (number_itself d.row) in
          let few : times d.row (column_rows p) ≤ 1 = times-once d.row (column_rows p) good.once in
          not_described r u (changed out) d.row (omega arith))))
          (found_all column_id (λ d. is_sound_info d.info ≡ true) d.id t.grid.columns d sound_t.infos is_there)

      abbrev again : Grid ColDef → Grid ColDef
      again g = add_column d (out g)

      abbrev between : Document
      between = with_schema r u (changed again)

      comes : effect after (AddColumn table d) ≡ between
      comes = ap (with_schema r u) (with_id-with_id table_id table (on_grid out) (λ x. refl) (on_grid (add_column d)) p)

      -- a column whose cells are as new ones comes back by itself
      back_alone : ((q : ℕ) → has t.grid.rows q ≡ true → start_of d ≡ cell column_id t.grid d.id q) → LeadsBack after whole (AddColumn table d ∷ [])
      back_alone same = one_back whole after (AddColumn table d) valid_again
          (ap (with_schema r u) (back_after out (add_column d) (add_column-remove_column d t.grid sound_t ascend_t is_there same)))

      abbrev mine : List CellColumn
      mine = column_of column_id t.grid t.grid.rows d.id ∷ []

      back_filled : d.info.is_formula ≡ false → LeadsBack after whole (AddColumn table d ∷ BulkUpdate table t.grid.rows mine ∷ [])
      back_filled data' =
          two_back whole between after (AddColumn table d) (BulkUpdate table t.grid.rows mine) valid_again comes
          (ap (λ o. passes o (λ x. has_no_duplicates t.grid.rows && from_one t.grid.rows && all_in t.grid.rows x.grid.rows && gives_data x.grid t.grid.rows mine)) (record_table_plain r u (changed again) table plain ∙ found_after again)
          ∙ both_true ((has_no_duplicates t.grid.rows && from_one t.grid.rows) && all_in t.grid.rows t.grid.rows) (gives_data (again t.grid) t.grid.rows mine)
          (both_true (has_no_duplicates t.grid.rows && from_one t.grid.rows) (all_in t.grid.rows t.grid.rows)
          (both_true (has_no_duplicates t.grid.rows) (from_one t.grid.rows) (once_ascending t.grid.rows sound_t.is_grid.ascending) (from_one_in t.grid.rows t.grid sound_t (all_in_itself t.grid.rows)))
          (all_in_itself t.grid.rows))
          (gives_column_of t.grid (again t.grid) t.grid.rows d sound_t is_there
          (ap (λ o. passes o (λ (d : ColDef). not d.info.is_formula))
          (find-put_by_row column_row column_id d (without_id column_id d.id t.grid.columns) d.id (has_id-without_id column_id d.id t.grid.columns)
          ∙ cond_true (bytes_eq d.id d.id) (Some d) (find_id column_id d.id (without_id column_id d.id t.grid.columns)) (bytes_itself d.id))
          ∙ ap not data')
          (all_in_itself t.grid.rows)))
          (with_table-plain r u (changed again) table (update_rows column_id t.grid.rows mine) plain (λ g. refl)
          ∙ ap (with_schema r u) (back_after again (update_rows column_id t.grid.rows mine) (update_rows-add_column d t.grid sound_t ascend_t is_there)))

      column_back : LeadsBack after whole (column_again table t.grid d)
      column_back =
          elim d.info.is_formula as (λ b. d.info.is_formula ≡ b → LeadsBack after whole (AddColumn table d ∷ cond b [] (if_any t.grid.rows (BulkUpdate table t.grid.rows mine)))) [
            | true ↦ λ formula. back_alone (λ q here.
                cond_true d.info.is_formula Null (default_value d.info.ty) formula ∙ sym (null_held d (cell column_id t.grid d.id q) formula (sound_t.holds d q is_there here)))
            | false ↦ λ data'. elim t.grid.rows as (λ rows. t.grid.rows ≡ rows → LeadsBack after whole (AddColumn table d ∷ if_any rows (BulkUpdate table t.grid.rows mine))) [
              | [] ↦ λ none. back_alone (λ q here. absurd (false≢true (ap (λ rows. has rows q) (sym none) ∙ here)))
              | q ∷ rows ↦ λ _. back_filled data'
            ] refl
          ] refl

  pub add_column_outcome : (d : ColDef) → valid whole (AddColumn table d) ≡ true → Outcome whole (AddColumn table d) (inverse whole (AddColumn table d))
  add_column_outcome d v =
      let parts : (t : Table) × ((schema_table whole table ≡ Some t) × (((is_new_column t.grid d.id && are_free whole columns_id (d.row ∷ [])) && is_sound_info d.info) ≡ true))
      = passes_parts (schema_table whole table) (λ t. is_new_column t.grid d.id && are_free whole columns_id (d.row ∷ []) && is_sound_info d.info) v in
      let t : Table = parts.0 in
      let at : IsPlain table × (find_id table_id table p ≡ Some t) = schema_table_parts r u p table t parts.1.0 in
      let tests : (is_new_column t.grid d.id ≡ true) × (are_free whole columns_id (d.row ∷ []) ≡ true) × (is_sound_info d.info ≡ true) = parts_3 (is_new_column t.grid d.id) (are_free whole columns_id (d.row ∷ [])) (is_sound_info d.info) parts.1.1 in
      let new : (not (has_id column_id t.grid.columns d.id) ≡ true) × (is_name d.id ≡ true) = and_parts (not (has_id column_id t.grid.columns d.id)) (is_name d.id) tests.0 in
      let free : (0 < d.row) × (has (rows_of whole columns_id) d.row ≡ false) = one_free_parts whole columns_id d.row tests.1 in
      add_back t at.0 at.1 d (not_true (has_id column_id t.grid.columns d.id) new.0) new.1 free.0 free.1 tests.2

  pub remove_column_outcome : (column : List ℕ) → valid whole (RemoveColumn table column) ≡ true → Outcome whole (RemoveColumn table column) (inverse whole (RemoveColumn table column))
  remove_column_outcome column v =
      let parts : (t : Table) × ((schema_table whole table ≡ Some t) × (has_id column_id t.grid.columns column ≡ true)) = passes_parts (schema_table whole table) (λ t. has_id column_id t.grid.columns column) v in
      let t : Table = parts.0 in
      let at : IsPlain table × (find_id table_id table p ≡ Some t) = schema_table_parts r u p table t parts.1.0 in
      let one : (d : ColDef) × (find_id column_id column t.grid.columns ≡ Some d) = found_has column_id column t.grid.columns parts.1.1 in
      let d : ColDef = one.0 in
      let named : d.id ≡ column = found_id column_id column t.grid.columns d one.1 in
      let is_there : find_id column_id d.id t.grid.columns ≡ Some d = ap (λ c. find_id column_id c t.grid.columns) named ∙ one.1 in
      record {
        resources = r;
        rules = u;
        plain = changed (remove_column column);
        becomes = refl;
        good = subst (λ c. IsGood r u (changed (remove_column c))) named (good_out t at.0 at.1 d is_there);
        leads = subst (λ o. LeadsBack (with_schema r u (changed (remove_column column))) whole (made_of o (λ t. made_of (find_id column_id column t.grid.columns) (column_again table t.grid)))) (sym (find_plain r u p table at.0 ∙ at.1))
            (subst (λ o. LeadsBack (with_schema r u (changed (remove_column column))) whole (made_of o (column_again table t.grid))) (sym one.1)
            (subst (λ c. LeadsBack (with_schema r u (changed (remove_column c))) whole (column_again table t.grid d)) named (column_back t at.0 at.1 d is_there)));
      }

  -- ---- a column under a new name

  pub rename_column_outcome : (column new : List ℕ) → valid whole (RenameColumn table column new) ≡ true → Outcome whole (RenameColumn table column new) (inverse whole (RenameColumn table column new))
  rename_column_outcome column new v =
      let parts : (t : Table) × ((schema_table whole table ≡ Some t) × ((has_id column_id t.grid.columns column && is_new_column t.grid new) ≡ true)) = passes_parts (schema_table whole table) (λ t. has_id column_id t.grid.columns column && is_new_column t.grid new) v in
      let t : Table = parts.0 in
      let at : IsPlain table × (find_id table_id table p ≡ Some t) = schema_table_parts r u p table t parts.1.0 in
      let tests : (has_id column_id t.grid.columns column ≡ true) × (is_new_column t.grid new ≡ true) = and_parts (has_id column_id t.grid.columns column) (is_new_column t.grid new) parts.1.1 in
      let fresh : (not (has_id column_id t.grid.columns new) ≡ true) × (is_name new ≡ true) = and_parts (not (has_id column_id t.grid.columns new)) (is_name new) tests.1 in
      let absent : has_id column_id t.grid.columns new ≡ false = not_true (has_id column_id t.grid.columns new) fresh.0 in
      let one : (d : ColDef) × (find_id column_id column t.grid.columns ≡ Some d) = found_has column_id column t.grid.columns tests.0 in
      let d : ColDef = one.0 in
      let f : Grid ColDef → Grid ColDef = with_column column (with_name new) in
      let names : (is_name t.id ≡ true) × AllByRecursion (λ d. is_name d.id ≡ true) t.grid.columns = names_t t at.0 at.1 in
      record {
        resources = r;
        rules = u;
        plain = changed f;
        becomes = refl;
        good = good_same_rows r u p good table (on_grid f) t (λ x. refl) (λ x. refl) at.1
            (IsSoundGrid-with_name column new t.grid (sound_t t at.0 at.1) absent)
            (named_of t at.0 at.1 (with_id column_id column (with_name new) t.grid.columns) (each_with_id column_id (λ d. is_name d.id ≡ true) column (with_name new) t.grid.columns (λ x _ _. fresh.1) names.1))
            (map-with_id column_id column_row column (with_name new) t.grid.columns (λ x. refl));
        leads = one_back whole (with_schema r u (changed f)) (RenameColumn table new column)
            (ap (λ o. passes o (λ x. has_id column_id x.grid.columns new && is_new_column x.grid column)) (schema_after t at.0 at.1 f)
            ∙ both_true (has_id column_id (f t.grid).columns new) (is_new_column (f t.grid) column)
            (has_found column_id new (f t.grid).columns (with_name new d) (find-new_id column_id column new (with_name new) t.grid.columns d (λ x. refl) one.1 absent))
            (both_true (not (has_id column_id (f t.grid).columns column)) (is_name column)
            (ap not (has-old_id column_id column new (with_name new) t.grid.columns (λ x. refl) (apart_ids column_id column new t.grid.columns tests.0 absent)))
            (ap is_name (sym (found_id column_id column t.grid.columns d one.1)) ∙ found_all column_id (λ d. is_name d.id ≡ true) column t.grid.columns d names.1 one.1)))
            (ap (with_schema r u) (back_after t at.0 at.1 f (with_column new (with_name column)) (with_name-with_name column new t.grid absent)));
      }

  -- ---- a column of another info

  pub modify_column_outcome : (column : List ℕ) (info : ColInfo) → valid whole (ModifyColumn table column info) ≡ true → Outcome whole (ModifyColumn table column info) (inverse whole (ModifyColumn table column info))
  modify_column_outcome column info v =
      let parts : (t : Table) × ((schema_table whole table ≡ Some t) × (((has_id column_id t.grid.columns column && is_sound_info info) && (not info.is_formula || all_null t.grid column)) ≡ true))
      = passes_parts (schema_table whole table) (λ t. has_id column_id t.grid.columns column && is_sound_info info && (not info.is_formula || all_null t.grid column)) v in
      let t : Table = parts.0 in
      let at : IsPlain table × (find_id table_id table p ≡ Some t) = schema_table_parts r u p table t parts.1.0 in
      let tests : (has_id column_id t.grid.columns column ≡ true) × (is_sound_info info ≡ true) × ((not info.is_formula || all_null t.grid column) ≡ true)
      = parts_3 (has_id column_id t.grid.columns column) (is_sound_info info) (not info.is_formula || all_null t.grid column) parts.1.1 in
      let one : (d : ColDef) × (find_id column_id column t.grid.columns ≡ Some d) = found_has column_id column t.grid.columns tests.0 in
      let d : ColDef = one.0 in
      let named : d.id ≡ column = found_id column_id column t.grid.columns d one.1 in
      let f : Grid ColDef → Grid ColDef = with_column column (with_info info) in
      let s : IsSoundGrid t.grid = sound_t t at.0 at.1 in
      let names : (is_name t.id ≡ true) × AllByRecursion (λ d. is_name d.id ≡ true) t.grid.columns = names_t t at.0 at.1 in
      let null : (not d.info.is_formula || all_null (f t.grid) column) ≡ true
      = elim d.info.is_formula as (λ b. d.info.is_formula ≡ b → (not b || all_null (f t.grid) column) ≡ true) [
        | true ↦ λ formula. true_each (λ q. is_null (cell column_id (f t.grid) column q)) t.grid.rows (each_has (λ q. is_null (cell column_id (f t.grid) column q) ≡ true) t.grid.rows (λ q here.
            ap is_null (cell-with_info column info t.grid column q ∙ ap (λ n. cell column_id t.grid n q) (sym named)
            ∙ null_held d (cell column_id t.grid d.id q) formula (s.holds d q (ap (λ c. find_id column_id c t.grid.columns) named ∙ one.1) here))))
        | false ↦ λ _. refl
      ] refl in
      record {
        resources = r;
        rules = u;
        plain = changed f;
        becomes = refl;
        good = good_same_rows r u p good table (on_grid f) t (λ x. refl) (λ x. refl) at.1
            (IsSoundGrid-with_info column info t.grid s tests.1 tests.2)
            (named_of t at.0 at.1 (with_id column_id column (with_info info) t.grid.columns) (each_with_id column_id (λ d. is_name d.id ≡ true) column (with_info info) t.grid.columns (λ x _ n. n) names.1))
            (map-with_id column_id column_row column (with_info info) t.grid.columns (λ x. refl));
        leads = subst (λ o. LeadsBack (with_schema r u (changed f)) whole (made_of o (λ t. made_of (find_id column_id column t.grid.columns) (λ d. ModifyColumn table column d.info ∷ [])))) (sym (find_plain r u p table at.0 ∙ at.1))
            (subst (λ o. LeadsBack (with_schema r u (changed f)) whole (made_of o (λ d. ModifyColumn table column d.info ∷ []))) (sym one.1)
            (one_back whole (with_schema r u (changed f)) (ModifyColumn table column d.info)
            (ap (λ o. passes o (λ x. has_id column_id x.grid.columns column && is_sound_info d.info && (not d.info.is_formula || all_null x.grid column))) (schema_after t at.0 at.1 f)
            ∙ both_true (has_id column_id (f t.grid).columns column && is_sound_info d.info) (not d.info.is_formula || all_null (f t.grid) column)
            (both_true (has_id column_id (f t.grid).columns column) (is_sound_info d.info)
            (has_id-with_id column_id column (with_info info) (λ x. refl) t.grid.columns column ∙ tests.0)
            (found_all column_id (λ d. is_sound_info d.info ≡ true) column t.grid.columns d s.infos one.1))
            null)
            (ap (with_schema r u) (back_after t at.0 at.1 f (with_column column (with_info d.info)) (with_info-with_info column info d t.grid s.is_grid.distinct one.1)))));
      }
