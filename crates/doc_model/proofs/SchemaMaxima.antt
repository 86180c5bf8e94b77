-- The most of each table after schema actions, and after all actions.
use Rattle.std.proofs.Common.{ℕ, Bool, true, false, cond, not, ◌||◌, ◌&&◌, ◌+◌, ◌-◌, List, [], ◌∷◌, ◌++◌, map, ◌≡◌, length, refl, sym, ap, subst, ◌∙◌, Some, None, arith}
use Rattle.std.specs.List.{AllByRecursion}
use Rattle.std.specs.Str.{bytes_eq}
use Rattle.doc_model.specs.declared.action.DocAction.{DocAction}
use Rattle.doc_model.specs.declared.action.DocAction.TheVariants.{BulkAdd, BulkUpdate, BulkRemove, AddTable, RemoveTable, RenameTable, AddColumn, RemoveColumn, RenameColumn, ModifyColumn}
use Rattle.doc_model.specs.declared.column.ColDef.{ColDef}
use Rattle.doc_model.specs.declared.column.ColInfo.{ColInfo}
use Rattle.doc_model.specs.MetadataIds.{tables_id, columns_id, resources_id, rules_id, is_metadata_id}
use Rattle.doc_model.specs.ByIds.{find_id, has_id, without_id}
use Rattle.doc_model.specs.Rows.{without, has_no_duplicates, all_in, IsAscending}
use Rattle.doc_model.specs.Grid.{Grid}
use Rattle.doc_model.specs.Column.{column_id, column_row, is_sound_info}
use Rattle.doc_model.specs.Document.{Table, Document, table_id, table_row, on_grid, renamed, with_table, put_by_row, by_row}
use Rattle.doc_model.specs.Schema.{described_row, all_columns, in_order, tables_grid, columns_grid, tables_columns, columns_columns, metadata_table, with_schema, plain_tables, resources, rules}
use Rattle.doc_model.specs.Valid.{schema_table, are_free, is_new_table, is_new_column, all_null, valid}
use Rattle.doc_model.specs.Counts.{greatest, counts}
use Rattle.doc_model.specs.Apply.{new_table, add_column, remove_column, with_column, with_name, with_info, effect, apply}
use Rattle.doc_model.specs.DocumentLaws.{IsWhole}
use Rattle.doc_model.specs.MaximaLaws.{Maxima, maxima, rows_told, row_of_column, at_schema, rows_in, rows_out, columns_then, maxima_then, staying, new_maxima, maxima_after, AreGreatest}
use Rattle.doc_model.proofs.Choices.{each_weaker, each_filter, length_map, map_each, map-map}
use Rattle.doc_model.proofs.ByIdsLaws.{bytes_itself, found_all, found_has}
use Rattle.doc_model.proofs.ByRowLaws.{map-with_id}
use Rattle.doc_model.proofs.TimesLaws.{once_ascending}
use Rattle.doc_model.proofs.TotalsLaws.{sum_of, length-total, total-with_id, total-without_id, total-put_by_row}
use Rattle.doc_model.proofs.SchemaLaws.{IsAscending-in_order}
use Rattle.doc_model.proofs.WholeLaws.{IsGood, IsPlain, column_rows, good_from, whole_from, plain_from, tables_columns_apart, tables_resources_apart, tables_rules_apart, columns_resources_apart, columns_rules_apart}
use Rattle.doc_model.proofs.DocumentParts.{find_plain, schema_table_parts, passes_parts, applied, Outcome}
use Rattle.doc_model.proofs.InverseLaws.{outcome}
use Rattle.doc_model.proofs.MaximaSums.{SameTotals, total-append, total-map, same-map, greatest-same, maxima-same, without-none, rows-moved, all_in-moved, over_columns, total-described}
use Rattle.doc_model.proofs.CountSteps.{length-without}
use Rattle.doc_model.proofs.MaximaSteps.{LeavesRows, maxima_of, found_alone, none_left, still_rows, add_maxima, update_maxima, remove_maxima, removed_rows}

-- ---- what a schema action does to each table

-- at a metadata table of the access rules, and at a plain table, nothing comes and nothing goes
at_plain : (id xs ys : List ℕ) → bytes_eq tables_id id ≡ false → bytes_eq columns_id id ≡ false → at_schema id xs ys ≡ []
at_plain id xs ys t c = ap (λ b. cond b xs (cond (bytes_eq columns_id id) ys [])) t ∙ ap (λ b. cond b ys []) c

at_tables : (xs ys : List ℕ) → at_schema tables_id xs ys ≡ xs
at_tables xs ys = ap (λ b. cond b xs (cond (bytes_eq columns_id tables_id) ys [])) (bytes_itself tables_id)

at_columns : (xs ys : List ℕ) → at_schema columns_id xs ys ≡ ys
at_columns xs ys = ap (λ b. cond b xs (cond (bytes_eq columns_id columns_id) ys [])) tables_columns_apart ∙ ap (λ b. cond b ys []) (bytes_itself columns_id)

zero_first : (m n : ℕ) → m ≡ n → m ≡ 0 + n
zero_first m n e = omega arith

module _ (r u : Grid ColDef) (p : List Table) where
  abbrev whole : Document
  whole = with_schema r u p

  -- the metadata tables, and then others
  abbrev under : List Table → List Table
  under rest =
      metadata_table tables_id (tables_grid p) ∷ metadata_table columns_id (columns_grid p)
      ∷ metadata_table resources_id r ∷ metadata_table rules_id u ∷ rest

  -- what comes and goes by a schema action that leads to these plain tables
  record SchemaStep (a : DocAction) (q : List Table) : Type 0 where
    tables_come : List ℕ
    tables_go : List ℕ
    columns_come : List ℕ
    columns_go : List ℕ
    comes : (id : List ℕ) → rows_in a id ≡ at_schema id tables_come columns_come
    goes : (id : List ℕ) → rows_out whole a id ≡ at_schema id tables_go columns_go
    tables_once : has_no_duplicates tables_go ≡ true
    columns_once : has_no_duplicates columns_go ≡ true
    tables_there : all_in tables_go (map table_row p) ≡ true
    columns_there : all_in columns_go (map described_row (in_order (all_columns p))) ≡ true
    tables_move : (h : ℕ → ℕ) → sum_of h (map table_row q) + sum_of h tables_go ≡ sum_of h (map table_row p) + sum_of h tables_come
    columns_move : (h : ℕ → ℕ) → sum_of (over_columns h) q + sum_of h columns_go ≡ sum_of (over_columns h) p + sum_of h columns_come
    tables_wide : columns_then a (metadata_table tables_id (tables_grid p)) ≡ length tables_columns
    columns_wide : columns_then a (metadata_table columns_id (columns_grid p)) ≡ length columns_columns
    resources_wide : columns_then a (metadata_table resources_id r) ≡ length r.columns
    rules_wide : columns_then a (metadata_table rules_id u) ≡ length u.columns
    stay : staying a whole ≡ under (staying a p)
    stay_plain : AllByRecursion (λ t. IsPlain t.id) (staying a p)
    plain_move : (h : Maxima → ℕ) → sum_of h (map maxima_of q) ≡ sum_of h (new_maxima a) + sum_of h (map (λ (t : Table). maxima (columns_then a t) t.grid.rows) (staying a p))

  module _ (good : IsGood r u p) (a : DocAction) (q : List Table) (once : has_no_duplicates (column_rows q) ≡ true) (step : SchemaStep a q) where
    -- a table where nothing comes and nothing goes
    still : (t : Table) → bytes_eq tables_id t.id ≡ false → bytes_eq columns_id t.id ≡ false → maxima_then whole a t ≡ maxima (columns_then a t) t.grid.rows
    still t nt nc =
        ap (λ ins. maxima (columns_then a t) (ins ++ without (rows_out whole a t.id) t.grid.rows)) (step.comes t.id ∙ at_plain t.id step.tables_come step.columns_come nt nc)
        ∙ ap (λ outs. maxima (columns_then a t) (without outs t.grid.rows)) (step.goes t.id ∙ at_plain t.id step.tables_go step.columns_go nt nc)
        ∙ ap (maxima (columns_then a t)) (without-none t.grid.rows)

    tables_maxima : maxima_then whole a (metadata_table tables_id (tables_grid p)) ≡ maxima (length tables_columns) (map table_row q)
    tables_maxima =
        ap (λ ins. maxima (columns_then a (metadata_table tables_id (tables_grid p))) (ins ++ without (rows_out whole a tables_id) (map table_row p))) (step.comes tables_id ∙ at_tables step.tables_come step.columns_come)
        ∙ ap (λ outs. maxima (columns_then a (metadata_table tables_id (tables_grid p))) (step.tables_come ++ without outs (map table_row p))) (step.goes tables_id ∙ at_tables step.tables_go step.columns_go)
        ∙ sym (maxima-same (length tables_columns) (columns_then a (metadata_table tables_id (tables_grid p))) (map table_row q) (step.tables_come ++ without step.tables_go (map table_row p)) (sym step.tables_wide)
        (rows-moved (map table_row p) (map table_row q) step.tables_come step.tables_go good.tables_ascend step.tables_once step.tables_there step.tables_move))

    columns_maxima : maxima_then whole a (metadata_table columns_id (columns_grid p)) ≡ maxima (length columns_columns) (map described_row (in_order (all_columns q)))
    columns_maxima =
        let old : List ℕ = map described_row (in_order (all_columns p)) in
        ap (λ ins. maxima (columns_then a (metadata_table columns_id (columns_grid p))) (ins ++ without (rows_out whole a columns_id) old)) (step.comes columns_id ∙ at_columns step.tables_come step.columns_come)
        ∙ ap (λ outs. maxima (columns_then a (metadata_table columns_id (columns_grid p))) (step.columns_come ++ without outs old)) (step.goes columns_id ∙ at_columns step.tables_go step.columns_go)
        ∙ sym (maxima-same (length columns_columns) (columns_then a (metadata_table columns_id (columns_grid p))) (map described_row (in_order (all_columns q))) (step.columns_come ++ without step.columns_go old) (sym step.columns_wide)
        (rows-moved old (map described_row (in_order (all_columns q))) step.columns_come step.columns_go (IsAscending-in_order (all_columns p)) step.columns_once step.columns_there moves))
      where
        moves : (h : ℕ → ℕ) → sum_of h (map described_row (in_order (all_columns q))) + sum_of h step.columns_go ≡ sum_of h (map described_row (in_order (all_columns p))) + sum_of h step.columns_come
        moves h =
            let new : sum_of h (map described_row (in_order (all_columns q))) ≡ sum_of (over_columns h) q = total-described h q once in
            let old : sum_of h (map described_row (in_order (all_columns p))) ≡ sum_of (over_columns h) p = total-described h p good.once in
            let move : sum_of (over_columns h) q + sum_of h step.columns_go ≡ sum_of (over_columns h) p + sum_of h step.columns_come = step.columns_move h in
            omega arith

    plain_then : map (maxima_then whole a) (staying a p) ≡ map (λ (t : Table). maxima (columns_then a t) t.grid.rows) (staying a p)
    plain_then =
        map_each (maxima_then whole a) (λ (t : Table). maxima (columns_then a t) t.grid.rows) (staying a p)
        (each_weaker (λ t. IsPlain t.id) (λ t. maxima_then whole a t ≡ maxima (columns_then a t) t.grid.rows) (λ t plain. still t plain.tables plain.columns) (staying a p) step.stay_plain)

    stepped : SameTotals (map maxima_of (with_schema r u q)) (maxima_after whole a)
    stepped h =
        let all : sum_of h (maxima_after whole a) ≡ sum_of h (new_maxima a) + sum_of h (map (maxima_then whole a) (staying a whole)) = total-append h (new_maxima a) (map (maxima_then whole a) (staying a whole)) in
        let here : sum_of h (map (maxima_then whole a) (staying a whole)) ≡ sum_of h (map (maxima_then whole a) (under (staying a p))) = ap (λ ts. sum_of h (map (maxima_then whole a) ts)) step.stay in
        let tables : h (maxima_then whole a (metadata_table tables_id (tables_grid p))) ≡ h (maxima (length tables_columns) (map table_row q)) = ap h tables_maxima in
        let columns : h (maxima_then whole a (metadata_table columns_id (columns_grid p))) ≡ h (maxima (length columns_columns) (map described_row (in_order (all_columns q)))) = ap h columns_maxima in
        let res : h (maxima_then whole a (metadata_table resources_id r)) ≡ h (maxima (length r.columns) r.rows)
        = ap h (still (metadata_table resources_id r) tables_resources_apart columns_resources_apart ∙ ap (λ n. maxima n r.rows) step.resources_wide) in
        let rul : h (maxima_then whole a (metadata_table rules_id u)) ≡ h (maxima (length u.columns) u.rows)
        = ap h (still (metadata_table rules_id u) tables_rules_apart columns_rules_apart ∙ ap (λ n. maxima n u.rows) step.rules_wide) in
        let others : sum_of h (map (maxima_then whole a) (staying a p)) ≡ sum_of h (map (λ (t : Table). maxima (columns_then a t) t.grid.rows) (staying a p)) = ap (sum_of h) plain_then in
        let move : sum_of h (map maxima_of q) ≡ sum_of h (new_maxima a) + sum_of h (map (λ (t : Table). maxima (columns_then a t) t.grid.rows) (staying a p)) = step.plain_move h in
        omega arith

    -- the rows that are left
    leaves : (t : Table) (out : List ℕ) → rows_out whole a t.id ≡ out → length (without out t.grid.rows) + length out ≡ length t.grid.rows → length (without (rows_out whole a t.id) t.grid.rows) + length (rows_out whole a t.id) ≡ length t.grid.rows
    leaves t out e left = ap (λ o. length (without o t.grid.rows) + length o) e ∙ left

    leaves_all : (t : Table) → bytes_eq tables_id t.id ≡ false → bytes_eq columns_id t.id ≡ false → length (without (rows_out whole a t.id) t.grid.rows) + length (rows_out whole a t.id) ≡ length t.grid.rows
    leaves_all t nt nc = leaves t [] (step.goes t.id ∙ at_plain t.id step.tables_go step.columns_go nt nc) (none_left t.grid.rows)

    left : LeavesRows whole a
    left =
        let tables : length (without (rows_out whole a tables_id) (map table_row p)) + length (rows_out whole a tables_id) ≡ length (map table_row p)
        = leaves (metadata_table tables_id (tables_grid p)) step.tables_go (step.goes tables_id ∙ at_tables step.tables_go step.columns_go) (length-without step.tables_go (map table_row p) good.tables_ascend step.tables_once step.tables_there) in
        let described : List ℕ = map described_row (in_order (all_columns p)) in
        let columns : length (without (rows_out whole a columns_id) described) + length (rows_out whole a columns_id) ≡ length described
        = leaves (metadata_table columns_id (columns_grid p)) step.columns_go (step.goes columns_id ∙ at_columns step.tables_go step.columns_go) (length-without step.columns_go described (IsAscending-in_order (all_columns p)) step.columns_once step.columns_there) in (
          tables,
          (
            columns,
            (
              leaves_all (metadata_table resources_id r) tables_resources_apart columns_resources_apart,
              (
                leaves_all (metadata_table rules_id u) tables_rules_apart columns_rules_apart,
                each_weaker (λ t. is_metadata_id t.id ≡ false) (λ t. length (without (rows_out whole a t.id) t.grid.rows) + length (rows_out whole a t.id) ≡ length t.grid.rows)
                    (λ t e. let plain : IsPlain t.id = plain_from t.id e in leaves_all t plain.tables plain.columns) p good.plain,
              ),
            ),
          ),
        )

  module _ (good : IsGood r u p) where
    -- the rows of the columns of the plain tables after an action stand once
    once_after : (a : DocAction) (q : List Table) → valid whole a ≡ true → effect whole a ≡ with_schema r u q → has_no_duplicates (column_rows q) ≡ true
    once_after a q v e =
        let o : Outcome whole a (Rattle.doc_model.specs.Inverse.inverse whole a) = outcome whole a (whole_from r u p good) v in
        subst (λ ts. has_no_duplicates (column_rows ts) ≡ true) (ap plain_tables (sym o.becomes ∙ e)) o.good.once

    stepped_by : (a : DocAction) (q : List Table) → valid whole a ≡ true → effect whole a ≡ with_schema r u q → SchemaStep a q → SameTotals (map maxima_of (with_schema r u q)) (maxima_after whole a) × LeavesRows whole a
    stepped_by a q v e step = (stepped good a q (once_after a q v e) step, left good a q (once_after a q v e) step)

    plains : AllByRecursion (λ t. IsPlain t.id) p
    plains = each_weaker (λ t. is_metadata_id t.id ≡ false) (λ t. IsPlain t.id) (λ t e. plain_from t.id e) p good.plain

    nothing_at : (id : List ℕ) → ◌≡◌ {A = List ℕ} [] (at_schema id [] [])
    nothing_at id =
        elim (bytes_eq tables_id id) as (λ b. ◌≡◌ {A = List ℕ} [] (cond b [] (cond (bytes_eq columns_id id) [] []))) [
          | true ↦ refl
          | false ↦ elim (bytes_eq columns_id id) as (λ b. ◌≡◌ {A = List ℕ} [] (cond b [] [])) [ true ↦ refl | false ↦ refl ]
        ]

    module _ (table : List ℕ) where
      told : (t : Table) (f : Table → List ℕ) → IsPlain table → find_id table_id table p ≡ Some t → rows_told whole table f ≡ f t
      told t f plain found = ap (λ o. elim o as (λ _. List ℕ) [ None ↦ [] | Some t ↦ f t ]) (find_plain r u p table plain ∙ found)

      add_table_step : (row : ℕ) (columns : List ColDef) → SchemaStep (AddTable table row columns) (put_by_row table_row (new_table table row columns) p)
      add_table_step row columns = record {
        tables_come = row ∷ [];
        tables_go = [];
        columns_come = map column_row columns;
        columns_go = [];
        comes = λ id. refl;
        goes = nothing_at;
        tables_once = refl;
        columns_once = refl;
        tables_there = refl;
        columns_there = refl;
        tables_move = λ h.
            let put : sum_of (λ (x : Table). h x.row) (put_by_row table_row (new_table table row columns) p) ≡ h row + sum_of (λ (x : Table). h x.row) p = total-put_by_row table_id (λ (x : Table). h x.row) table_row (new_table table row columns) p in
            let a : sum_of h (map table_row (put_by_row table_row (new_table table row columns) p)) ≡ sum_of (λ (x : Table). h x.row) (put_by_row table_row (new_table table row columns) p) = total-map h table_row (put_by_row table_row (new_table table row columns) p) in
            let b : sum_of h (map table_row p) ≡ sum_of (λ (x : Table). h x.row) p = total-map h table_row p in
            omega arith;
        columns_move = λ h.
            let put : sum_of (over_columns h) (put_by_row table_row (new_table table row columns) p) ≡ over_columns h (new_table table row columns) + sum_of (over_columns h) p = total-put_by_row table_id (over_columns h) table_row (new_table table row columns) p in
            let same : over_columns h (new_table table row columns) ≡ sum_of h (map column_row columns) = total-map h column_row (by_row column_row columns) ∙ sorted (λ (d : ColDef). h d.row) columns ∙ sym (total-map h column_row columns) in
            omega arith;
        tables_wide = refl;
        columns_wide = refl;
        resources_wide = refl;
        rules_wide = refl;
        stay = refl;
        stay_plain = plains;
        plain_move = λ h.
            let put : sum_of (λ (x : Table). h (maxima_of x)) (put_by_row table_row (new_table table row columns) p) ≡ h (maxima_of (new_table table row columns)) + sum_of (λ (x : Table). h (maxima_of x)) p
            = total-put_by_row table_id (λ (x : Table). h (maxima_of x)) table_row (new_table table row columns) p in
            let a : sum_of h (map maxima_of (put_by_row table_row (new_table table row columns) p)) ≡ sum_of (λ (x : Table). h (maxima_of x)) (put_by_row table_row (new_table table row columns) p) = total-map h maxima_of (put_by_row table_row (new_table table row columns) p) in
            let b : sum_of h (map maxima_of p) ≡ sum_of (λ (x : Table). h (maxima_of x)) p = total-map h maxima_of p in
            let same : h (maxima_of (new_table table row columns)) ≡ h (maxima (length columns) []) = ap (λ n. h (maxima n [])) (sym (length-total (by_row column_row columns)) ∙ sorted (λ (d : ColDef). 1) columns ∙ length-total columns) in
            omega arith;
      }
        where
          sorted : (m : ColDef → ℕ) (cs : List ColDef) → sum_of m (by_row column_row cs) ≡ sum_of m cs
          sorted m [] = refl
          sorted m (d ∷ cs) = total-put_by_row column_id m column_row d (by_row column_row cs) ∙ ap (λ n. m d + n) (sorted m cs)

      module _ (t : Table) (plain : IsPlain table) (found : find_id table_id table p ≡ Some t) where
        go_tables : (h : ℕ → ℕ) → sum_of h (map table_row (without_id table_id table p)) + sum_of h (t.row ∷ []) ≡ sum_of h (map table_row p)
        go_tables h =
            let out : sum_of (λ (x : Table). h x.row) (without_id table_id table p) + h t.row ≡ sum_of (λ (x : Table). h x.row) p = total-without_id table_id (λ (x : Table). h x.row) table p t good.distinct found in
            let a : sum_of h (map table_row (without_id table_id table p)) ≡ sum_of (λ (x : Table). h x.row) (without_id table_id table p) = total-map h table_row (without_id table_id table p) in
            let b : sum_of h (map table_row p) ≡ sum_of (λ (x : Table). h x.row) p = total-map h table_row p in
            omega arith

        go_columns : (h : ℕ → ℕ) → sum_of (over_columns h) (without_id table_id table p) + sum_of h (map column_row t.grid.columns) ≡ sum_of (over_columns h) p
        go_columns h = total-without_id table_id (over_columns h) table p t good.distinct found

        remove_table_step : valid whole (RemoveTable table) ≡ true → SchemaStep (RemoveTable table) (without_id table_id table p)
        remove_table_step v =
            let once_q : has_no_duplicates (column_rows (without_id table_id table p)) ≡ true = once_after (RemoveTable table) (without_id table_id table p) v refl in
            record {
              tables_come = [];
              tables_go = t.row ∷ [];
              columns_come = [];
              columns_go = map column_row t.grid.columns;
              comes = nothing_at;
              goes = λ id.
                  ap (λ rows. at_schema id rows (rows_told whole table (λ t. map column_row t.grid.columns))) (told t (λ t. t.row ∷ []) plain found)
                  ∙ ap (at_schema id (t.row ∷ [])) (told t (λ t. map column_row t.grid.columns) plain found);
              tables_once = refl;
              columns_once = once_ascending (map column_row t.grid.columns) (found_all table_id (λ t. IsAscending (map column_row t.grid.columns)) table p t good.columns_ascend found);
              tables_there = all_in-moved (map table_row p) (map table_row (without_id table_id table p)) (t.row ∷ []) go_tables;
              columns_there = all_in-moved (map described_row (in_order (all_columns p))) (map described_row (in_order (all_columns (without_id table_id table p)))) (map column_row t.grid.columns) (λ h.
                  let new : sum_of h (map described_row (in_order (all_columns (without_id table_id table p)))) ≡ sum_of (over_columns h) (without_id table_id table p) = total-described h (without_id table_id table p) once_q in
                  let old : sum_of h (map described_row (in_order (all_columns p))) ≡ sum_of (over_columns h) p = total-described h p good.once in
                  let move : sum_of (over_columns h) (without_id table_id table p) + sum_of h (map column_row t.grid.columns) ≡ sum_of (over_columns h) p = go_columns h in
                  omega arith);
              tables_move = λ h. let move : sum_of h (map table_row (without_id table_id table p)) + sum_of h (t.row ∷ []) ≡ sum_of h (map table_row p) = go_tables h in omega arith;
              columns_move = λ h. let move : sum_of (over_columns h) (without_id table_id table p) + sum_of h (map column_row t.grid.columns) ≡ sum_of (over_columns h) p = go_columns h in omega arith;
              tables_wide = refl;
              columns_wide = refl;
              resources_wide = refl;
              rules_wide = refl;
              stay =
                  ap (λ b. cond (not b) (metadata_table tables_id (tables_grid p) ∷ without_id table_id table (metadata_table columns_id (columns_grid p) ∷ metadata_table resources_id r ∷ metadata_table rules_id u ∷ p)) (without_id table_id table (metadata_table columns_id (columns_grid p) ∷ metadata_table resources_id r ∷ metadata_table rules_id u ∷ p))) plain.tables
                  ∙ ap (λ b. metadata_table tables_id (tables_grid p) ∷ cond (not b) (metadata_table columns_id (columns_grid p) ∷ without_id table_id table (metadata_table resources_id r ∷ metadata_table rules_id u ∷ p)) (without_id table_id table (metadata_table resources_id r ∷ metadata_table rules_id u ∷ p))) plain.columns
                  ∙ ap (λ b. metadata_table tables_id (tables_grid p) ∷ metadata_table columns_id (columns_grid p) ∷ cond (not b) (metadata_table resources_id r ∷ without_id table_id table (metadata_table rules_id u ∷ p)) (without_id table_id table (metadata_table rules_id u ∷ p))) plain.resources
                  ∙ ap (λ b. metadata_table tables_id (tables_grid p) ∷ metadata_table columns_id (columns_grid p) ∷ metadata_table resources_id r ∷ cond (not b) (metadata_table rules_id u ∷ without_id table_id table p) (without_id table_id table p)) plain.rules;
              stay_plain = each_filter (λ t. IsPlain t.id) (λ (x : Table). not (bytes_eq (table_id x) table)) p plains;
              plain_move = λ h. zero_first (sum_of h (map maxima_of (without_id table_id table p))) (sum_of h (map maxima_of (without_id table_id table p))) refl;
            }

        -- a change of the table that brings or takes no column
        same_step : (a : DocAction) (f : Table → Table)
            → ((id : List ℕ) → rows_in a id ≡ []) → ((id : List ℕ) → rows_out whole a id ≡ []) → ((x : Table) → columns_then a x ≡ length x.grid.columns)
            → staying a whole ≡ under p → staying a p ≡ p → new_maxima a ≡ []
            → ((x : Table) → (f x).row ≡ x.row) → ((h : ℕ → ℕ) (x : Table) → over_columns h (f x) ≡ over_columns h x) → ((x : Table) → maxima_of (f x) ≡ maxima_of x)
            → SchemaStep a (with_table table f p)
        same_step a f none_in none_out wide stays stays_p new row columns most = record {
          tables_come = [];
          tables_go = [];
          columns_come = [];
          columns_go = [];
          comes = λ id. none_in id ∙ nothing_at id;
          goes = λ id. none_out id ∙ nothing_at id;
          tables_once = refl;
          columns_once = refl;
          tables_there = refl;
          columns_there = refl;
          tables_move = λ h. ap (λ rows. sum_of h rows + 0) (map-with_id table_id table_row table f p row);
          columns_move = λ h. ap (λ ns. Rattle.doc_model.specs.Counts.total ns + 0) (map-with_id table_id (over_columns h) table f p (columns h));
          tables_wide = wide (metadata_table tables_id (tables_grid p));
          columns_wide = wide (metadata_table columns_id (columns_grid p));
          resources_wide = wide (metadata_table resources_id r);
          rules_wide = wide (metadata_table rules_id u);
          stay = stays ∙ ap under (sym stays_p);
          stay_plain = subst (AllByRecursion (λ t. IsPlain t.id)) (sym stays_p) plains;
          plain_move = λ h.
              zero_first (sum_of h (map maxima_of (with_table table f p))) (sum_of h (map (λ (t : Table). maxima (columns_then a t) t.grid.rows) (staying a p))) (ap (sum_of h) (map-with_id table_id maxima_of table f p most ∙ map_each maxima_of (λ (t : Table). maxima (columns_then a t) t.grid.rows) p (every p)
              ∙ ap (map (λ (t : Table). maxima (columns_then a t) t.grid.rows)) (sym stays_p)))
              ∙ ap (λ ps. sum_of h ps + sum_of h (map (λ (t : Table). maxima (columns_then a t) t.grid.rows) (staying a p))) (sym new);
        }
          where
            every : (xs : List Table) → AllByRecursion (λ x. maxima_of x ≡ maxima (columns_then a x) x.grid.rows) xs
            every [] = tt
            every (x ∷ xs) = (ap (λ n. maxima n x.grid.rows) (sym (wide x)), every xs)

        rename_table_step : (new : List ℕ) → SchemaStep (RenameTable table new) (with_table table (renamed new) p)
        rename_table_step new = same_step (RenameTable table new) (renamed new) (λ id. refl) (λ id. refl) (λ x. refl) refl refl refl (λ x. refl) (λ h x. refl) (λ x. refl)

        rename_column_step : (column new : List ℕ) → SchemaStep (RenameColumn table column new) (with_table table (on_grid (with_column column (with_name new))) p)
        rename_column_step column new =
            same_step (RenameColumn table column new) (on_grid (with_column column (with_name new))) (λ id. refl) (λ id. refl) (λ x. refl) refl refl refl (λ x. refl)
            (λ h x. ap (sum_of h) (map-with_id column_id column_row column (with_name new) x.grid.columns (λ d. refl)))
            (λ x. ap (λ n. maxima n x.grid.rows) (length_map (λ d. cond (bytes_eq (column_id d) column) (with_name new d) d) x.grid.columns))

        modify_column_step : (column : List ℕ) (info : ColInfo) → SchemaStep (ModifyColumn table column info) (with_table table (on_grid (with_column column (with_info info))) p)
        modify_column_step column info =
            same_step (ModifyColumn table column info) (on_grid (with_column column (with_info info))) (λ id. refl) (λ id. refl) (λ x. refl) refl refl refl (λ x. refl)
            (λ h x. ap (sum_of h) (map-with_id column_id column_row column (with_info info) x.grid.columns (λ d. refl)))
            (λ x. ap (λ n. maxima n x.grid.rows) (length_map (λ d. cond (bytes_eq (column_id d) column) (with_info info d) d) x.grid.columns))

        -- one column more or less of this table
        more : (id : List ℕ) (g : Grid ColDef) → bytes_eq id table ≡ false → length g.columns + cond (bytes_eq id table) 1 0 ≡ length g.columns
        more id g apart = ap (λ b. length g.columns + cond b 1 0) apart ∙ (let e : length g.columns + 0 ≡ length g.columns = omega arith in e)

        less : (id : List ℕ) (g : Grid ColDef) → bytes_eq id table ≡ false → length g.columns - cond (bytes_eq id table) 1 0 ≡ length g.columns
        less id g apart = ap (λ b. length g.columns - cond b 1 0) apart ∙ (let e : length g.columns - 0 ≡ length g.columns = omega arith in e)

        add_column_step : (d : ColDef) → SchemaStep (AddColumn table d) (with_table table (on_grid (add_column d)) p)
        add_column_step d = record {
          tables_come = [];
          tables_go = [];
          columns_come = d.row ∷ [];
          columns_go = [];
          comes = λ id. refl;
          goes = nothing_at;
          tables_once = refl;
          columns_once = refl;
          tables_there = refl;
          columns_there = refl;
          tables_move = λ h. ap (λ rows. sum_of h rows + 0) (map-with_id table_id table_row table (on_grid (add_column d)) p (λ x. refl));
          columns_move = λ h.
              let move : sum_of (over_columns h) (with_table table (on_grid (add_column d)) p) + over_columns h t ≡ sum_of (over_columns h) p + over_columns h (on_grid (add_column d) t)
              = total-with_id table_id (over_columns h) table (on_grid (add_column d)) p t good.distinct found in
              let put : sum_of (λ (e : ColDef). h e.row) (put_by_row column_row d t.grid.columns) ≡ h d.row + sum_of (λ (e : ColDef). h e.row) t.grid.columns = total-put_by_row column_id (λ (e : ColDef). h e.row) column_row d t.grid.columns in
              let a : sum_of h (map column_row (put_by_row column_row d t.grid.columns)) ≡ sum_of (λ (e : ColDef). h e.row) (put_by_row column_row d t.grid.columns) = total-map h column_row (put_by_row column_row d t.grid.columns) in
              let b : sum_of h (map column_row t.grid.columns) ≡ sum_of (λ (e : ColDef). h e.row) t.grid.columns = total-map h column_row t.grid.columns in
              omega arith;
          tables_wide = more tables_id (tables_grid p) plain.tables;
          columns_wide = more columns_id (columns_grid p) plain.columns;
          resources_wide = more resources_id r plain.resources;
          rules_wide = more rules_id u plain.rules;
          stay = refl;
          stay_plain = plains;
          plain_move = λ h.
              zero_first (sum_of h (map maxima_of (with_table table (on_grid (add_column d)) p))) (sum_of h (map (λ (x : Table). maxima (length x.grid.columns + cond (bytes_eq x.id table) 1 0) x.grid.rows) p)) (ap (sum_of h) (sym (map-map maxima_of (λ x. cond (bytes_eq (table_id x) table) (on_grid (add_column d) x) x) p)
              ∙ map_each (λ (x : Table). maxima_of (cond (bytes_eq (table_id x) table) (on_grid (add_column d) x) x)) (λ (x : Table). maxima (length x.grid.columns + cond (bytes_eq x.id table) 1 0) x.grid.rows) p (every p)));
        }
          where
            every : (xs : List Table) → AllByRecursion (λ x. maxima_of (cond (bytes_eq x.id table) (on_grid (add_column d) x) x) ≡ maxima (length x.grid.columns + cond (bytes_eq x.id table) 1 0) x.grid.rows) xs
            every [] = tt
            every (x ∷ xs) = (
              elim (bytes_eq x.id table) as (λ b. maxima_of (cond b (on_grid (add_column d) x) x) ≡ maxima (length x.grid.columns + cond b 1 0) x.grid.rows) [
                | true ↦ ap (λ n. maxima n x.grid.rows)
                    (let all : sum_of (λ _. 1) (put_by_row column_row d x.grid.columns) ≡ 1 + sum_of (λ _. 1) x.grid.columns = total-put_by_row column_id (λ _. 1) column_row d x.grid.columns in
                    let a : sum_of (λ _. 1) (put_by_row column_row d x.grid.columns) ≡ length (put_by_row column_row d x.grid.columns) = length-total (put_by_row column_row d x.grid.columns) in
                    let b : sum_of (λ _. 1) x.grid.columns ≡ length x.grid.columns = length-total x.grid.columns in
                    let e : length (put_by_row column_row d x.grid.columns) ≡ length x.grid.columns + 1 = omega arith in e)
                | false ↦ ap (λ n. maxima n x.grid.rows) (let e : length x.grid.columns ≡ length x.grid.columns + 0 = omega arith in e)
              ],
              every xs,
            )

        module _ (column : List ℕ) (d : ColDef) (here : find_id column_id column t.grid.columns ≡ Some d) where
          go_column : (h : ℕ → ℕ) → sum_of (over_columns h) (with_table table (on_grid (remove_column column)) p) + sum_of h (d.row ∷ []) ≡ sum_of (over_columns h) p
          go_column h =
              let move : sum_of (over_columns h) (with_table table (on_grid (remove_column column)) p) + over_columns h t ≡ sum_of (over_columns h) p + over_columns h (on_grid (remove_column column) t)
              = total-with_id table_id (over_columns h) table (on_grid (remove_column column)) p t good.distinct found in
              let out : sum_of (λ (e : ColDef). h e.row) (without_id column_id column t.grid.columns) + h d.row ≡ sum_of (λ (e : ColDef). h e.row) t.grid.columns
              = total-without_id column_id (λ (e : ColDef). h e.row) column t.grid.columns d (found_all table_id (λ t. Rattle.doc_model.specs.Sound.IsSoundGrid t.grid) table p t good.grids found).is_grid.distinct here in
              let a : sum_of h (map column_row (without_id column_id column t.grid.columns)) ≡ sum_of (λ (e : ColDef). h e.row) (without_id column_id column t.grid.columns) = total-map h column_row (without_id column_id column t.grid.columns) in
              let b : sum_of h (map column_row t.grid.columns) ≡ sum_of (λ (e : ColDef). h e.row) t.grid.columns = total-map h column_row t.grid.columns in
              omega arith

          fewer : length (without_id column_id column t.grid.columns) ≡ length t.grid.columns - 1
          fewer =
              let all : sum_of (λ _. 1) (without_id column_id column t.grid.columns) + 1 ≡ sum_of (λ _. 1) t.grid.columns
              = total-without_id column_id (λ _. 1) column t.grid.columns d (found_all table_id (λ t. Rattle.doc_model.specs.Sound.IsSoundGrid t.grid) table p t good.grids found).is_grid.distinct here in
              let a : sum_of (λ _. 1) (without_id column_id column t.grid.columns) ≡ length (without_id column_id column t.grid.columns) = length-total (without_id column_id column t.grid.columns) in
              let b : sum_of (λ _. 1) t.grid.columns ≡ length t.grid.columns = length-total t.grid.columns in
              omega arith

          remove_column_step : valid whole (RemoveColumn table column) ≡ true → SchemaStep (RemoveColumn table column) (with_table table (on_grid (remove_column column)) p)
          remove_column_step v =
              let q : List Table = with_table table (on_grid (remove_column column)) p in
              let once_q : has_no_duplicates (column_rows q) ≡ true = once_after (RemoveColumn table column) q v refl in
              record {
                tables_come = [];
                tables_go = [];
                columns_come = [];
                columns_go = d.row ∷ [];
                comes = nothing_at;
                goes = λ id. ap (at_schema id []) (told t (row_of_column column) plain found ∙ ap (λ o. elim o as (λ _. List ℕ) [ None ↦ [] | Some d ↦ d.row ∷ [] ]) here);
                tables_once = refl;
                columns_once = refl;
                tables_there = refl;
                columns_there = all_in-moved (map described_row (in_order (all_columns p))) (map described_row (in_order (all_columns q))) (d.row ∷ []) (λ h.
                    let new : sum_of h (map described_row (in_order (all_columns q))) ≡ sum_of (over_columns h) q = total-described h q once_q in
                    let old : sum_of h (map described_row (in_order (all_columns p))) ≡ sum_of (over_columns h) p = total-described h p good.once in
                    let move : sum_of (over_columns h) q + sum_of h (d.row ∷ []) ≡ sum_of (over_columns h) p = go_column h in
                    omega arith);
                tables_move = λ h. ap (λ rows. sum_of h rows + 0) (map-with_id table_id table_row table (on_grid (remove_column column)) p (λ x. refl));
                columns_move = λ h. let move : sum_of (over_columns h) q + sum_of h (d.row ∷ []) ≡ sum_of (over_columns h) p = go_column h in omega arith;
                tables_wide = less tables_id (tables_grid p) plain.tables;
                columns_wide = less columns_id (columns_grid p) plain.columns;
                resources_wide = less resources_id r plain.resources;
                rules_wide = less rules_id u plain.rules;
                stay = refl;
                stay_plain = plains;
                plain_move = λ h.
                    zero_first (sum_of h (map maxima_of q)) (sum_of h (map (λ (x : Table). maxima (length x.grid.columns - cond (bytes_eq x.id table) 1 0) x.grid.rows) p)) (ap (sum_of h) (sym (map-map maxima_of (λ x. cond (bytes_eq (table_id x) table) (on_grid (remove_column column) x) x) p)
                    ∙ map_each (λ (x : Table). maxima_of (cond (bytes_eq (table_id x) table) (on_grid (remove_column column) x) x)) (λ (x : Table). maxima (length x.grid.columns - cond (bytes_eq x.id table) 1 0) x.grid.rows) p
                    (each_weaker (λ x. bytes_eq x.id table ≡ true → x ≡ t)
                    (λ x. maxima_of (cond (bytes_eq x.id table) (on_grid (remove_column column) x) x) ≡ maxima (length x.grid.columns - cond (bytes_eq x.id table) 1 0) x.grid.rows)
                    every p (found_alone table p t good.distinct found))));
              }
            where
              every : (x : Table) → (bytes_eq x.id table ≡ true → x ≡ t) → maxima_of (cond (bytes_eq x.id table) (on_grid (remove_column column) x) x) ≡ maxima (length x.grid.columns - cond (bytes_eq x.id table) 1 0) x.grid.rows
              every x same =
                  elim (bytes_eq x.id table) as (λ b. bytes_eq x.id table ≡ b → maxima_of (cond b (on_grid (remove_column column) x) x) ≡ maxima (length x.grid.columns - cond b 1 0) x.grid.rows) [
                    | true ↦ λ is.
                        subst (λ (y : Table). maxima (length (without_id column_id column y.grid.columns)) y.grid.rows ≡ maxima (length y.grid.columns - 1) y.grid.rows) (sym (same is))
                        (ap (λ n. maxima n t.grid.rows) fewer)
                    | false ↦ λ _. ap (λ n. maxima n x.grid.rows) (let e : length x.grid.columns ≡ length x.grid.columns - 0 = omega arith in e)
                  ] refl

    -- the table of a schema action is a plain one
    the_table : (table : List ℕ) (test : Table → Bool) → Rattle.doc_model.specs.Valid.passes (schema_table whole table) test ≡ true → (t : Table) × (IsPlain table × (find_id table_id table p ≡ Some t) × (test t ≡ true))
    the_table table test v =
        let parts : (t : Table) × ((schema_table whole table ≡ Some t) × (test t ≡ true)) = passes_parts (schema_table whole table) test v in
        let at : IsPlain table × (find_id table_id table p ≡ Some parts.0) = schema_table_parts r u p table parts.0 parts.1.0 in
        (parts.0, (at.0, at.1, parts.1.1))

    told_after : (a : DocAction) → valid whole a ≡ true → SameTotals (map maxima_of (effect whole a)) (maxima_after whole a) × LeavesRows whole a
    told_after (BulkAdd table rows ks) v = (λ h. ap (sum_of h) (add_maxima whole (whole_from r u p good).sound table rows ks v), still_rows whole (BulkAdd table rows ks) (λ id. refl))
    told_after (BulkUpdate table rows ks) v = (λ h. ap (sum_of h) (update_maxima whole (whole_from r u p good).sound table rows ks), still_rows whole (BulkUpdate table rows ks) (λ id. refl))
    told_after (BulkRemove table rows) v = (λ h. ap (sum_of h) (remove_maxima whole (whole_from r u p good).sound table rows), removed_rows whole (whole_from r u p good).sound table rows v)
    told_after (AddTable table row columns) v = stepped_by (AddTable table row columns) (put_by_row table_row (new_table table row columns) p) v refl (add_table_step table row columns)
    told_after (RemoveTable table) v =
        let at : (t : Table) × (IsPlain table × (find_id table_id table p ≡ Some t) × (true ≡ true)) = the_table table (λ _. true) v in
        stepped_by (RemoveTable table) (without_id table_id table p) v refl (remove_table_step table at.0 at.1.0 at.1.1 v)
    told_after (RenameTable table new) v =
        let at : (t : Table) × (IsPlain table × (find_id table_id table p ≡ Some t) × (is_new_table whole new ≡ true)) = the_table table (λ _. is_new_table whole new) v in
        stepped_by (RenameTable table new) (with_table table (renamed new) p) v refl (rename_table_step table at.0 at.1.0 at.1.1 new)
    told_after (AddColumn table d) v =
        let at : (t : Table) × (IsPlain table × (find_id table_id table p ≡ Some t) × ((is_new_column t.grid d.id && are_free whole columns_id (d.row ∷ []) && is_sound_info d.info) ≡ true))
        = the_table table (λ t. is_new_column t.grid d.id && are_free whole columns_id (d.row ∷ []) && is_sound_info d.info) v in
        stepped_by (AddColumn table d) (with_table table (on_grid (add_column d)) p) v refl (add_column_step table at.0 at.1.0 at.1.1 d)
    told_after (RemoveColumn table column) v =
        let at : (t : Table) × (IsPlain table × (find_id table_id table p ≡ Some t) × (has_id column_id t.grid.columns column ≡ true)) = the_table table (λ t. has_id column_id t.grid.columns column) v in
        let d : (d : ColDef) × (find_id column_id column at.0.grid.columns ≡ Some d) = found_has column_id column at.0.grid.columns at.1.2 in
        stepped_by (RemoveColumn table column) (with_table table (on_grid (remove_column column)) p) v refl (remove_column_step table at.0 at.1.0 at.1.1 column d.0 d.1 v)
    told_after (RenameColumn table column new) v =
        let at : (t : Table) × (IsPlain table × (find_id table_id table p ≡ Some t) × ((has_id column_id t.grid.columns column && is_new_column t.grid new) ≡ true)) = the_table table (λ t. has_id column_id t.grid.columns column && is_new_column t.grid new) v in
        stepped_by (RenameColumn table column new) (with_table table (on_grid (with_column column (with_name new))) p) v refl (rename_column_step table at.0 at.1.0 at.1.1 column new)
    told_after (ModifyColumn table column info) v =
        let at : (t : Table) × (IsPlain table × (find_id table_id table p ≡ Some t) × ((has_id column_id t.grid.columns column && is_sound_info info && (not info.is_formula || all_null t.grid column)) ≡ true))
        = the_table table (λ t. has_id column_id t.grid.columns column && is_sound_info info && (not info.is_formula || all_null t.grid column)) v in
        stepped_by (ModifyColumn table column info) (with_table table (on_grid (with_column column (with_info info))) p) v refl (modify_column_step table at.0 at.1.0 at.1.1 column info)

-- the greatest of a part of what is told of each table
greatest-told : (s : Document) (ps : List Maxima) (part : Maxima → ℕ) → SameTotals (map maxima_of s) ps → greatest (map (λ t. part (maxima_of t)) s) ≡ greatest (map part ps)
greatest-told s ps part e = ap greatest (map-map part maxima_of s) ∙ greatest-same (map part (map maxima_of s)) (map part ps) (same-map part (map maxima_of s) ps e)

-- both, of any document
told_both : (s : Document) (a : DocAction) → IsWhole s → valid s a ≡ true → SameTotals (map maxima_of (apply s a)) (maxima_after s a) × LeavesRows s a
told_both s a whole_s v =
    let same : s ≡ with_schema (resources s) (rules s) (plain_tables s) = whole_s.agrees.schema in
    subst (λ d. SameTotals (map maxima_of d) (maxima_after s a) × LeavesRows s a) (sym (applied s a v))
    (subst (λ d. SameTotals (map maxima_of (effect d a)) (maxima_after d a) × LeavesRows d a) (sym same) (told_after (resources s) (rules s) (plain_tables s) (good_from s whole_s) a (ap (λ d. valid d a) (sym same) ∙ v)))

-- each table has so many rows less as go out
pub rows-left : (s : Document) (a : DocAction) → IsWhole s → valid s a ≡ true → LeavesRows s a
rows-left s a whole_s v = (told_both s a whole_s v).1

-- the counts are the greatest of these
pub maxima-apply : (s : Document) (a : DocAction) → IsWhole s → valid s a ≡ true → AreGreatest (counts (apply s a)) (maxima_after s a)
maxima-apply s a whole_s v =
    let moved : SameTotals (map maxima_of (apply s a)) (maxima_after s a) = (told_both s a whole_s v).0 in
    record {
      columns = greatest-told (apply s a) (maxima_after s a) (λ (m : Maxima). m.columns) moved;
      rows = greatest-told (apply s a) (maxima_after s a) (λ (m : Maxima). m.rows) moved;
      row_id = greatest-told (apply s a) (maxima_after s a) (λ (m : Maxima). m.row_id) moved;
    }
