-- Changes of the plain tables that keep a document whole.
use Rattle.std.proofs.Common.{ℕ, Bool, true, false, cond, not, ◌+◌, List, [], ◌∷◌, ◌++◌, map, filter, ◌≡◌, ◌<◌, ◌≤◌, refl, sym, ap, subst, ◌∙◌, Some, ltb, arith}
use Rattle.std.proofs.lemmas.Slice.Eq.{bytes_eq-Decides}
use Rattle.std.specs.List.{AllByRecursion}
use Rattle.std.specs.Str.{bytes_eq}
use Rattle.doc_model.specs.declared.column.ColDef.{ColDef}
use Rattle.doc_model.specs.MetadataIds.{is_metadata_id}
use Rattle.doc_model.specs.ByIds.{find_id, has_id, AreDistinct, with_id, without_id}
use Rattle.doc_model.specs.Rows.{has, has_no_duplicates, IsAscending}
use Rattle.doc_model.specs.Grid.{Grid}
use Rattle.doc_model.specs.Column.{column_row}
use Rattle.doc_model.specs.Document.{Table, table_id, table_row, renamed, put_by_row}
use Rattle.doc_model.specs.Sound.{IsSoundGrid, has_names}
use Rattle.doc_model.proofs.Choices.{each_filter, each_weaker, filter_all}
use Rattle.doc_model.proofs.ByIdsLaws.{bytes_apart, has_apart, found_all}
use Rattle.doc_model.proofs.ByRowLaws.{each_put, IsAscending-put_by_row, IsAscending-filtered, AreDistinct-put_by_row, AreDistinct-filter, AreDistinct-with_id, map-with_id, each_with_id, each_with_id_found, with_id_absent}
use Rattle.doc_model.proofs.ColumnsKept.{AreDistinct-Agrees, Agrees-new_id}
use Rattle.doc_model.proofs.TimesLaws.{times, times-append, times-once, once-times}
use Rattle.doc_model.proofs.WholeLaws.{IsGood, IsPlain, metadata_from, column_rows}

abbrev pub own : Table → List ℕ
own t = map column_row t.grid.columns

-- how often a row describes a column, once a table is put in, taken out or changed
pub times-put : (r : ℕ) (t : Table) (p : List Table) → times r (column_rows (put_by_row table_row t p)) ≡ times r (own t) + times r (column_rows p)
times-put r t [] = times-append r (own t) []
times-put r t (s ∷ p) =
    elim (ltb t.row s.row) as (λ b. times r (column_rows (cond b (t ∷ s ∷ p) (s ∷ put_by_row table_row t p))) ≡ times r (own t) + times r (own s ++ column_rows p)) [
      | true ↦ times-append r (own t) (own s ++ column_rows p)
      | false ↦
          let whole : times r (own s ++ column_rows (put_by_row table_row t p)) ≡ times r (own s) + times r (column_rows (put_by_row table_row t p)) = times-append r (own s) (column_rows (put_by_row table_row t p)) in
          let later : times r (column_rows (put_by_row table_row t p)) ≡ times r (own t) + times r (column_rows p) = times-put r t p in
          let right : times r (own s ++ column_rows p) ≡ times r (own s) + times r (column_rows p) = times-append r (own s) (column_rows p) in
          omega arith
    ]

pub times-without : (r : ℕ) (id : List ℕ) (p : List Table) (t : Table) → AreDistinct table_id p → find_id table_id id p ≡ Some t → times r (column_rows (without_id table_id id p)) + times r (own t) ≡ times r (column_rows p)
times-without r id [] t d f = absurd (cc)
times-without r id (s ∷ p) t d f =
    let right : times r (own s ++ column_rows p) ≡ times r (own s) + times r (column_rows p) = times-append r (own s) (column_rows p) in
    elim (bytes_eq s.id id) as (λ b. bytes_eq s.id id ≡ b → cond b (Some s) (find_id table_id id p) ≡ Some t
    → times r (column_rows (cond (not b) (s ∷ without_id table_id id p) (without_id table_id id p))) + times r (own t) ≡ times r (own s ++ column_rows p)) [
      | true ↦ λ is f.
          let same : s ≡ t = cc in
          let apart : AllByRecursion (λ z. not (bytes_eq (table_id z) id) ≡ true) p = each_weaker (λ z. bytes_eq id (table_id z) ≡ false) (λ z. not (bytes_eq (table_id z) id) ≡ true) (λ z e. ap not (bytes_apart id (table_id z) e)) p (subst (λ n. AllByRecursion (λ z. bytes_eq n (table_id z) ≡ false) p) ((bytes_eq-Decides s.id id).0 is) d.0) in
          let rest : times r (column_rows (without_id table_id id p)) ≡ times r (column_rows p) = ap (λ q. times r (column_rows q)) (filter_all (λ z. not (bytes_eq (table_id z) id)) p apart) in
          let mine : times r (own s) ≡ times r (own t) = ap (λ z. times r (own z)) same in
          omega arith
      | false ↦ λ _ f.
          let left : times r (own s ++ column_rows (without_id table_id id p)) ≡ times r (own s) + times r (column_rows (without_id table_id id p)) = times-append r (own s) (column_rows (without_id table_id id p)) in
          let later : times r (column_rows (without_id table_id id p)) + times r (own t) ≡ times r (column_rows p) = times-without r id p t d.1 f in
          omega arith
    ] refl f

pub times-with : (r : ℕ) (id : List ℕ) (f : Table → Table) (p : List Table) (t : Table) → AreDistinct table_id p → find_id table_id id p ≡ Some t
    → times r (column_rows (with_id table_id id f p)) + times r (own t) ≡ times r (column_rows p) + times r (own (f t))
times-with r id f [] t d e = absurd (cc)
times-with r id f (s ∷ p) t d e =
    let right : times r (own s ++ column_rows p) ≡ times r (own s) + times r (column_rows p) = times-append r (own s) (column_rows p) in
    elim (bytes_eq s.id id) as (λ b. bytes_eq s.id id ≡ b → cond b (Some s) (find_id table_id id p) ≡ Some t
    → times r (own (cond b (f s) s) ++ column_rows (with_id table_id id f p)) + times r (own t) ≡ times r (own s ++ column_rows p) + times r (own (f t))) [
      | true ↦ λ is e.
          let same : s ≡ t = cc in
          let absent : has_id table_id p id ≡ false = has_apart table_id id p (subst (λ n. AllByRecursion (λ z. bytes_eq n (table_id z) ≡ false) p) ((bytes_eq-Decides s.id id).0 is) d.0) in
          let rest : times r (column_rows (with_id table_id id f p)) ≡ times r (column_rows p) = ap (λ q. times r (column_rows q)) (with_id_absent table_id id f p absent) in
          let left : times r (own (f s) ++ column_rows (with_id table_id id f p)) ≡ times r (own (f s)) + times r (column_rows (with_id table_id id f p)) = times-append r (own (f s)) (column_rows (with_id table_id id f p)) in
          let mine : times r (own s) ≡ times r (own t) = ap (λ z. times r (own z)) same in
          let made : times r (own (f s)) ≡ times r (own (f t)) = ap (λ z. times r (own (f z))) same in
          omega arith
      | false ↦ λ _ e.
          let left : times r (own s ++ column_rows (with_id table_id id f p)) ≡ times r (own s) + times r (column_rows (with_id table_id id f p)) = times-append r (own s) (column_rows (with_id table_id id f p)) in
          let later : times r (column_rows (with_id table_id id f p)) + times r (own t) ≡ times r (column_rows p) + times r (own (f t)) = times-with r id f p t d.1 e in
          omega arith
    ] refl e

module _ (r u : Grid ColDef) (p : List Table) (good : IsGood r u p) where
  -- a table changed under its id and its row
  pub good_with : (id : List ℕ) (f : Table → Table) (t : Table) → ((x : Table) → (f x).id ≡ x.id) → ((x : Table) → (f x).row ≡ x.row) → find_id table_id id p ≡ Some t
      → IsSoundGrid (f t).grid → has_names (f t) ≡ true → IsAscending (own (f t)) → AllByRecursion (λ q. 0 < q) (own (f t)) → ((q : ℕ) → times q (column_rows (with_id table_id id f p)) ≤ 1)
      → IsGood r u (with_id table_id id f p)
  good_with id f t ki kr found sound names ascend one once = record {
    resources_sound = good.resources_sound;
    rules_sound = good.rules_sound;
    resources_have = good.resources_have;
    rules_have = good.rules_have;
    distinct = AreDistinct-with_id table_id id f ki p good.distinct;
    plain = each_with_id table_id (λ t. is_metadata_id t.id ≡ false) id f p (λ x _ e. ap is_metadata_id (ki x) ∙ e) good.plain;
    grids = each_with_id_found table_id (λ t. IsSoundGrid t.grid) id f p t good.distinct found sound good.grids;
    names = each_with_id_found table_id (λ t. has_names t ≡ true) id f p t good.distinct found names good.names;
    once = once-times (column_rows (with_id table_id id f p)) once;
    tables_ascend = subst IsAscending (sym (map-with_id table_id table_row id f p kr)) good.tables_ascend;
    columns_ascend = each_with_id_found table_id (λ t. IsAscending (own t)) id f p t good.distinct found ascend good.columns_ascend;
    table_rows = subst (AllByRecursion (λ q. 0 < q)) (sym (map-with_id table_id table_row id f p kr)) good.table_rows;
    columns_from_one = each_with_id_found table_id (λ t. AllByRecursion (λ q. 0 < q) (own t)) id f p t good.distinct found one good.columns_from_one;
  }

  -- the same, where the rows of its columns stay
  pub good_same_rows : (id : List ℕ) (f : Table → Table) (t : Table) → ((x : Table) → (f x).id ≡ x.id) → ((x : Table) → (f x).row ≡ x.row) → find_id table_id id p ≡ Some t
      → IsSoundGrid (f t).grid → has_names (f t) ≡ true → own (f t) ≡ own t → IsGood r u (with_id table_id id f p)
  good_same_rows id f t ki kr found sound names same =
      good_with id f t ki kr found sound names
      (subst IsAscending (sym same) (found_all table_id (λ t. IsAscending (own t)) id p t good.columns_ascend found))
      (subst (AllByRecursion (λ q. 0 < q)) (sym same) (found_all table_id (λ t. AllByRecursion (λ q. 0 < q) (own t)) id p t good.columns_from_one found))
      (λ q.
      let here : times q (column_rows (with_id table_id id f p)) + times q (own t) ≡ times q (column_rows p) + times q (own (f t)) = times-with q id f p t good.distinct found in
      let equal : times q (own (f t)) ≡ times q (own t) = ap (times q) same in
      let few : times q (column_rows p) ≤ 1 = times-once q (column_rows p) good.once in
      omega arith)

  -- a new table
  pub good_added : (t : Table) → IsPlain t.id → has_id table_id p t.id ≡ false → IsSoundGrid t.grid → has_names t ≡ true → IsAscending (own t) → AllByRecursion (λ q. 0 < q) (own t)
      → 0 < t.row → has (map table_row p) t.row ≡ false → ((q : ℕ) → times q (own t) + times q (column_rows p) ≤ 1) → IsGood r u (put_by_row table_row t p)
  good_added t plain fresh sound names ascend one row new_row once = record {
    resources_sound = good.resources_sound;
    rules_sound = good.rules_sound;
    resources_have = good.resources_have;
    rules_have = good.rules_have;
    distinct = AreDistinct-put_by_row table_row table_id t p good.distinct fresh;
    plain = each_put table_row (λ t. is_metadata_id t.id ≡ false) t p (metadata_from t.id plain) good.plain;
    grids = each_put table_row (λ t. IsSoundGrid t.grid) t p sound good.grids;
    names = each_put table_row (λ t. has_names t ≡ true) t p names good.names;
    once = once-times (column_rows (put_by_row table_row t p)) (λ q. let here : times q (column_rows (put_by_row table_row t p)) ≡ times q (own t) + times q (column_rows p) = times-put q t p in let few : times q (own t) + times q (column_rows p) ≤ 1 = once q in omega arith);
    tables_ascend = IsAscending-put_by_row table_row t p good.tables_ascend new_row;
    columns_ascend = each_put table_row (λ t. IsAscending (own t)) t p ascend good.columns_ascend;
    table_rows = rows_of_all (put_by_row table_row t p) (each_put table_row (λ t. 0 < t.row) t p row (rows_each p good.table_rows));
    columns_from_one = each_put table_row (λ t. AllByRecursion (λ q. 0 < q) (own t)) t p one good.columns_from_one;
  }
    where
      rows_each : (p : List Table) → AllByRecursion (λ q. 0 < q) (map table_row p) → AllByRecursion (λ t. 0 < t.row) p
      rows_each [] h = tt
      rows_each (t ∷ p) h = (h.0, rows_each p h.1)

      rows_of_all : (p : List Table) → AllByRecursion (λ t. 0 < t.row) p → AllByRecursion (λ q. 0 < q) (map table_row p)
      rows_of_all [] h = tt
      rows_of_all (t ∷ p) h = (h.0, rows_of_all p h.1)

  -- a table gone
  pub good_removed : (id : List ℕ) (t : Table) → find_id table_id id p ≡ Some t → IsGood r u (without_id table_id id p)
  good_removed id t found = record {
    resources_sound = good.resources_sound;
    rules_sound = good.rules_sound;
    resources_have = good.resources_have;
    rules_have = good.rules_have;
    distinct = AreDistinct-filter table_id test p good.distinct;
    plain = each_filter (λ t. is_metadata_id t.id ≡ false) test p good.plain;
    grids = each_filter (λ t. IsSoundGrid t.grid) test p good.grids;
    names = each_filter (λ t. has_names t ≡ true) test p good.names;
    once = once-times (column_rows (without_id table_id id p)) (λ q.
        let here : times q (column_rows (without_id table_id id p)) + times q (own t) ≡ times q (column_rows p) = times-without q id p t good.distinct found in
        let few : times q (column_rows p) ≤ 1 = times-once q (column_rows p) good.once in
        omega arith);
    tables_ascend = IsAscending-filtered table_row test p good.tables_ascend;
    columns_ascend = each_filter (λ t. IsAscending (own t)) test p good.columns_ascend;
    table_rows = kept p good.table_rows;
    columns_from_one = each_filter (λ t. AllByRecursion (λ q. 0 < q) (own t)) test p good.columns_from_one;
  }
    where
      test : Table → Bool
      test x = not (bytes_eq (table_id x) id)

      kept : (p : List Table) → AllByRecursion (λ q. 0 < q) (map table_row p) → AllByRecursion (λ q. 0 < q) (map table_row (filter test p))
      kept [] h = tt
      kept (x ∷ p) h = elim (test x) as (λ b. AllByRecursion (λ q. 0 < q) (map table_row (cond b (x ∷ filter test p) (filter test p)))) [ true ↦ (h.0, kept p h.1) | false ↦ kept p h.1 ]

  -- a table under a new id
  pub good_renamed : (id new : List ℕ) (t : Table) → IsPlain new → has_id table_id p new ≡ false → find_id table_id id p ≡ Some t → has_names (renamed new t) ≡ true → IsGood r u (with_id table_id id (renamed new) p)
  good_renamed id new t plain fresh found names = record {
    resources_sound = good.resources_sound;
    rules_sound = good.rules_sound;
    resources_have = good.resources_have;
    rules_have = good.rules_have;
    distinct = AreDistinct-Agrees table_id (λ x. cond (bytes_eq x.id id) (renamed new x) x) p (Agrees-new_id table_id id new (renamed new) p (λ x. refl) fresh) good.distinct;
    plain = each_with_id table_id (λ t. is_metadata_id t.id ≡ false) id (renamed new) p (λ x _ _. metadata_from new plain) good.plain;
    grids = each_with_id table_id (λ t. IsSoundGrid t.grid) id (renamed new) p (λ x _ s. s) good.grids;
    names = each_with_id_found table_id (λ t. has_names t ≡ true) id (renamed new) p t good.distinct found names good.names;
    once = ap has_no_duplicates (same p) ∙ good.once;
    tables_ascend = subst IsAscending (sym (map-with_id table_id table_row id (renamed new) p (λ x. refl))) good.tables_ascend;
    columns_ascend = each_with_id table_id (λ t. IsAscending (own t)) id (renamed new) p (λ x _ s. s) good.columns_ascend;
    table_rows = subst (AllByRecursion (λ q. 0 < q)) (sym (map-with_id table_id table_row id (renamed new) p (λ x. refl))) good.table_rows;
    columns_from_one = each_with_id table_id (λ t. AllByRecursion (λ q. 0 < q) (own t)) id (renamed new) p (λ x _ s. s) good.columns_from_one;
  }
    where
      same : (p : List Table) → column_rows (with_id table_id id (renamed new) p) ≡ column_rows p
      same [] = refl
      same (x ∷ p) =
          ap (λ rows. rows ++ column_rows (with_id table_id id (renamed new) p)) (elim (bytes_eq x.id id) as (λ b. own (cond b (renamed new x) x) ≡ own x) [ true ↦ refl | false ↦ refl ])
          ∙ ap (λ rows. own x ++ rows) (same p)
