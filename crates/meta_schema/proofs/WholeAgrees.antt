-- A whole document agrees with its schema as far as a store tells it.
use Rattle.std.proofs.Common.{ℕ, Bool, true, false, cond, not, ◌&&◌, nat_eq, List, [], ◌∷◌, ◌++◌, map, length, ◌≡◌, ◌<◌, refl, sym, ap, subst, ◌∙◌, eqb, ltb, Some, None, arith}
use Rattle.std.proofs.lemmas.Bool.{and_parts, eq-eqb, lt-ltb, ne_eqb, eqb-false}
use Rattle.std.proofs.lemmas.Bool.Decides.{Decides-int_eq}
use Rattle.std.specs.Prelude.{pos}
use Rattle.std.specs.List.{AllByRecursion}
use Rattle.cell_types.specs.declared.value.CellValue.TheVariants as value
use Rattle.doc_model.specs.declared.column.ColDef.{ColDef}
use Rattle.doc_model.specs.MetadataIds.{tables_id, columns_id, resources_id, rules_id}
use Rattle.doc_model.specs.Grid.{Grid}
use Rattle.doc_model.specs.Rows.{has, has_no_duplicates, IsAscending}
use Rattle.doc_model.specs.Column.{column_row}
use Rattle.doc_model.specs.Document.{Table, Document, table_id, table_row}
use Rattle.doc_model.specs.DocumentLaws.{IsWhole}
use Rattle.doc_model.specs.Schema.{Described, described_row, describe, all_columns, in_order, put_described, with_schema, no_grid, type_text, resources, rules, plain_tables}
use Rattle.doc_model.proofs.Choices.{both_true, length_map, not_true, each_weaker, each_both, each_unmapped}
use Rattle.doc_model.proofs.ByIdsLaws.{bytes_itself, each_found}
use Rattle.doc_model.proofs.SchemaLaws.{IsAscending-in_order, has-in_order}
use Rattle.doc_model.proofs.TotalsLaws.{sum_of, length-total}
use Rattle.doc_model.proofs.MaximaSums.{total-described, over_columns}
use Rattle.doc_model.proofs.WholeLaws.{IsGood, good_from, described_rows}
use Rattle.doc_readers.specs.Parts.{grid_at}
use Rattle.meta_schema.specs.Decoding.{holds}
use Rattle.meta_schema.specs.Agreement.{has_text, has_type, has_truth, cell_beside, has_tables_table, has_columns_table, has_resources_table, has_rules_table, is_said, are_said, tables_said, column_count, plain_ids, agrees}
use Rattle.meta_schema.specs.AgreementLaw.{HasToldRows}
use Rattle.meta_schema.proofs.LookupLemmas.{Stands, each_stands}
use Rattle.meta_schema.proofs.DescribedLemmas.{described, neither}
use Rattle.meta_schema.proofs.SchemaLawLemmas.{tables_part, columns_part, told_table_id, told_parent, told_id, told_type, told_is_formula, told_formula}

-- ---- what holds of columns in order holds of them

each_unput : (P : Described → Type 0) (e : Described) (es : List Described) → has (map described_row es) e.column.row ≡ false → AllByRecursion P (put_described e es) → P e × AllByRecursion P es
each_unput P e [] new h = (h.0, tt)
each_unput P e (x ∷ es) new h =
    let two : (eqb x.column.row e.column.row ≡ false) × (has (map described_row es) e.column.row ≡ false) = neither (eqb x.column.row e.column.row) (has (map described_row es) e.column.row) new in
    elim (ltb e.column.row x.column.row) as (λ b. AllByRecursion P (cond b (e ∷ x ∷ es) (cond (eqb e.column.row x.column.row) (e ∷ es) (x ∷ put_described e es))) → P e × AllByRecursion P (x ∷ es)) [
      | true ↦ λ h. (h.0, h.1)
      | false ↦ λ h.
          let later : AllByRecursion P (x ∷ put_described e es) = subst (λ b. AllByRecursion P (cond b (e ∷ es) (x ∷ put_described e es))) (turned two.0) h in
          let both : P e × AllByRecursion P es = each_unput P e es two.1 later.1 in
          (both.0, (later.0, both.1))
    ] h
  where
    turned : eqb x.column.row e.column.row ≡ false → eqb e.column.row x.column.row ≡ false
    turned isnt = ne_eqb e.column.row x.column.row (λ is. eqb-false x.column.row e.column.row isnt (sym is))

each_unordered : (P : Described → Type 0) (es : List Described) → has_no_duplicates (map described_row es) ≡ true → AllByRecursion P (in_order es) → AllByRecursion P es
each_unordered P [] once h = tt
each_unordered P (e ∷ es) once h =
    let two : (not (has (map described_row es) e.column.row) ≡ true) × (has_no_duplicates (map described_row es) ≡ true) = and_parts (not (has (map described_row es) e.column.row)) (has_no_duplicates (map described_row es)) once in
    let both : P e × AllByRecursion P (in_order es) = each_unput P e (in_order es) (has-in_order es e.column.row ∙ not_true (has (map described_row es) e.column.row) two.0) h in
    (both.0, each_unordered P es two.1 both.1)

each_parts : {X : Type 0} (P : X → Type 0) (xs ys : List X) → AllByRecursion P (xs ++ ys) → AllByRecursion P xs × AllByRecursion P ys
each_parts P [] ys h = (tt, h)
each_parts P (x ∷ xs) ys h = let rest : AllByRecursion P xs × AllByRecursion P ys = each_parts P xs ys h.1 in ((h.0, rest.0), rest.1)

-- what holds of all columns holds of each table's
each_table : (P : Described → Type 0) (p : List Table) → AllByRecursion P (all_columns p) → AllByRecursion (λ t. AllByRecursion (λ d. P (described t.row d)) t.grid.columns) p
each_table P [] h = tt
each_table P (t ∷ p) h =
    let two : AllByRecursion P (map (described t.row) t.grid.columns) × AllByRecursion P (all_columns p) = each_parts P (map (described t.row) t.grid.columns) (all_columns p) h in
    (each_unmapped P (described t.row) t.grid.columns two.0, each_table P p two.1)

truth_itself : (b : Bool) → cond b b (not b) ≡ true
truth_itself true = refl
truth_itself false = refl

module _ (r u : Grid ColDef) (p : List Table) where
  abbrev whole : Document
  whole = with_schema r u p

  tables_first : has_tables_table whole ≡ true
  unfolding tables_id columns_id resources_id rules_id
  tables_first = refl

  columns_second : has_columns_table whole ≡ true
  unfolding tables_id columns_id resources_id rules_id
  columns_second = refl

  column_said : (e : Described) → Stands described_row describe (in_order (all_columns p)) [] e → is_said whole e.parent e.column ≡ true
  unfolding tables_id columns_id
  column_said e stands =
      both_true _ _ (both_true _ _ (both_true _ _ (both_true _ _
      (ap (λ v. holds v e.parent) (told_parent r u p e stands) ∙ (Decides-int_eq (pos e.parent) (pos e.parent)).1 refl)
      (ap (λ v. has_text v e.column.id) (told_id r u p e stands) ∙ bytes_itself e.column.id))
      (ap (λ v. has_type v e.column.info.ty) (told_type r u p e stands) ∙ bytes_itself (type_text e.column.info.ty)))
      (ap (λ v. has_truth v e.column.info.is_formula) (told_is_formula r u p e stands) ∙ truth_itself e.column.info.is_formula))
      (ap (λ v. has_text v e.column.info.formula) (told_formula r u p e stands) ∙ bytes_itself e.column.info.formula)

  columns_said : (parent low : ℕ) (ds : List ColDef) → AllByRecursion (λ q. low < q) (map column_row ds) → IsAscending (map column_row ds) → AllByRecursion (λ d. is_said whole parent d ≡ true) ds → are_said whole parent low ds ≡ true
  columns_said parent low [] l a h = refl
  columns_said parent low (d ∷ ds) l a h =
      both_true (ltb low d.row && is_said whole parent d) (are_said whole parent d.row ds) (both_true (ltb low d.row) (is_said whole parent d) (lt-ltb low d.row l.0) h.0) (columns_said parent d.row ds a.0 a.1 h.1)

  table_said : (t : Table) → Stands table_row (λ (t : Table). value.Text t.id ∷ []) p [] t → has_text (cell_beside whole tables_id 0 t.row) t.id ≡ true
  unfolding tables_id
  table_said t stands = ap (λ v. has_text v t.id) (told_table_id r u p t stands) ∙ bytes_itself t.id

  each_said : (q : List Table) → AllByRecursion (λ t. (has_text (cell_beside whole tables_id 0 t.row) t.id ≡ true) × (are_said whole t.row 0 (grid_at whole t.id).columns ≡ true)) q → tables_said whole (map table_row q) (map table_id q) ≡ true
  each_said [] h = refl
  each_said (t ∷ q) h = both_true _ _ (both_true _ _ h.0.0 h.0.1) (each_said q h.1)

  counted : (q : List Table) → AllByRecursion (λ t. grid_at whole t.id ≡ t.grid) q → column_count whole (map table_id q) ≡ sum_of (over_columns (λ _. 1)) q
  counted [] h = refl
  counted (t ∷ q) h =
      let here : length (grid_at whole t.id).columns ≡ over_columns (λ _. 1) t = ap (λ g. length g.columns) h.0 ∙ sym (length_map column_row t.grid.columns) ∙ sym (length-total (map column_row t.grid.columns)) in
      let later : column_count whole (map table_id q) ≡ sum_of (over_columns (λ _. 1)) q = counted q h.1 in
      omega arith

  module _ (w : IsWhole whole) (good : IsGood r u p) where
    resources_third : has_resources_table whole ≡ true
    unfolding tables_id columns_id resources_id rules_id
    resources_third = subst (λ cs. has_resources_table (with_schema (record { columns = cs; rows = r.rows; cells = r.cells }) u p) ≡ true) (sym good.resources_have) refl

    rules_fourth : has_rules_table whole ≡ true
    unfolding tables_id columns_id resources_id rules_id
    rules_fourth = subst (λ cs. has_rules_table (with_schema r (record { columns = cs; rows = u.rows; cells = u.cells }) p) ≡ true) (sym good.rules_have) refl

    grids : AllByRecursion (λ t. grid_at whole t.id ≡ t.grid) whole
    grids = each_found table_id (λ t. grid_at whole t.id ≡ t.grid) whole w.sound.distinct (λ t e. ap (λ o. elim o as (λ _. Grid ColDef) [ None ↦ no_grid | Some t ↦ t.grid ]) e)

    once : has_no_duplicates (map described_row (all_columns p)) ≡ true
    once = ap has_no_duplicates (described_rows p) ∙ good.once

    all_said : AllByRecursion (λ t. AllByRecursion (λ d. is_said whole t.row d ≡ true) t.grid.columns) p
    all_said =
        each_table (λ e. is_said whole e.parent e.column ≡ true) p
        (each_unordered (λ e. is_said whole e.parent e.column ≡ true) (all_columns p) once
        (each_weaker (Stands described_row describe (in_order (all_columns p)) []) (λ e. is_said whole e.parent e.column ≡ true) column_said (in_order (all_columns p))
        (each_stands described_row describe (in_order (all_columns p)) [] (IsAscending-in_order (all_columns p)))))

    abbrev Parts : Table → Type 0
    Parts t = (Stands table_row (λ (t : Table). value.Text t.id ∷ []) p [] t × (grid_at whole t.id ≡ t.grid)) × ((AllByRecursion (λ q. 0 < q) (map column_row t.grid.columns) × IsAscending (map column_row t.grid.columns)) × AllByRecursion (λ d. is_said whole t.row d ≡ true) t.grid.columns)

    parts_said : (t : Table) → Parts t → (has_text (cell_beside whole tables_id 0 t.row) t.id ≡ true) × (are_said whole t.row 0 (grid_at whole t.id).columns ≡ true)
    parts_said t h = (
      table_said t h.0.0,
      ap (λ g. are_said whole t.row 0 g.columns) h.0.1 ∙ columns_said t.row 0 t.grid.columns h.1.0.0 h.1.0.1 h.1.1,
    )

    tables_all : tables_said whole (grid_at whole tables_id).rows (plain_ids whole) ≡ true
    tables_all =
        ap (λ g. tables_said whole g.rows (map table_id p)) (tables_part r u p)
        ∙ each_said p (each_weaker Parts (λ t. (has_text (cell_beside whole tables_id 0 t.row) t.id ≡ true) × (are_said whole t.row 0 (grid_at whole t.id).columns ≡ true)) parts_said p
        (each_both (λ t. Stands table_row (λ (t : Table). value.Text t.id ∷ []) p [] t × (grid_at whole t.id ≡ t.grid)) (λ t. (AllByRecursion (λ q. 0 < q) (map column_row t.grid.columns) × IsAscending (map column_row t.grid.columns)) × AllByRecursion (λ d. is_said whole t.row d ≡ true) t.grid.columns) p
        (each_both (Stands table_row (λ (t : Table). value.Text t.id ∷ []) p []) (λ t. grid_at whole t.id ≡ t.grid) p (each_stands table_row (λ (t : Table). value.Text t.id ∷ []) p [] good.tables_ascend) grids.1.1.1.1)
        (each_both (λ t. AllByRecursion (λ q. 0 < q) (map column_row t.grid.columns) × IsAscending (map column_row t.grid.columns)) (λ t. AllByRecursion (λ d. is_said whole t.row d ≡ true) t.grid.columns) p
        (each_both (λ t. AllByRecursion (λ q. 0 < q) (map column_row t.grid.columns)) (λ t. IsAscending (map column_row t.grid.columns)) p good.columns_from_one good.columns_ascend) all_said)))

    as_many : nat_eq (length (grid_at whole columns_id).rows) (column_count whole (plain_ids whole)) ≡ true
    as_many =
        eq-eqb (length (grid_at whole columns_id).rows) (column_count whole (plain_ids whole))
        (ap (λ g. length g.rows) (columns_part r u p)
        ∙ sym (length-total (map described_row (in_order (all_columns p))))
        ∙ total-described (λ _. 1) p good.once
        ∙ sym (counted p grids.1.1.1.1))

    all_agrees : agrees whole ≡ true
    all_agrees = both_true _ _ (both_true _ _ (both_true _ _ (both_true _ _ tables_first columns_second) resources_third) rules_fourth) (both_true _ _ tables_all as_many)

    rows_told : HasToldRows whole
    rows_told = ap (λ rows. 0 ∷ 0 ∷ 0 ∷ 0 ∷ rows) (sym (ap (λ g. g.rows) (tables_part r u p)))

pub whole_agrees : (s : Document) → IsWhole s → (agrees s ≡ true) × HasToldRows s
whole_agrees s whole =
    let same : s ≡ with_schema (resources s) (rules s) (plain_tables s) = whole.agrees.schema in
    let good : IsGood (resources s) (rules s) (plain_tables s) = good_from s whole in
    let w : IsWhole (with_schema (resources s) (rules s) (plain_tables s)) = subst IsWhole same whole in
    subst (λ s. (agrees s ≡ true) × HasToldRows s) (sym same) (all_agrees (resources s) (rules s) (plain_tables s) w good, rows_told (resources s) (rules s) (plain_tables s) w good)
