-- The plan of a rename does not see rows of other tables than those of rules.
use Rattle.std.proofs.Common.{◌≡◌, ◌∙◌, ap, refl, ℕ, Bool, true, false, cond, List, [], ◌∷◌, ◌++◌, map, Option, Some, None, option_map}
use Rattle.std.specs.Prelude.{bytes_eq, filter, is_some}
use Rattle.std.specs.List.{AllByRecursion}
use Rattle.std.proofs.lemmas.Bool.{or_left, or_right}
use Rattle.std.proofs.lemmas.Slice.Eq.{bytes_eq-Decides}
use Rattle.cell_types.specs.declared.value.CellValue.{CellValue}
use Rattle.doc_model.specs.declared.view.ViewCol.{ViewCol}
use Rattle.doc_model.specs.declared.view.ViewTable.{ViewTable}
use Rattle.doc_model.specs.ByIds.{find_id}
use Rattle.doc_model.specs.Changes.{shown_table_id}
use Rattle.doc_model.specs.MetadataIds.{is_acl_id, resources_id, rules_id}
use Rattle.doc_model.specs.ViewEdits.{shown_id}
use Rattle.doc_model.proofs.ByIdsLaws.{bytes_itself}
use Rattle.formula_records.specs.Recs.{Columns}
use Rattle.formula_records.specs.ShownColumns.{as_column, columns_of, shown_column}
use Rattle.rename_marks.specs.declared.column_rename.ColumnRename.{ColumnRename}
use Rattle.rename_flow.specs.declared.column_parts.Place.TheVariants as place
use Rattle.rename_flow.specs.ColumnParts.{column_parts, is_at, modified, parts_each, table_parts, type_part}
use Rattle.rename_flow.specs.Changes.{formula_change}
use Rattle.rename_flow.specs.Parts.{Part, count_where, with_parts}
use Rattle.rename_flow.specs.Plan.{bare_plan, is_shown, is_table_word, plan_of, rule_parts, whole_plan}
use Rattle.rename_flow.specs.PlanLaw.{with_rows}
use Rattle.rename_flow.specs.RuleParts.{attributes_part, formulas_part, resources_part}
use Rattle.rename_flow.specs.ShownRows.{ShownRow, rows_in}
use Rattle.rename_flow.specs.ShownRules.{abouts_in, attributes_in, resource_rows, rule_rows}
use Rattle.rename_marks.specs.Scope.{in_column}

module _ (rows : ViewTable → List ℕ) (cells : ViewTable → List (List CellValue)) where
  abbrev other : ViewTable → ViewTable
  other w = with_rows rows cells w

  -- ---- columns

  found_same : (v : List ViewTable) (t n : List ℕ) → shown_column (map other v) t n ≡ shown_column v t n
  found_same [] t n = refl
  found_same (w ∷ ws) t n =
      elim (bytes_eq w.id t) as (λ b. (elim (cond b (Some (other w)) (find_id shown_table_id t (map other ws))) as (λ _. Option ViewCol) [
        | None ↦ None
        | Some u ↦ find_id shown_id n u.columns
      ]) ≡ (elim (cond b (Some w) (find_id shown_table_id t ws)) as (λ _. Option ViewCol) [
        | None ↦ None
        | Some u ↦ find_id shown_id n u.columns
      ])) [
        | true ↦ refl
        | false ↦ found_same ws t n
      ]

  columns_same : (v : List ViewTable) → ◌≡◌ {A = Columns} (columns_of (map other v)) (columns_of v)
  columns_same v = λ j t n. option_map as_column (found_same v t n j)

  each_same : (v : List ViewTable) (r : ColumnRename) (w : ViewTable) (ds : List ViewCol) → parts_each v r (other w) ds ≡ parts_each v r w ds
  each_same v r w [] = refl
  each_same v r w (d ∷ ds) =
      let first : Part = record {
        actions = modified r w d (formula_change r (in_column (columns_of v) w.id) d.formula).text;
        unresolved = (formula_change r (in_column (columns_of v) w.id) d.formula).unresolved;
      } in
      ap (λ qs. first ∷ (type_part w d ∷ qs)) (each_same v r w ds)

  each_told : (v : List ViewTable) (r : ColumnRename) (w : ViewTable) (ds : List ViewCol) → parts_each (map other v) r w ds ≡ parts_each v r w ds
  each_told v r w [] = refl
  each_told v r w (d ∷ ds) =
      let f : Columns → Part = λ k. record {
        actions = modified r w d (formula_change r (in_column k w.id) d.formula).text;
        unresolved = (formula_change r (in_column k w.id) d.formula).unresolved;
      } in
      λ j. f (columns_same v j) ∷ (type_part w d ∷ each_told v r w ds j)

  one_table : (v : List ViewTable) (r : ColumnRename) (w : ViewTable) → table_parts (map other v) r (other w) ≡ table_parts v r w
  one_table v r w =
      let at = λ (ds : List ViewCol). each_same (map other v) r w ds ∙ each_told v r w ds in
      λ j. at (filter (is_at r w place.Before) w.columns) j ++ (at (filter (is_at r w place.Renamed) w.columns) j ++ at (filter (is_at r w place.Behind) w.columns) j)

  all_tables : (v : List ViewTable) (r : ColumnRename) (ws : List ViewTable) → column_parts (map other v) r (map other ws) ≡ column_parts v r ws
  all_tables v r [] = refl
  all_tables v r (w ∷ ws) = λ j. one_table v r w j ++ all_tables v r ws j

  -- ---- rules

  abbrev Stays : ViewTable → Type 0
  Stays w = is_acl_id w.id ≡ true → other w ≡ w

  rows_same : (v : List ViewTable) (t : List ℕ) → is_acl_id t ≡ true → AllByRecursion Stays v → rows_in (find_id shown_table_id t (map other v)) ≡ rows_in (find_id shown_table_id t v)
  rows_same [] t acl stays = refl
  rows_same (w ∷ ws) t acl stays =
      elim (bytes_eq w.id t) as (λ b. bytes_eq w.id t ≡ b → rows_in (cond b (Some (other w)) (find_id shown_table_id t (map other ws))) ≡ rows_in (cond b (Some w) (find_id shown_table_id t ws))) [
        | true ↦ λ is. ap (λ u. rows_in (Some u)) (stays.0 (ap is_acl_id ((bytes_eq-Decides w.id t).0 is) ∙ acl))
        | false ↦ λ isnt. rows_same ws t acl stays.1
      ] refl

  -- ---- the whole

  module _ (v : List ViewTable) (r : ColumnRename) (stays : AllByRecursion Stays v) where
    resources_same : resource_rows (map other v) ≡ resource_rows v
    resources_same = rows_same v resources_id (or_left (bytes_eq resources_id resources_id) (bytes_eq rules_id resources_id) (bytes_itself resources_id)) stays

    rules_same : rule_rows (map other v) ≡ rule_rows v
    rules_same = rows_same v rules_id (or_right (bytes_eq resources_id rules_id) (bytes_eq rules_id rules_id) (bytes_itself rules_id)) stays

    rule_parts_same : rule_parts (map other v) r ≡ rule_parts v r
    rule_parts_same =
        let f : List ShownRow → List ShownRow → List Part = λ qs rs.
        formulas_part r (abouts_in qs) (attributes_in rs) rs ∷ (attributes_part r rs ∷ (resources_part r qs ∷ [])) in
        λ j. f (resources_same j) (rules_same j)

    shown_same : (t n : List ℕ) → is_shown (map other v) t n ≡ is_shown v t n
    shown_same t n = ap is_some (found_same v t n)

    whole_same : whole_plan (map other v) r ≡ whole_plan v r
    whole_same =
        let names : Bool → List Part = λ b. count_where b ∷ (count_where (is_table_word r.old) ∷ (count_where (is_table_word r.new) ∷ [])) in
        λ j. with_parts (bare_plan r) (all_tables v r v j ++ (rule_parts_same j ++ names (shown_same r.table r.new j)))

    pub plan_same : plan_of (map other v) r ≡ plan_of v r
    plan_same = λ j. cond (shown_same r.table r.old j) (whole_same j) (bare_plan r)
