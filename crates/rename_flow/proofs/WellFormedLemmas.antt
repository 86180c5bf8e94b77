-- What holds of each planned action, and that each is well formed.
use Rattle.std.proofs.Common.{◌≡◌, ◌∙◌, ap, refl, sym, ℕ, ℤ, ◌+◌, Bool, true, false, cond, codes, List, [], ◌∷◌, ◌++◌, length, length-append, Option, Some, None, Result, Ok, Err, IfOk, arith}
use Rattle.std.specs.Prelude.{filter}
use Rattle.std.specs.List.{AllByRecursion, list_all}
use Rattle.std.proofs.lemmas.Bool.{and_from}
use Rattle.std.proofs.lemmas.List.Folds.{list_all-append}
use Rattle.cell_types.specs.declared.value.CellValue.{CellValue}
use Rattle.doc_model.specs.declared.user_action.UserAction.{UserAction}
use Rattle.doc_model.specs.declared.user_action.UserAction.TheVariants.{ModifyColumn, RenameColumn}
use Rattle.doc_model.specs.declared.user_action.UserCol.{UserCol}
use Rattle.doc_model.specs.declared.view.ViewCol.{ViewCol}
use Rattle.doc_model.specs.declared.view.ViewTable.{ViewTable}
use Rattle.doc_model.specs.WellFormed.{is_well_formed}
use Rattle.rename_marks.specs.declared.column_rename.ColumnRename.{ColumnRename}
use Rattle.rename_flow.specs.declared.column_parts.Place.TheVariants as place
use Rattle.rename_flow.specs.declared.rename_plan.RenamePlan.{RenamePlan}
use Rattle.rename_flow.specs.declared.row_changes.RowChanges.{RowChanges}
use Rattle.rename_flow.specs.declared.text_change.TextChange.{TextChange}
use Rattle.rename_flow.specs.ColumnParts.{column_parts, is_at, modified, parts_at, parts_each, table_parts}
use Rattle.rename_flow.specs.Parts.{Part, with_part, with_parts}
use Rattle.rename_flow.specs.Plan.{bare_plan, is_shown, name_parts, plan_of, rule_parts, whole_plan}
use Rattle.rename_flow.specs.RuleParts.{attribute_changed, formula_changed, no_changes, rows_part, update_of, updated, with_change, with_changes, with_row}
use Rattle.rename_flow.specs.ShownRows.{ShownRow}
use Rattle.rename_flow.specs.ShownRules.{abouts_in, attributes_in, resource_rows, rule_rows}

-- ---- rows: as many texts as rows

abbrev pub AreEven : RowChanges → Type 0
AreEven g = length g.texts ≡ length g.rows

row_even : (g : RowChanges) (r : ℕ) (o : Option (List ℕ)) → AreEven g → AreEven (with_row g r o)
row_even g r None h = h
row_even g r (Some text) h = length-append g.texts _ ∙ ap (λ (n : ℕ). n + 1) h ∙ sym (length-append g.rows _)

change_even : (g : RowChanges) (r : ℕ) (c : TextChange) → AreEven g → AreEven (with_change g r c)
unfolding with_change
change_even g r c h = row_even _ r c.text h

changes_even : (f : List ViewCol → List CellValue → TextChange) (g : RowChanges) (ws : List ShownRow) → AreEven g → AreEven (with_changes f g ws)
changes_even f g [] h = h
changes_even f g (w ∷ ws) h = changes_even f (with_change g w.row (f w.columns w.cells)) ws (change_even g w.row (f w.columns w.cells) h)

pub update_well_formed : (column : List ℕ) (g : RowChanges) → AreEven g → is_well_formed (update_of column g) ≡ true
update_well_formed column g h = grind (arith, h)

-- ---- what holds of a rename, of each new formula and of each update of rules holds of a plan

module _ (holds : UserAction → Bool)
    (renames : (table old new : List ℕ) → holds (RenameColumn table old new) ≡ true)
    (modifies : (table : List ℕ) (column : UserCol) → holds (ModifyColumn table column) ≡ true)
    (updates : (column : List ℕ) (g : RowChanges) → AreEven g → holds (update_of column g) ≡ true) where
  abbrev AreGood : List UserAction → Type 0
  AreGood as' = list_all holds as' ≡ true

  abbrev IsGood : Part → Type 0
  IsGood q = AreGood q.actions

  one_good : (a : UserAction) → holds a ≡ true → AreGood (a ∷ [])
  one_good a h = and_from (holds a) true h refl

  both_good : (as' bs : List UserAction) → AreGood as' → AreGood bs → AreGood (as' ++ bs)
  both_good as' bs h i = list_all-append holds as' bs ∙ and_from (list_all holds as') (list_all holds bs) h i

  part_good : (p : RenamePlan) (q : Part) → AreGood p.actions → IsGood q → AreGood (with_part p q).actions
  unfolding with_part
  part_good p q h i = both_good p.actions q.actions h i

  parts_good : (p : RenamePlan) (qs : List Part) → AreGood p.actions → AllByRecursion IsGood qs → AreGood (with_parts p qs).actions
  parts_good p [] h i = h
  parts_good p (q ∷ qs) h i = parts_good (with_part p q) qs (part_good p q h i.0) i.1

  all_parts : (ps qs : List Part) → AllByRecursion IsGood ps → AllByRecursion IsGood qs → AllByRecursion IsGood (ps ++ qs)
  all_parts [] qs h i = i
  all_parts (p ∷ ps) qs h i = (h.0, all_parts ps qs h.1 i)

  -- columns

  modified_good : (r : ColumnRename) (w : ViewTable) (d : ViewCol) (o : Option (List ℕ)) → AreGood (modified r w d o)
  modified_good r w d None = refl
  modified_good r w d (Some text) = one_good _ (modifies w.id _)

  each_good : (v : List ViewTable) (r : ColumnRename) (w : ViewTable) (ds : List ViewCol) → AllByRecursion IsGood (parts_each v r w ds)
  each_good v r w [] = tt
  each_good v r w (d ∷ ds) = (modified_good r w d _, (refl, each_good v r w ds))

  table_good : (v : List ViewTable) (r : ColumnRename) (w : ViewTable) → AllByRecursion IsGood (table_parts v r w)
  table_good v r w =
      all_parts (parts_at v r w place.Before) (parts_at v r w place.Renamed ++ parts_at v r w place.Behind) (each_good v r w (filter (is_at r w place.Before) w.columns))
      (all_parts (parts_at v r w place.Renamed) (parts_at v r w place.Behind) (each_good v r w (filter (is_at r w place.Renamed) w.columns)) (each_good v r w (filter (is_at r w place.Behind) w.columns)))

  columns_good : (v : List ViewTable) (r : ColumnRename) (ws : List ViewTable) → AllByRecursion IsGood (column_parts v r ws)
  columns_good v r [] = tt
  columns_good v r (w ∷ ws) = all_parts (table_parts v r w) (column_parts v r ws) (table_good v r w) (columns_good v r ws)

  -- rows

  updated_good : (column : List ℕ) (g : RowChanges) → AreEven g → AreGood (updated column g)
  updated_good column g h = by g.rows
    where
      by : (rows : List ℤ) → AreGood (elim rows [ [] ↦ [] | r ∷ rs ↦ update_of column g ∷ [] ])
      by [] = refl
      by (r ∷ rows) = one_good (update_of column g) (updates column g h)

  gathered_good : (column : List ℕ) (f : List ViewCol → List CellValue → TextChange) (ws : List ShownRow) → IsGood (rows_part column (with_changes f no_changes ws))
  gathered_good column f ws = updated_good column (with_changes f no_changes ws) (changes_even f no_changes ws refl)

  rules_good : (v : List ViewTable) (r : ColumnRename) → AllByRecursion IsGood (rule_parts v r)
  rules_good v r = (
    gathered_good (codes "aclFormula") (formula_changed r (abouts_in (resource_rows v)) (attributes_in (rule_rows v))) (rule_rows v),
    (gathered_good (codes "userAttributes") (attribute_changed r) (rule_rows v), (refl, tt)),
  )

  -- the whole

  bare_good : (r : ColumnRename) → AreGood (bare_plan r).actions
  bare_good r = one_good _ (renames r.table r.old r.new)

  whole_good : (v : List ViewTable) (r : ColumnRename) → AreGood (whole_plan v r).actions
  whole_good v r =
      parts_good (bare_plan r) (column_parts v r v ++ (rule_parts v r ++ name_parts v r)) (bare_good r)
      (all_parts (column_parts v r v) (rule_parts v r ++ name_parts v r) (columns_good v r v) (all_parts (rule_parts v r) (name_parts v r) (rules_good v r) (refl, (refl, (refl, tt)))))

  pub plan_all : (v : List ViewTable) (r : ColumnRename) → list_all holds (plan_of v r).actions ≡ true
  plan_all v r = by (is_shown v r.table r.old)
    where
      by : (b : Bool) → AreGood (cond b (whole_plan v r) (bare_plan r)).actions
      by true = whole_good v r
      by false = bare_good r

pub plan_well_formed : {E : Type 0} (v : List ViewTable) (r : ColumnRename) (x : Result RenamePlan E) → IfOk x (λ p. p ≡ plan_of v r) → IfOk x (λ p. list_all is_well_formed p.actions ≡ true)
plan_well_formed v r (Ok p) e =
    ap (λ (q : RenamePlan). list_all is_well_formed q.actions) e
    ∙ plan_all is_well_formed (λ table old new. refl) (λ table column. refl) update_well_formed v r
plan_well_formed v r (Err e) h = tt
