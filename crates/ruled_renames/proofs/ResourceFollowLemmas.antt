-- Resources of rules say a column by its new name.
use Rattle.std.proofs.Common.{◌≡◌, ◌∙◌, ap, arith, refl, subst, sym, ℕ, ◌+◌, Bool, true, false, cond, ◌&&◌, ◌||◌, nat_eq, List, [], ◌∷◌, codes, Option, Some, None, option_map, bytes_eq}
use Rattle.std.specs.List.{AllByRecursion, list_any}
use Rattle.std.specs.Str.{IsUtf8}
use Rattle.std.proofs.lemmas.Bool.{eqb-true, false≢true, or_parts}
use Rattle.std.proofs.lemmas.Slice.Eq.{bytes_eq-Decides}
use Rattle.cell_types.specs.declared.value.CellValue.{CellValue}
use Rattle.cell_types.specs.declared.value.CellValue.TheVariants as value
use Rattle.cell_types.specs.NameRule.{is_name}
use Rattle.doc_model.specs.declared.view.ViewCol.{ViewCol}
use Rattle.doc_model.specs.Rows.{IsAscending, has}
use Rattle.doc_model.proofs.RowsLaws.{has_below}
use Rattle.acl_rules.specs.declared.resource.Columns.{Columns}
use Rattle.acl_rules.specs.declared.resource.Columns.TheVariants as columns
use Rattle.acl_rules.specs.declared.resource.Resource.{Resource}
use Rattle.acl_rules.specs.declared.resource.Resource.TheVariants as resource
use Rattle.acl_rules.specs.Carried.{moved, moved_columns}
use Rattle.acl_rules.specs.Loaded.{resource_from, text_in}
use Rattle.acl_rules.specs.RuleTexts.{columns_of, resource_of}
use Rattle.formula_records.specs.declared.tables.RecordTables.{RecordTables}
use Rattle.rename_flow.specs.declared.shown_rules.RuleAbout.{RuleAbout}
use Rattle.rename_flow.specs.RuleParts.{claims}
use Rattle.rename_flow.specs.ShownRows.{ShownRow}
use Rattle.rename_flow.specs.ShownRules.{about_at, about_before, abouts_in, claims_new, resource_shown, tables_in}
use Rattle.rename_marks.specs.declared.column_rename.ColumnRename.{ColumnRename}
use Rattle.rename_marks.specs.Noted.{capped}
use Rattle.renamed_documents.specs.RenamingSteps.{naming}
use Rattle.renamed_resources.specs.NameLists.{names_of}
use Rattle.renamed_resources.specs.Renamed.{columns_renamed, list_renamed, names_table}
use Rattle.renamed_rules.specs.RenamedRules.{ListsKept}
use Rattle.renamed_values.specs.SameEv.{IsKept}
use Rattle.ruled_renames.specs.ListLaw.{RenamedListLaw}
use Rattle.ruled_renames.proofs.NameTexts.{empty_no_name, star_no_name}
use Rattle.ruled_renames.proofs.ShownRowLemmas.{cells_of_row, zipped}

-- ---- what two cells say

module _ (lists : RenamedListLaw) (m : ColumnRename) (named : is_name m.new ≡ true) (new_is_utf8 : IsUtf8 m.new) (table_named : is_name m.table ≡ true) where
  abbrev move : Option Resource → Option Resource
  move o = option_map (moved (naming m)) o

  -- a resource of another table stays
  other_stays : (t u : List ℕ) → bytes_eq t m.table ≡ false → resource_of t u ≡ move (resource_of t u)
  other_stays t u e = by (bytes_eq t (codes "*")) (bytes_eq u (codes "*")) (is_name t) (columns_of u)
    where
      by : (a b n : Bool) (o : Option Columns)
          → cond a (cond b (Some resource.Document) None) (cond n (option_map (resource.Table t) o) None) ≡ move (cond a (cond b (Some resource.Document) None) (cond n (option_map (resource.Table t) o) None))
      by true true n o = refl
      by true false n o = refl
      by false b true None = refl
      by false b true (Some cs) = ap (λ x. Some (resource.Table t (cond x (moved_columns m.old m.new cs) cs))) (sym e)
      by false b false o = refl

  own_star : (t : List ℕ) → bytes_eq t m.table ≡ true → bytes_eq t (codes "*") ≡ false
  own_star t e = by (bytes_eq t (codes "*")) refl
    where
      by : (b : Bool) → bytes_eq t (codes "*") ≡ b → bytes_eq t (codes "*") ≡ false
      by true f = absurd (false≢true (sym star_no_name ∙ ap is_name (sym ((bytes_eq-Decides t (codes "*")).0 f) ∙ (bytes_eq-Decides t m.table).0 e) ∙ table_named))
      by false f = f

  -- one of the renamed table says its columns by the new name
  own_resource : (t u : List ℕ) → bytes_eq t m.table ≡ true → resource_of t u ≡ option_map (resource.Table t) (columns_of u)
  own_resource t u e =
      ap (λ b. cond b (cond (bytes_eq u (codes "*")) (Some resource.Document) None) (cond (is_name t) (option_map (resource.Table t) (columns_of u)) None)) (own_star t e)
      ∙ ap (λ b. cond b (option_map (resource.Table t) (columns_of u)) None) (ap is_name ((bytes_eq-Decides t m.table).0 e) ∙ table_named)

  own_moves : (t : List ℕ) → bytes_eq t m.table ≡ true → (o : Option Columns) → option_map (resource.Table t) (option_map (moved_columns m.old m.new) o) ≡ move (option_map (resource.Table t) o)
  own_moves t e None = refl
  own_moves t e (Some cs) = ap (λ x. Some (resource.Table t (cond x (moved_columns m.old m.new cs) cs))) (sym e)

  -- no columns are said by an empty text
  none_empty : columns_of [] ≡ None
  none_empty = ap (λ b. cond (b && true) (Some (columns.These ([] ∷ []))) None) empty_no_name

  own_follows : (t : List ℕ) → bytes_eq t m.table ≡ true → (x : CellValue) → ((u : List ℕ) → x ≡ value.Text u → IsUtf8 u)
      → resource_from (Some t) (text_in (Some (columns_renamed m.old m.new x))) ≡ move (resource_from (Some t) (text_in (Some x)))
  own_follows t e (value.Text u) utf8 =
      own_resource t (list_renamed m.old m.new u (names_of u)) e
      ∙ ap (option_map (resource.Table t)) (lists m.old m.new u named new_is_utf8 (utf8 u refl))
      ∙ own_moves t e (columns_of u)
      ∙ ap move (sym (own_resource t u e))
  own_follows t e value.Null utf8 = none ∙ ap move (sym none)
    where
      none : resource_of t [] ≡ None
      none = own_resource t [] e ∙ ap (option_map (resource.Table t)) none_empty
  own_follows t e (value.Int n) utf8 = refl
  own_follows t e (value.Bool b) utf8 = refl
  own_follows t e (value.Date n) utf8 = refl
  own_follows t e (value.Rec r) utf8 = refl
  own_follows t e (value.RecSet r) utf8 = refl
  own_follows t e (value.List is) utf8 = refl
  own_follows t e (value.Err k) utf8 = refl
  own_follows t e value.Censored utf8 = refl

  other_follows : (t : List ℕ) → bytes_eq t m.table ≡ false → (o : Option (List ℕ)) → resource_from (Some t) o ≡ move (resource_from (Some t) o)
  other_follows t e None = refl
  other_follows t e (Some u) = other_stays t u e

  -- nor is a table said by one
  none_told : (o : Option (List ℕ)) → resource_from (Some []) o ≡ move (resource_from (Some []) o)
  none_told None = refl
  none_told (Some u) = none ∙ ap move (sym none)
    where
      none : resource_of [] u ≡ None
      none = ap (λ b. cond b (option_map (resource.Table []) (columns_of u)) None) empty_no_name

  -- a resource after its columns are said by the new name, where it is of the renamed table
  pub resource_follows : (t x : CellValue) → ((u : List ℕ) → x ≡ value.Text u → IsUtf8 u)
      → resource_from (text_in (Some t)) (text_in (Some (cond (names_table m.table t) (columns_renamed m.old m.new x) x))) ≡ move (resource_from (text_in (Some t)) (text_in (Some x)))
  resource_follows (value.Text t) x utf8 = by (bytes_eq t m.table) refl
    where
      by : (b : Bool) → bytes_eq t m.table ≡ b → resource_from (Some t) (text_in (Some (cond b (columns_renamed m.old m.new x) x))) ≡ move (resource_from (Some t) (text_in (Some x)))
      by true e = own_follows t e x utf8
      by false e = other_follows t e (text_in (Some x))
  resource_follows value.Null x utf8 = none_told (text_in (Some x))
  resource_follows (value.Int n) x utf8 = refl
  resource_follows (value.Bool b) x utf8 = refl
  resource_follows (value.Date n) x utf8 = refl
  resource_follows (value.Rec r) x utf8 = refl
  resource_follows (value.RecSet r) x utf8 = refl
  resource_follows (value.List is) x utf8 = refl
  resource_follows (value.Err k) x utf8 = refl
  resource_follows value.Censored x utf8 = refl

-- ---- what rules are about

about_first : (r q : ℕ) (o : Option Resource) (as' : List RuleAbout) → about_at (about_before r o as') q ≡ cond (nat_eq r q) (elim o [ None ↦ about_at as' q | Some x ↦ Some (tables_in x) ]) (about_at as' q)
about_first r q None as' = elim (nat_eq r q) as (λ b. about_at as' q ≡ cond b (about_at as' q) (about_at as' q)) [ true ↦ refl | false ↦ refl ]
about_first r q (Some x) as' = refl

about_absent : (ds : List ViewCol) (rows : List ℕ) (css : List (List CellValue)) (q : ℕ) → has rows q ≡ false → about_at (abouts_in (zipped ds rows css)) q ≡ None
about_absent ds [] css q h = refl
about_absent ds (r ∷ rows) [] q h = about_first r q (resource_shown ds []) (abouts_in (zipped ds rows [])) ∙ by (nat_eq r q) h (about_absent ds rows [] q)
  where
    by : (b : Bool) → (b || has rows q) ≡ false → (has rows q ≡ false → about_at (abouts_in (zipped ds rows [])) q ≡ None)
        → cond b (elim (resource_shown ds []) [ None ↦ about_at (abouts_in (zipped ds rows [])) q | Some x ↦ Some (tables_in x) ]) (about_at (abouts_in (zipped ds rows [])) q) ≡ None
    by true h later = absurd (false≢true (sym h))
    by false h later = later h
about_absent ds (r ∷ rows) (vs ∷ css) q h = about_first r q (resource_shown ds vs) (abouts_in (zipped ds rows css)) ∙ by (nat_eq r q) h (about_absent ds rows css q)
  where
    by : (b : Bool) → (b || has rows q) ≡ false → (has rows q ≡ false → about_at (abouts_in (zipped ds rows css)) q ≡ None)
        → cond b (elim (resource_shown ds vs) [ None ↦ about_at (abouts_in (zipped ds rows css)) q | Some x ↦ Some (tables_in x) ]) (about_at (abouts_in (zipped ds rows css)) q) ≡ None
    by true h later = absurd (false≢true (sym h))
    by false h later = later h

no_cells : (rows : List ℕ) (r : ℕ) → cells_of_row rows [] r ≡ []
no_cells [] r = refl
no_cells (q ∷ rows) r = refl

pub about_row : (ds : List ViewCol) (rows : List ℕ) (css : List (List CellValue)) (q : ℕ) → IsAscending rows → has rows q ≡ true
    → about_at (abouts_in (zipped ds rows css)) q ≡ option_map tables_in (resource_shown ds (cells_of_row rows css q))
about_row ds [] css q up there = absurd (false≢true there)
about_row ds (r ∷ rows) [] q up there = about_first r q (resource_shown ds []) (abouts_in (zipped ds rows [])) ∙ by (nat_eq r q) refl there (about_row ds rows [] q up.1)
  where
    last : (o : Option Resource) → about_at (abouts_in (zipped ds rows [])) q ≡ None → elim o as (λ _. Option RecordTables) [ None ↦ about_at (abouts_in (zipped ds rows [])) q | Some x ↦ Some (tables_in x) ] ≡ option_map tables_in o
    last None e = e
    last (Some x) e = refl

    by : (b : Bool) → nat_eq r q ≡ b → (b || has rows q) ≡ true → (has rows q ≡ true → about_at (abouts_in (zipped ds rows [])) q ≡ option_map tables_in (resource_shown ds (cells_of_row rows [] q)))
        → cond b (elim (resource_shown ds []) [ None ↦ about_at (abouts_in (zipped ds rows [])) q | Some x ↦ Some (tables_in x) ]) (about_at (abouts_in (zipped ds rows [])) q) ≡ option_map tables_in (resource_shown ds [])
    by true e there later = last (resource_shown ds []) (about_absent ds rows [] q (subst (λ (x : ℕ). has rows x ≡ false) (eqb-true r q e) (has_below r rows up.0)))
    by false e there later = later there ∙ ap (λ vs. option_map tables_in (resource_shown ds vs)) (no_cells rows q)
about_row ds (r ∷ rows) (vs ∷ css) q up there = about_first r q (resource_shown ds vs) (abouts_in (zipped ds rows css)) ∙ by (nat_eq r q) refl there (about_row ds rows css q up.1)
  where
    last : (o : Option Resource) → about_at (abouts_in (zipped ds rows css)) q ≡ None → elim o as (λ _. Option RecordTables) [ None ↦ about_at (abouts_in (zipped ds rows css)) q | Some x ↦ Some (tables_in x) ] ≡ option_map tables_in o
    last None e = e
    last (Some x) e = refl

    by : (b : Bool) → nat_eq r q ≡ b → (b || has rows q) ≡ true → (has rows q ≡ true → about_at (abouts_in (zipped ds rows css)) q ≡ option_map tables_in (resource_shown ds (cells_of_row rows css q)))
        → cond b (elim (resource_shown ds vs) [ None ↦ about_at (abouts_in (zipped ds rows css)) q | Some x ↦ Some (tables_in x) ]) (about_at (abouts_in (zipped ds rows css)) q) ≡ option_map tables_in (resource_shown ds (cond b vs (cells_of_row rows css q)))
    by true e there later = last (resource_shown ds vs) (about_absent ds rows css q (subst (λ (x : ℕ). has rows x ≡ false) (eqb-true r q e) (has_below r rows up.0)))
    by false e there later = later there

pub about_none : (ds : List ViewCol) (rows : List ℕ) (css : List (List CellValue)) (q : ℕ) → has rows q ≡ false → about_at (abouts_in (zipped ds rows css)) q ≡ None
about_none = about_absent

-- ---- resources that name the new column

module _ (m : ColumnRename) where
  claimed_none : (n : ℕ) (ws : List ShownRow) → claims m n ws ≡ 0 → (n ≡ 0) × AllByRecursion (λ (w : ShownRow). claims_new m (resource_shown w.columns w.cells) ≡ false) ws
  claimed_none n [] h = (h, tt)
  claimed_none n (w ∷ ws) h = by (claims_new m (resource_shown w.columns w.cells)) refl (claimed_none (cond (claims_new m (resource_shown w.columns w.cells)) (capped (n + 1)) n) ws h)
    where
      never : (n : ℕ) → capped (n + 1) ≡ 0 → ⊥
      never n h = omega arith

      by : (b : Bool) → claims_new m (resource_shown w.columns w.cells) ≡ b
          → (cond (claims_new m (resource_shown w.columns w.cells)) (capped (n + 1)) n ≡ 0) × AllByRecursion (λ (w : ShownRow). claims_new m (resource_shown w.columns w.cells) ≡ false) ws
          → (n ≡ 0) × ((claims_new m (resource_shown w.columns w.cells) ≡ false) × AllByRecursion (λ (w : ShownRow). claims_new m (resource_shown w.columns w.cells) ≡ false) ws)
      by true e later = absurd (never n (ap (λ b. cond b (capped (n + 1)) n) (sym e) ∙ later.0))
      by false e later = (ap (λ b. cond b (capped (n + 1)) n) (sym e) ∙ later.0, (e, later.1))

  pub none_claim : (ws : List ShownRow) → claims m 0 ws ≡ 0 → AllByRecursion (λ (w : ShownRow). claims_new m (resource_shown w.columns w.cells) ≡ false) ws
  none_claim ws h = (claimed_none 0 ws h).1

  each_kept : (id : List ℕ) (cs : List (List ℕ)) → (bytes_eq id m.table && list_any (λ d. bytes_eq d m.new) cs) ≡ false → AllByRecursion (IsKept m id) cs
  each_kept id [] h = tt
  each_kept id (c ∷ cs) h = by (bytes_eq id m.table) refl h (each_kept id cs)
    where
      by : (b : Bool) → bytes_eq id m.table ≡ b → (b && (bytes_eq c m.new || list_any (λ d. bytes_eq d m.new) cs)) ≡ false
          → ((bytes_eq id m.table && list_any (λ d. bytes_eq d m.new) cs) ≡ false → AllByRecursion (IsKept m id) cs)
          → IsKept m id c × AllByRecursion (IsKept m id) cs
      by true e h later =
          let p = or_parts (bytes_eq c m.new) (list_any (λ d. bytes_eq d m.new) cs) h in
          (ap (λ b. b && bytes_eq c m.new) e ∙ p.0, later (ap (λ b. b && list_any (λ d. bytes_eq d m.new) cs) e ∙ p.1))
      by false e h later = (ap (λ b. b && bytes_eq c m.new) e, later (ap (λ b. b && list_any (λ d. bytes_eq d m.new) cs) e))

  pub lists_kept : (q : Option Resource) → claims_new m q ≡ false → ListsKept m q
  lists_kept None h = tt
  lists_kept (Some resource.Document) h = tt
  lists_kept (Some (resource.Table id columns.All)) h = tt
  lists_kept (Some (resource.Table id (columns.These cs))) h = each_kept id cs h
