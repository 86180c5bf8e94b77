-- Documents without formula columns: what an action leaves of that, and what they hold.
use Rattle.std.proofs.Common.{ℕ, Bool, true, false, cond, ◌||◌, ◌&&◌, List, [], ◌∷◌, drop, slice_get, ◌≡◌, suc, zero, refl, sym, ap, ◌∙◌, Option, Some, None}
use Rattle.std.proofs.lemmas.Bool.{or_parts}
use Rattle.std.specs.List.{AllByRecursion, list_any}
use Rattle.std.specs.Option.{option_map, is_some}
use Rattle.cell_types.specs.declared.value.CellValue.{CellValue}
use Rattle.doc_model.specs.declared.action.DocAction.{DocAction}
use Rattle.doc_model.specs.declared.action.DocAction.TheVariants.{BulkAdd, BulkUpdate, BulkRemove, AddTable, RemoveTable, RenameTable, AddColumn, RemoveColumn, RenameColumn, ModifyColumn}
use Rattle.doc_model.specs.declared.column.ColDef.{ColDef}
use Rattle.doc_model.specs.Apply.{effect, new_table, add_column, remove_column, with_column, with_name, with_info, with_plain}
use Rattle.doc_model.specs.ByIds.{find_id, has_id, with_id, without_id}
use Rattle.doc_model.specs.Column.{column_id, column_row, start_of}
use Rattle.doc_model.specs.Document.{Table, Document, table_id, table_row, on_grid, renamed, put_by_row, by_row}
use Rattle.doc_model.specs.Grid.{cell}
use Rattle.doc_model.specs.Readers.{cell_at}
use Rattle.doc_model.specs.Records.{add_rows, update_rows, remove_rows}
use Rattle.doc_model.specs.Rows.{has}
use Rattle.doc_model.specs.Schema.{resources, rules, plain_tables}
use Rattle.doc_model.specs.Valid.{valid}
use Rattle.doc_model.proofs.Choices.{each_filter}
use Rattle.doc_model.proofs.ByIdsLaws.{found_id, found_all, has_id-find, has_found}
use Rattle.doc_model.proofs.ByRowLaws.{each_put, each_by_row, each_with_id}
use Rattle.recalc.specs.Current.{has_formula, has_formulas, brings_formula, StaysPlainLaw}
use Rattle.recalc.specs.Evaluated.{filled_by}
use Rattle.recalc.proofs.FilledLemmas.{filled_table, find_filled}
use Rattle.recalc.proofs.WatchedCells.{filled_data}

-- no test passes, and each fails
pub any_none : {X : Type 0} (p : X → Bool) (xs : List X) → list_any p xs ≡ false → AllByRecursion (λ x. p x ≡ false) xs
any_none p [] h = tt
any_none p (x ∷ xs) h = let two = or_parts (p x) (list_any p xs) h in (two.0, any_none p xs two.1)

pub none_any : {X : Type 0} (p : X → Bool) (xs : List X) → AllByRecursion (λ x. p x ≡ false) xs → list_any p xs ≡ false
none_any p [] h = refl
none_any p (x ∷ xs) h = ap (λ b. b || list_any p xs) h.0 ∙ none_any p xs h.1

abbrev is_computing : ColDef → Bool
is_computing d = d.info.is_formula

abbrev IsPlain : ColDef → Type 0
IsPlain d = d.info.is_formula ≡ false

abbrev IsPlainTable : Table → Type 0
IsPlainTable t = has_formula t.grid.columns ≡ false

-- ---- columns

put_column : (d : ColDef) (ds : List ColDef) → d.info.is_formula ≡ false → has_formula ds ≡ false → has_formula (put_by_row column_row d ds) ≡ false
put_column d ds p h = none_any is_computing (put_by_row column_row d ds) (each_put column_row IsPlain d ds p (any_none is_computing ds h))

sort_columns : (ds : List ColDef) → has_formula ds ≡ false → has_formula (by_row column_row ds) ≡ false
sort_columns ds h = none_any is_computing (by_row column_row ds) (each_by_row column_row IsPlain ds (any_none is_computing ds h))

drop_column : (c : List ℕ) (ds : List ColDef) → has_formula ds ≡ false → has_formula (without_id column_id c ds) ≡ false
drop_column c ds h = none_any is_computing (without_id column_id c ds) (each_filter IsPlain _ ds (any_none is_computing ds h))

change_column : (c : List ℕ) (f : ColDef → ColDef) (ds : List ColDef) → ((d : ColDef) → IsPlain d → IsPlain (f d)) → has_formula ds ≡ false → has_formula (with_id column_id c f ds) ≡ false
change_column c f ds k h = none_any is_computing (with_id column_id c f ds) (each_with_id column_id IsPlain c f ds (λ d _. k d) (any_none is_computing ds h))

-- ---- the parts of a document

resources_plain : (s : Document) → AllByRecursion IsPlainTable s → has_formula (resources s).columns ≡ false
resources_plain [] h = refl
resources_plain (a ∷ []) h = refl
resources_plain (a ∷ b ∷ []) h = refl
resources_plain (a ∷ b ∷ c ∷ s) h = h.1.1.0

rules_plain : (s : Document) → AllByRecursion IsPlainTable s → has_formula (rules s).columns ≡ false
rules_plain [] h = refl
rules_plain (a ∷ []) h = refl
rules_plain (a ∷ b ∷ []) h = refl
rules_plain (a ∷ b ∷ c ∷ []) h = refl
rules_plain (a ∷ b ∷ c ∷ d ∷ s) h = h.1.1.1.0

others_plain : (s : Document) → AllByRecursion IsPlainTable s → AllByRecursion IsPlainTable (plain_tables s)
others_plain [] h = tt
others_plain (a ∷ []) h = tt
others_plain (a ∷ b ∷ []) h = tt
others_plain (a ∷ b ∷ c ∷ []) h = tt
others_plain (a ∷ b ∷ c ∷ d ∷ s) h = h.1.1.1.1

module _ (s : Document) (h : AllByRecursion IsPlainTable s) where
  whole_plain : (plain : List Table) → AllByRecursion IsPlainTable plain → AllByRecursion IsPlainTable (with_plain s plain)
  whole_plain plain k = (refl, (refl, (resources_plain s h, (rules_plain s h, k))))

  table_changed : (id : List ℕ) (f : Table → Table) → ((t : Table) → IsPlainTable t → IsPlainTable (f t)) → AllByRecursion IsPlainTable (with_plain s (with_id table_id id f (plain_tables s)))
  table_changed id f k = whole_plain (with_id table_id id f (plain_tables s)) (each_with_id table_id IsPlainTable id f (plain_tables s) (λ t _. k t) (others_plain s h))

  effect_plain : (a : DocAction) → brings_formula a ≡ false → AllByRecursion IsPlainTable (effect s a)
  effect_plain (BulkAdd table rows ks) b = each_with_id table_id IsPlainTable table (on_grid (add_rows column_id start_of rows ks)) s (λ t _ k. k) h
  effect_plain (BulkUpdate table rows ks) b = each_with_id table_id IsPlainTable table (on_grid (update_rows column_id rows ks)) s (λ t _ k. k) h
  effect_plain (BulkRemove table rows) b = each_with_id table_id IsPlainTable table (on_grid (remove_rows column_id rows)) s (λ t _ k. k) h
  effect_plain (AddTable table row columns) b =
      whole_plain (put_by_row table_row (new_table table row columns) (plain_tables s))
      (each_put table_row IsPlainTable (new_table table row columns) (plain_tables s) (sort_columns columns b) (others_plain s h))
  effect_plain (RemoveTable table) b = whole_plain (without_id table_id table (plain_tables s)) (each_filter IsPlainTable _ (plain_tables s) (others_plain s h))
  effect_plain (RenameTable table new) b = table_changed table (renamed new) (λ t k. k)
  effect_plain (AddColumn table d) b = table_changed table (on_grid (add_column d)) (λ t k. put_column d t.grid.columns b k)
  effect_plain (RemoveColumn table column) b = table_changed table (on_grid (remove_column column)) (λ t k. drop_column column t.grid.columns k)
  effect_plain (RenameColumn table column new) b = table_changed table (on_grid (with_column column (with_name new))) (λ t k. change_column column (with_name new) t.grid.columns (λ d p. p) k)
  effect_plain (ModifyColumn table column info) b = table_changed table (on_grid (with_column column (with_info info))) (λ t k. change_column column (with_info info) t.grid.columns (λ d p. b) k)

pub stays_plain : StaysPlainLaw
stays_plain s a h b =
    elim (valid s a) as (λ v. has_formulas (cond v (effect s a) s) ≡ false) [
      | true ↦ none_any (λ (t : Table). has_formula t.grid.columns) (effect s a) (effect_plain s (any_none (λ (t : Table). has_formula t.grid.columns) s h) a b)
      | false ↦ h
    ]

-- ---- such a document is what it is with its values in place

module _ (v : List ℕ → List ℕ → ℕ → CellValue) (s : Document) (plain : has_formulas s ≡ false) (t c : List ℕ) (r : ℕ) where
  abbrev told : Option Table → Option CellValue
  told o = elim o as (λ _. Option CellValue) [ None ↦ None | Some u ↦ cond (has_id column_id u.grid.columns c && has u.grid.rows r) (Some (cell column_id u.grid c r)) None ]

  in_table : (u : Table) → has_formula u.grid.columns ≡ false → told (Some (filled_table v u)) ≡ told (Some u)
  in_table u h = by_column (find_id column_id c u.grid.columns) refl
    where
      some_cell : Bool → Option CellValue → Option CellValue
      some_cell b o = cond b o None

      by_column : (o : Option ColDef) → find_id column_id c u.grid.columns ≡ o → told (Some (filled_table v u)) ≡ told (Some u)
      by_column None e =
          let no : has_id column_id u.grid.columns c ≡ false = has_id-find column_id c u.grid.columns ∙ ap is_some e in
          ap (λ b. cond (b && has u.grid.rows r) (Some (cell column_id (filled_table v u).grid c r)) None) no
          ∙ sym (ap (λ b. cond (b && has u.grid.rows r) (Some (cell column_id u.grid c r)) None) no)
      by_column (Some d) e =
          let yes : has_id column_id u.grid.columns c ≡ true = has_found column_id c u.grid.columns d e in
          ap (λ b. cond (b && has u.grid.rows r) (Some (cell column_id (filled_table v u).grid c r)) None) yes
          ∙ by_row (has u.grid.rows r) refl
          ∙ sym (ap (λ b. cond (b && has u.grid.rows r) (Some (cell column_id u.grid c r)) None) yes)
        where
          by_row : (b : Bool) → has u.grid.rows r ≡ b → cond b (Some (cell column_id (filled_table v u).grid c r)) None ≡ cond b (Some (cell column_id u.grid c r)) None
          by_row true here = ap (λ x. Some x) (filled_data v u d c r (found_id column_id c u.grid.columns d e) e here (found_all column_id IsPlain c u.grid.columns d (any_none is_computing u.grid.columns h) e))
          by_row false here = refl

  pub cell_plain : cell_at (filled_by v s) t c r ≡ cell_at s t c r
  cell_plain = ap told (find_filled v t s) ∙ by_table (find_id table_id t s) refl
    where
      by_table : (o : Option Table) → find_id table_id t s ≡ o → told (option_map (filled_table v) o) ≡ told o
      by_table None e = refl
      by_table (Some u) e = in_table u (found_all table_id IsPlainTable t s u (any_none (λ (t : Table). has_formula t.grid.columns) s plain) e)

-- ---- a walk that looks for a formula

pub any_here : {X : Type 0} (p : X → Bool) (xs : List X) (i : ℕ) (x : X) → slice_get xs i ≡ Some x → p x ≡ true → list_any p (drop i xs) ≡ true
any_here p [] zero x h is = absurd (cc)
any_here p [] (suc i) x h is = absurd (cc)
any_here p (y ∷ ys) zero x h is = let same : y ≡ x = cc in ap (λ b. b || list_any p ys) (ap p same ∙ is)
any_here p (y ∷ ys) (suc i) x h is = any_here p ys i x h is

pub any_next : {X : Type 0} (p : X → Bool) (xs : List X) (i j : ℕ) (x : X) → j ≡ suc i → slice_get xs i ≡ Some x → p x ≡ false → list_any p (drop j xs) ≡ list_any p (drop i xs)
any_next p xs i j x next h is = ap (λ k. list_any p (drop k xs)) next ∙ past xs i h
  where
    past : (xs : List _) (i : ℕ) → slice_get xs i ≡ Some x → list_any p (drop (suc i) xs) ≡ list_any p (drop i xs)
    past [] zero h = absurd (cc)
    past [] (suc i) h = absurd (cc)
    past (y ∷ ys) zero h = let same : y ≡ x = cc in sym (ap (λ b. b || list_any p ys) (ap p same ∙ is))
    past (y ∷ ys) (suc i) h = past ys i h

pub any_past : {X : Type 0} (p : X → Bool) (xs : List X) (i : ℕ) → slice_get xs i ≡ None → list_any p (drop i xs) ≡ false
any_past p [] zero h = refl
any_past p [] (suc i) h = refl
any_past p (y ∷ ys) zero h = absurd (cc)
any_past p (y ∷ ys) (suc i) h = any_past p ys i h
