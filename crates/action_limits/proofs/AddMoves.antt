-- Counts after an action that adds records.
use Rattle.std.proofs.Common.{ℕ, zero, suc, true, false, cond, ◌+◌, ◌*◌, ◌≤◌, max, List, [], ◌∷◌, ◌++◌, map, length, length-append, ◌≡◌, refl, sym, ap, subst, ◌∙◌, Option, Some, None, arith, ltb}
use Rattle.std.proofs.lemmas.Bool.{and_parts, le-ltb, lt-ltb, ltb-true, ltb-false}
use Rattle.std.proofs.lemmas.Slice.Eq.{bytes_eq-Decides}
use Rattle.std.specs.List.{AllByRecursion}
use Rattle.std.specs.Str.{bytes_eq}
use Rattle.doc_model.specs.declared.action.DocAction.{DocAction}
use Rattle.doc_model.specs.declared.action.DocAction.TheVariants.{BulkAdd}
use Rattle.doc_model.specs.declared.column.CellColumn.{CellColumn}
use Rattle.doc_model.specs.declared.column.ColDef.{ColDef}
use Rattle.doc_model.specs.declared.user_action.UserAction.{UserAction}
use Rattle.doc_model.specs.declared.user_action.UserAction.TheVariants.{Add, Update, Remove, AddTable, RemoveTable, RenameTable, AddColumn, RemoveColumn, RenameColumn, ModifyColumn}
use Rattle.doc_model.specs.Apply.{all_valid, apply}
use Rattle.doc_model.specs.Grid.{Grid}
use Rattle.doc_model.specs.ByIds.{find_id}
use Rattle.doc_model.specs.CountLaws.{SumsMove, Sums, sums_added, given_weight, nothing}
use Rattle.doc_model.specs.Counts.{counts, greatest}
use Rattle.doc_model.specs.Document.{Document, Table, table_id}
use Rattle.doc_model.specs.DocumentLaws.{IsWhole}
use Rattle.doc_model.specs.MaximaLaws.{AreGreatest, Maxima, maxima_after, maxima_then}
use Rattle.doc_model.specs.Rows.{without}
use Rattle.doc_model.specs.Valid.{passes, valid}
use Rattle.doc_model.proofs.ByIdsLaws.{bytes_itself, each_found, found_all, found_id}
use Rattle.doc_model.proofs.Choices.{each_both, each_weaker}
use Rattle.doc_model.proofs.MaximaSums.{without-none}
use Rattle.doc_model.proofs.SchemaCounts.{counts-apply}
use Rattle.doc_model.proofs.SchemaMaxima.{maxima-apply}
use Rattle.doc_readers.specs.Parts.{grid_at}
use Rattle.action_limits.specs.declared.limits.Counted.{Counted}
use Rattle.action_limits.specs.Capped.{AddsSo, AreMaximaAdded}
use Rattle.user_actions.specs.Kinds.{table_of}
use Rattle.user_actions.specs.StepLaws.{action_of}
use Rattle.user_actions.specs.Steps.{all_fitted, last_new_row, last_row, numbers_after, steps_of}
use Rattle.action_limits.specs.Tallies.{after}
use Rattle.action_limits.proofs.CountedLemmas.{capped_above, grid_found}
use Rattle.user_actions.proofs.RecordStepLemmas.{length-numbers_after}
use Rattle.action_limits.proofs.ExpansionLemmas.{has_named-valid}
use Rattle.action_limits.proofs.MaximaMoves.{all_below, each_below, never-less}
use Rattle.action_limits.proofs.Rising.{TellsMore, same_side}
use Rattle.action_limits.proofs.SumLemmas.{greatest-append, greatest-cons}

-- each table's grid is what its id finds
pub grids_found : (s : Document) → IsWhole s → (c : List ℕ) → AllByRecursion (λ t. bytes_eq t.id c ≡ true → grid_at s c ≡ t.grid) s
grids_found s whole c = each_found table_id (λ t. bytes_eq t.id c ≡ true → grid_at s c ≡ t.grid) s whole.sound.distinct (λ t found is.
    ap (grid_at s) (sym ((bytes_eq-Decides t.id c).0 is)) ∙ grid_found s t.id t found)

-- the table that is there
pub table_there : (s : Document) (c : List ℕ) → passes (find_id table_id c s) (λ _. true) ≡ true → (t : Table) × (find_id table_id c s ≡ Some t)
table_there s c h = elim (find_id table_id c s) as (λ o. find_id table_id c s ≡ o → passes o (λ _. true) ≡ true → (t : Table) × (find_id table_id c s ≡ Some t)) [
  | None ↦ λ _ e. absurd (Rattle.std.proofs.lemmas.Bool.false≢true e)
  | Some t ↦ λ is _. (t, is)
] refl h

pub known_below : (s : Document) (h : Table → ℕ) (b : ℕ) → greatest (map h s) ≤ b → AllByRecursion (λ t. h t ≤ b) s
known_below s h b le = unmap s (each_below b (map h s) le)
  where
    unmap : (ts : List Table) → AllByRecursion (λ n. n ≤ b) (map h ts) → AllByRecursion (λ t. h t ≤ b) ts
    unmap [] k = tt
    unmap (t ∷ ts) k = (k.0, unmap ts k.1)

pub mapped_below : (f : Maxima → ℕ) (h : Table → Maxima) (b : ℕ) (s : Document) → AllByRecursion (λ t. f (h t) ≤ b) s → greatest (map f (map h s)) ≤ b
mapped_below f h b s k = all_below b (map f (map h s)) (both s k)
  where
    both : (ts : List Table) → AllByRecursion (λ t. f (h t) ≤ b) ts → AllByRecursion (λ n. n ≤ b) (map f (map h ts))
    both [] k = tt
    both (t ∷ ts) k = (k.0, both ts k.1)

-- a table that is there is no greater than the greatest
pub found_below : (f : Maxima → ℕ) (h : Table → Maxima) (s : Document) (c : List ℕ) (t : Table) → find_id table_id c s ≡ Some t → f (h t) ≤ greatest (map f (map h s))
found_below f h s c t found = found_all table_id (λ t. f (h t) ≤ greatest (map f (map h s))) c s t (unmap s (each_below (greatest (map f (map h s))) (map f (map h s)) (omega arith))) found
  where
    unmap : (ts : List Table) → AllByRecursion (λ n. n ≤ greatest (map f (map h s))) (map f (map h ts)) → AllByRecursion (λ t. f (h t) ≤ greatest (map f (map h s))) ts
    unmap [] k = tt
    unmap (t ∷ ts) k = (k.0, unmap ts k.1)

module _ (s : Document) (whole : IsWhole s) (table rows : List ℕ) (ks : List CellColumn) (v : valid s (BulkAdd table rows ks) ≡ true) where
  abbrev act : DocAction
  act = BulkAdd table rows ks

  told : AreGreatest (counts (apply s act)) (maxima_after s act)
  told = maxima-apply s act whole v

  mine : (t : Table) × (find_id table_id table s ≡ Some t)
  mine = table_there s table (has_named-valid s act v)

  mine_is : bytes_eq mine.0.id table ≡ true
  mine_is = ap (λ n. bytes_eq n table) (found_id table_id table s mine.0 mine.1) ∙ bytes_itself table

  rows_apart : (t : Table) → length (cond (bytes_eq t.id table) rows [] ++ without [] t.grid.rows) ≡ length (cond (bytes_eq t.id table) rows []) + length t.grid.rows
  rows_apart t = length-append (cond (bytes_eq t.id table) rows []) (without [] t.grid.rows) ∙ ap (λ q. length (cond (bytes_eq t.id table) rows []) + length q) (without-none t.grid.rows)

  ids_apart : (t : Table) → greatest (cond (bytes_eq t.id table) rows [] ++ without [] t.grid.rows) ≡ max (greatest (cond (bytes_eq t.id table) rows [])) (greatest t.grid.rows)
  ids_apart t = greatest-append (cond (bytes_eq t.id table) rows []) (without [] t.grid.rows) ∙ ap (λ q. max (greatest (cond (bytes_eq t.id table) rows [])) (greatest q)) (without-none t.grid.rows)

  pub added_columns : (b : ℕ) → (counts s).columns ≤ b → ltb b 0 ≡ ltb b (counts (apply s act)).columns
  added_columns b le =
      let same : greatest (map (λ (p : Maxima). p.columns) (map (maxima_then s act) s)) ≤ b
      = mapped_below (λ (p : Maxima). p.columns) (maxima_then s act) b s (known_below s (λ (t : Table). length t.grid.columns) b le) in
      let below : (counts (apply s act)).columns ≤ b = subst (λ n. n ≤ b) (sym told.columns) same in
      le-ltb b 0 (omega arith) ∙ sym (le-ltb b (counts (apply s act)).columns below)

  rows_below : (b : ℕ) (t : Table) → length t.grid.rows ≤ b → (bytes_eq t.id table ≡ true → grid_at s table ≡ t.grid)
      → length (cond (bytes_eq t.id table) rows [] ++ without [] t.grid.rows) ≤ max b (length (grid_at s table).rows + length rows)
  rows_below b t small own =
      subst (λ m. m ≤ max b (length (grid_at s table).rows + length rows)) (sym (rows_apart t))
      (elim (bytes_eq t.id table) as (λ c. bytes_eq t.id table ≡ c → length (cond c rows []) + length t.grid.rows ≤ max b (length (grid_at s table).rows + length rows)) [
        | true ↦ λ is. let e : length (grid_at s table).rows ≡ length t.grid.rows = ap (λ (g : Grid ColDef). length g.rows) (own is) in grind arith
        | false ↦ λ _. grind arith
      ] refl)

  pub added_rows : (b : ℕ) → (counts s).rows ≤ b → ltb b (length (grid_at s table).rows + length rows) ≡ ltb b (counts (apply s act)).rows
  added_rows b le =
      let n : ℕ = length (grid_at s table).rows + length rows in
      let each : AllByRecursion (λ t. length (cond (bytes_eq t.id table) rows [] ++ without [] t.grid.rows) ≤ max b n) s
      = each_weaker (λ t. (length t.grid.rows ≤ b) × (bytes_eq t.id table ≡ true → grid_at s table ≡ t.grid)) (λ t. length (cond (bytes_eq t.id table) rows [] ++ without [] t.grid.rows) ≤ max b n) (λ t k. rows_below b t k.0 k.1)
      s (each_both (λ t. length t.grid.rows ≤ b) (λ t. bytes_eq t.id table ≡ true → grid_at s table ≡ t.grid) s (known_below s (λ (t : Table). length t.grid.rows) b le) (grids_found s whole table)) in
      let up : (counts (apply s act)).rows ≤ max b n = subst (λ m. m ≤ max b n) (sym told.rows) (mapped_below (λ (p : Maxima). p.rows) (maxima_then s act) (max b n) s each) in
      let here : length (cond (bytes_eq mine.0.id table) rows [] ++ without [] mine.0.grid.rows) ≤ (counts (apply s act)).rows
      = subst (λ m. length (cond (bytes_eq mine.0.id table) rows [] ++ without [] mine.0.grid.rows) ≤ m) (sym told.rows) (found_below (λ (p : Maxima). p.rows) (maxima_then s act) s table mine.0 mine.1) in
      let all : length (cond (bytes_eq mine.0.id table) rows [] ++ without [] mine.0.grid.rows) ≡ length rows + length mine.0.grid.rows = rows_apart mine.0 ∙ ap (λ c. length (cond c rows []) + length mine.0.grid.rows) mine_is in
      let own : length (grid_at s table).rows ≡ length mine.0.grid.rows = ap (λ (g : Grid ColDef). length g.rows) (grid_found s table mine.0 mine.1) in
      let low : n ≤ (counts (apply s act)).rows = omega (arith, here, all, own) in
      same_side b n (counts (apply s act)).rows up (grind arith)

  pub added_ids : (b last : ℕ) → (counts s).row_id ≤ b → last ≤ max b (greatest rows) → greatest rows ≤ last → ltb b last ≡ ltb b (counts (apply s act)).row_id
  added_ids b last le from to =
      let each : AllByRecursion (λ t. greatest (cond (bytes_eq t.id table) rows [] ++ without [] t.grid.rows) ≤ max b last) s
      = each_weaker (λ t. greatest t.grid.rows ≤ b) (λ t. greatest (cond (bytes_eq t.id table) rows [] ++ without [] t.grid.rows) ≤ max b last) (λ t k.
      subst (λ m. m ≤ max b last) (sym (ids_apart t)) (elim (bytes_eq t.id table) as (λ c. max (greatest (cond c rows [])) (greatest t.grid.rows) ≤ max b last) [
        | true ↦ grind arith
        | false ↦ grind arith
      ])) s (known_below s (λ (t : Table). greatest t.grid.rows) b le) in
      let up : (counts (apply s act)).row_id ≤ max b last = subst (λ m. m ≤ max b last) (sym told.row_id) (mapped_below (λ (p : Maxima). p.row_id) (maxima_then s act) (max b last) s each) in
      let here : greatest (cond (bytes_eq mine.0.id table) rows [] ++ without [] mine.0.grid.rows) ≤ (counts (apply s act)).row_id
      = subst (λ m. greatest (cond (bytes_eq mine.0.id table) rows [] ++ without [] mine.0.grid.rows) ≤ m) (sym told.row_id) (found_below (λ (p : Maxima). p.row_id) (maxima_then s act) s table mine.0 mine.1) in
      let all : greatest (cond (bytes_eq mine.0.id table) rows [] ++ without [] mine.0.grid.rows) ≡ max (greatest rows) (greatest mine.0.grid.rows) = ids_apart mine.0 ∙ ap (λ c. max (greatest (cond c rows [])) (greatest mine.0.grid.rows)) mine_is in
      let most : greatest rows ≤ (counts (apply s act)).row_id = grind arith in
      same_side b last (counts (apply s act)).row_id up (grind arith)

  pub added_tables : (counts (apply s act)).tables ≡ (counts s).tables
  added_tables =
      let moved : SumsMove s (apply s act) act = counts-apply s act whole v in
      let none : (sums_added s act).tables ≡ 0 = elim (find_id table_id table s) as (λ (o : Option Table). (elim o as (λ _. Sums) [ None ↦ nothing | Some t ↦ record { tables = 0; cells = length rows * length t.grid.columns; weight = given_weight ks } ]).tables ≡ 0) [ None ↦ refl | Some t ↦ refl ] in
      let sums : (counts (apply s act)).tables + 0 ≡ (counts s).tables + (sums_added s act).tables = moved.tables in
      omega (arith, sums, none)

  -- the last row is that of a table below the bound
  pub last_below : (b : ℕ) → (counts s).row_id ≤ b → last_row s table ≤ b
  last_below b le =
      let small : greatest mine.0.grid.rows ≤ b = found_all table_id (λ t. greatest t.grid.rows ≤ b) table s mine.0 (known_below s (λ (t : Table). greatest t.grid.rows) b le) mine.1 in
      subst (λ (g : Grid ColDef). greatest g.rows ≤ b) (sym (grid_found s table mine.0 mine.1)) small

-- the greatest of so many numbers
greatest-numbers : (n count : ℕ) → greatest (numbers_after n (suc count)) ≡ n + suc count
greatest-numbers n zero = let e : greatest ((n + 1) ∷ []) ≡ max (n + 1) 0 = greatest-cons (n + 1) [] in grind arith
greatest-numbers n (suc count) =
    let later : greatest (numbers_after (n + 1) (suc count)) ≡ n + 1 + suc count = greatest-numbers (n + 1) count in
    let e : greatest ((n + 1) ∷ numbers_after (n + 1) (suc count)) ≡ max (n + 1) (greatest (numbers_after (n + 1) (suc count))) = greatest-cons (n + 1) (numbers_after (n + 1) (suc count)) in
    e ∙ ap (max (n + 1)) later ∙ grind arith

greatest_to : (n count : ℕ) → greatest (numbers_after n count) ≤ n + count
greatest_to n zero = omega arith
greatest_to n (suc count) = let e : greatest (numbers_after n (suc count)) ≡ n + suc count = greatest-numbers n count in omega arith

greatest_from : (b n count : ℕ) → n ≤ b → n + count ≤ max b (greatest (numbers_after n count))
greatest_from b n zero h = grind arith
greatest_from b n (suc count) h = let e : greatest (numbers_after n (suc count)) ≡ n + suc count = greatest-numbers n count in grind arith

pub add_maxima : (s : Document) (a : UserAction) (count : ℕ) (e : Counted) → IsWhole s → AddsSo a count → all_valid s (map action_of (steps_of s a)) ≡ true → AreMaximaAdded s (table_of a) count e → TellsMore e s (after s a)
add_maxima s (Add table single n has_row_ids ks) count e whole same v told =
    let rows : List ℕ = numbers_after (last_row s table) n in
    let ok : valid s (BulkAdd table rows (all_fitted s table ks)) ≡ true = (and_parts (valid s (BulkAdd table rows (all_fitted s table ks))) true v).0 in
    let cs : List CellColumn = all_fitted s table ks in
    record {
      columns = λ le. ap (ltb 1024) told.columns ∙ added_columns s whole table rows cs ok 1024 le;
      rows = λ le. ap (ltb 1000000) told.rows ∙ capped_above 1000000 (length (grid_at s table).rows + count) (omega arith)
          ∙ ap (λ m. ltb 1000000 (length (grid_at s table).rows + m)) (same ∙ sym (length-numbers_after (last_row s table) n))
          ∙ added_rows s whole table rows cs ok 1000000 le;
      row_id = λ le. ap (ltb 4294967295) told.row_id ∙ ap (λ m. ltb 4294967295 (last_row s table + m)) same
          ∙ added_ids s whole table rows cs ok 4294967295 (last_row s table + n) le (greatest_from 4294967295 (last_row s table) n (last_below s whole table rows cs ok 4294967295 le)) (greatest_to (last_row s table) n);
      less = never-less s (BulkAdd table rows cs) whole ok refl;
    }
add_maxima s (Update table single rows ks) count e whole same v told = absurd same
add_maxima s (Remove table single rows) count e whole same v told = absurd same
add_maxima s (AddTable table cs) count e whole same v told = absurd same
add_maxima s (RemoveTable table) count e whole same v told = absurd same
add_maxima s (RenameTable table new) count e whole same v told = absurd same
add_maxima s (AddColumn table c) count e whole same v told = absurd same
add_maxima s (RemoveColumn table column) count e whole same v told = absurd same
add_maxima s (RenameColumn table column new) count e whole same v told = absurd same
add_maxima s (ModifyColumn table c) count e whole same v told = absurd same

pub add_tables : (s : Document) (a : UserAction) (count : ℕ) → IsWhole s → AddsSo a count → all_valid s (map action_of (steps_of s a)) ≡ true → (counts s).tables ≡ (counts (after s a)).tables
add_tables s (Add table single n has_row_ids ks) count whole same v = sym (added_tables s whole table (numbers_after (last_row s table) n) (all_fitted s table ks) (and_parts (valid s (BulkAdd table (numbers_after (last_row s table) n) (all_fitted s table ks))) true v).0)
add_tables s (Update table single rows ks) count whole same v = absurd same
add_tables s (Remove table single rows) count whole same v = absurd same
add_tables s (AddTable table cs) count whole same v = absurd same
add_tables s (RemoveTable table) count whole same v = absurd same
add_tables s (RenameTable table new) count whole same v = absurd same
add_tables s (AddColumn table c) count whole same v = absurd same
add_tables s (RemoveColumn table column) count whole same v = absurd same
add_tables s (RenameColumn table column new) count whole same v = absurd same
add_tables s (ModifyColumn table c) count whole same v = absurd same

pub add_last : (s : Document) (a : UserAction) (count : ℕ) → AddsSo a count → last_row s (table_of a) + count ≡ last_new_row s a
add_last s (Add table single n has_row_ids ks) count same = ap (λ m. last_row s table + m) same
add_last s (Update table single rows ks) count same = absurd same
add_last s (Remove table single rows) count same = absurd same
add_last s (AddTable table cs) count same = absurd same
add_last s (RemoveTable table) count same = absurd same
add_last s (RenameTable table new) count same = absurd same
add_last s (AddColumn table c) count same = absurd same
add_last s (RemoveColumn table column) count same = absurd same
add_last s (RenameColumn table column new) count same = absurd same
add_last s (ModifyColumn table c) count same = absurd same

pub add_few : (s : Document) (a : UserAction) (count : ℕ) → AddsSo a count → length (steps_of s a) ≤ 1
add_few s (Add table single n has_row_ids ks) count same = omega arith
add_few s (Update table single rows ks) count same = absurd same
add_few s (Remove table single rows) count same = absurd same
add_few s (AddTable table cs) count same = absurd same
add_few s (RemoveTable table) count same = absurd same
add_few s (RenameTable table new) count same = absurd same
add_few s (AddColumn table c) count same = absurd same
add_few s (RemoveColumn table column) count same = absurd same
add_few s (RenameColumn table column new) count same = absurd same
add_few s (ModifyColumn table c) count same = absurd same

-- an action that adds records is valid, whatever rows it comes to
pub add_fresh : (s : Document) (a : UserAction) (count : ℕ) → AddsSo a count → Rattle.user_actions.specs.StepLaws.HasFresh s a
add_fresh s (Add table single n has_row_ids ks) count same = tt
add_fresh s (Update table single rows ks) count same = absurd same
add_fresh s (Remove table single rows) count same = absurd same
add_fresh s (AddTable table cs) count same = absurd same
add_fresh s (RemoveTable table) count same = absurd same
add_fresh s (RenameTable table new) count same = absurd same
add_fresh s (AddColumn table c) count same = absurd same
add_fresh s (RemoveColumn table column) count same = absurd same
add_fresh s (RenameColumn table column new) count same = absurd same
add_fresh s (ModifyColumn table c) count same = absurd same
