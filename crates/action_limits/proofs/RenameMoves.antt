-- Sums and maxima after a table or a column is renamed.
use Rattle.std.proofs.Common.{ℕ, Bool, true, false, cond, not, ◌&&◌, ◌||◌, ◌+◌, ◌<◌, ◌≤◌, ◌^◌, List, [], ◌∷◌, ◌++◌, map, length, ◌≡◌, refl, sym, ap, subst, ◌∙◌, codes, Option, Some, None, arith}
use Rattle.std.proofs.lemmas.Bool.{and_parts, false≢true}
use Rattle.std.proofs.lemmas.List.{map-append}
use Rattle.std.specs.List.{list_all, AllByRecursion}
use Rattle.std.specs.Str.{bytes_eq}
use Rattle.cell_types.specs.NameRule.{is_name}
use Rattle.doc_model.specs.declared.action.DocAction.{DocAction}
use Rattle.doc_model.specs.declared.action.DocAction.TheVariants as action
use Rattle.doc_model.specs.declared.action.Step.{Step}
use Rattle.doc_model.specs.declared.column.CellColumn.{CellColumn}
use Rattle.doc_model.specs.declared.column.ColDef.{ColDef}
use Rattle.doc_model.specs.declared.user_action.UserAction.{UserAction}
use Rattle.doc_model.specs.declared.user_action.UserAction.TheVariants.{Add, Update, Remove, AddTable, RemoveTable, RenameTable, AddColumn, RemoveColumn, RenameColumn, ModifyColumn}
use Rattle.doc_model.specs.Apply.{all_valid, apply, apply_all}
use Rattle.doc_model.specs.ByIds.{has_id}
use Rattle.doc_model.specs.CountLaws.{Sums, SumsMove, column_weight, nothing, sums_added, sums_removed}
use Rattle.doc_model.specs.Counts.{counts, formula_bytes, total}
use Rattle.doc_model.specs.Document.{Document, Table, table_id}
use Rattle.doc_model.specs.DocumentLaws.{IsWhole}
use Rattle.doc_model.specs.MetadataIds.{resources_id}
use Rattle.doc_model.specs.Schema.{metadata_table, resources}
use Rattle.doc_model.specs.Valid.{is_new_table, passes, schema_table, valid}
use Rattle.doc_model.specs.ViewEdits.{if_any}
use Rattle.doc_model.proofs.Choices.{both_true, not_true}
use Rattle.doc_model.proofs.DocumentParts.{passes_parts}
use Rattle.doc_model.proofs.InverseLaws.{IsWhole-apply, IsWhole-apply_all}
use Rattle.doc_model.proofs.SchemaCounts.{counts-apply}
use Rattle.doc_readers.specs.Parts.{grid_at}
use Rattle.action_limits.specs.declared.limits.Counted.{Counted}
use Rattle.action_limits.specs.Capped.{all_moved, has_named, moved_by}
use Rattle.action_limits.specs.Left.{TellsMaxima, is_quiet, is_renaming}
use Rattle.action_limits.specs.Updated.{all_updated_at, is_known, is_update}
use Rattle.name_rules.specs.FreeName.{free_name}
use Rattle.user_actions.specs.declared.referrers.Referrer.{Referrer}
use Rattle.user_actions.specs.CellUpdates.{column_changed, rows_changed}
use Rattle.user_actions.specs.Marked.{direct, indirect}
use Rattle.user_actions.specs.References.{info_to, led_to, referrers}
use Rattle.user_actions.specs.ResourceSteps.{rows_about}
use Rattle.user_actions.specs.StepLaws.{action_of}
use Rattle.user_actions.specs.Steps.{column_ids, column_renaming, renaming, steps_of, table_ids}
use Rattle.user_actions.proofs.LedLemmas.{IsLed, there-renaming}
use Rattle.user_actions.proofs.ResourceLemmas.{find_resources, kept-led, kept-rename_column, kept-rename_table}
use Rattle.renamed_resources.specs.Renamed.{columns_renamed, table_renamed}
use Rattle.action_limits.proofs.ClearingMoves.{with_sums}
use Rattle.action_limits.proofs.ExpansionLemmas.{IsExact, TellsSums, any_told, none_told}
use Rattle.action_limits.proofs.RenamingMoves.{KeepsFormula, SameSums, all_same}
use Rattle.action_limits.proofs.StepMoves.{maxima_from, same_all}

-- ---- a step that updates resources, behind steps that move nothing

-- what is told of the steps of a renaming
pub record TellsRenaming (s : Document) (m e : Counted) (steps : List Step) : Type 0 where
  pub known : list_all (is_known s) steps ≡ true
  pub sums : TellsSums (all_updated_at s m steps) (apply_all s (map action_of steps))
  pub most : TellsMaxima e (apply_all s (map action_of steps))

abbrev is_still : Step → Bool
is_still x = is_quiet x.action && not (is_update x.action)

pub apply_all-append : (s : Document) (as' bs : List DocAction) → apply_all s (as' ++ bs) ≡ apply_all (apply_all s as') bs
apply_all-append s [] bs = refl
apply_all-append s (a ∷ as') bs = apply_all-append (apply s a) as' bs

all_valid-parts : (s : Document) (as' bs : List DocAction) → all_valid s (as' ++ bs) ≡ true → (all_valid s as' ≡ true) × (all_valid (apply_all s as') bs ≡ true)
all_valid-parts s [] bs h = (refl, h)
all_valid-parts s (a ∷ as') bs h =
    let p : (valid s a ≡ true) × (all_valid (apply s a) (as' ++ bs) ≡ true) = and_parts (valid s a) (all_valid (apply s a) (as' ++ bs)) h in
    let rest = all_valid-parts (apply s a) as' bs p.1 in
    (both_true (valid s a) (all_valid (apply s a) as') p.0 rest.0, rest.1)

still_sums : (s : Document) (m : Counted) (xs ys : List Step) → list_all is_still xs ≡ true → all_updated_at s m (xs ++ ys) ≡ all_updated_at s m ys
still_sums s m [] ys h = refl
still_sums s m (x ∷ xs) ys h =
    let parts : (is_still x ≡ true) × (list_all is_still xs ≡ true) = and_parts (is_still x) (list_all is_still xs) h in
    let no : not (is_update x.action) ≡ true = (and_parts (is_quiet x.action) (not (is_update x.action)) parts.0).1 in
    ap (λ b. all_updated_at s (cond b (moved_by s m x.action) m) (xs ++ ys)) (not_true (is_update x.action) no) ∙ still_sums s m xs ys parts.1

still_known : (s : Document) (xs ys : List Step) → list_all is_still xs ≡ true → list_all (is_known s) ys ≡ true → list_all (is_known s) (xs ++ ys) ≡ true
still_known s [] ys h k = k
still_known s (x ∷ xs) ys h k =
    let parts : (is_still x ≡ true) × (list_all is_still xs ≡ true) = and_parts (is_still x) (list_all is_still xs) h in
    let no : not (is_update x.action) ≡ true = (and_parts (is_quiet x.action) (not (is_update x.action)) parts.0).1 in
    both_true (is_known s x) (list_all (is_known s) (xs ++ ys)) (ap (λ b. b || has_named s x.action) no) (still_known s xs ys parts.1 k)

still_quiet : (xs ys : List Step) → list_all is_still xs ≡ true → list_all (λ (x : Step). is_quiet x.action) ys ≡ true → list_all (λ (x : Step). is_quiet x.action) (xs ++ ys) ≡ true
still_quiet [] ys h k = k
still_quiet (x ∷ xs) ys h k =
    let parts : (is_still x ≡ true) × (list_all is_still xs ≡ true) = and_parts (is_still x) (list_all is_still xs) h in
    both_true (is_quiet x.action) (list_all (λ (x : Step). is_quiet x.action) (xs ++ ys)) (and_parts (is_quiet x.action) (not (is_update x.action)) parts.0).0 (still_quiet xs ys parts.1 k)

abbrev gone : List ℕ → List CellColumn → Option Table → Sums
gone rows ks o = elim o [ None ↦ nothing | Some t ↦ record { tables = 0; cells = 0; weight = total (map (λ (k : CellColumn). column_weight t.grid rows k.id) ks) } ]

exact_same : (s d : Document) (m : Counted) → IsExact m s → SameSums s d → IsExact m d
exact_same s d m exact same = record {
  tables = exact.tables ∙ sym same.tables;
  cells = exact.cells ∙ sym same.cells;
  weight = exact.weight ∙ sym same.weight;
  small_tables = subst (λ n. n < 2 ^ 64) (sym same.tables) exact.small_tables;
  small_cells = subst (λ n. n < 2 ^ 64) (sym same.cells) exact.small_cells;
  small_weight = subst (λ n. n < 2 ^ 64) (sym same.weight) exact.small_weight;
}

module _ (s : Document) (whole : IsWhole s) (rows : List ℕ) (ks : List CellColumn) where
  abbrev update : Step
  update = indirect (action.BulkUpdate resources_id rows ks)

  moved_alike : (d : Document) → IsWhole d → resources d ≡ resources s → (m : Counted) → moved_by s m update.action ≡ moved_by d m update.action
  moved_alike d whole' same m =
      ap (λ g. with_sums m g (sums_added s update.action))
      (ap (gone rows ks) (find_resources s whole ∙ ap (λ g. Some (metadata_table resources_id g)) (sym same) ∙ sym (find_resources d whole')))

  any_known : (q : List ℕ) → list_all (is_known s) (if_any q update) ≡ true
  any_known [] = refl
  any_known (r ∷ q) = both_true (is_known s update) true (ap (λ o. passes o (λ _. true)) (find_resources s whole)) refl

  any_quiet : (q : List ℕ) → list_all (λ (x : Step). is_quiet x.action) (if_any q update) ≡ true
  any_quiet [] = refl
  any_quiet (r ∷ q) = refl

  any_few : (q : List ℕ) → length (if_any q update) ≤ 1
  any_few [] = omega arith
  any_few (r ∷ q) = omega arith

  any_alike : (d : Document) → IsWhole d → resources d ≡ resources s → (m : Counted) (q : List ℕ) → all_updated_at s m (if_any q update) ≡ all_moved d m (if_any q update)
  any_alike d whole' same m [] = refl
  any_alike d whole' same m (r ∷ q) = moved_alike d whole' same m

  behind_told : (q : List ℕ) (xs : List Step) (m e : Counted) → IsExact m s → TellsMaxima e s → list_all is_still xs ≡ true
      → (all_valid s (map action_of xs) ≡ true → SameSums s (apply_all s (map action_of xs))) → resources (apply_all s (map action_of xs)) ≡ resources s
      → all_valid s (map action_of (xs ++ if_any q update)) ≡ true → TellsRenaming s m e (xs ++ if_any q update)
  behind_told q xs m e exact most still sums same v =
      let ys : List Step = if_any q update in
      let d : Document = apply_all s (map action_of xs) in
      let both : map action_of (xs ++ ys) ≡ map action_of xs ++ map action_of ys = map-append action_of xs ys in
      let parts : (all_valid s (map action_of xs) ≡ true) × (all_valid d (map action_of ys) ≡ true) = all_valid-parts s (map action_of xs) (map action_of ys) (sym (ap (all_valid s) both) ∙ v) in
      let whole' : IsWhole d = IsWhole-apply_all s (map action_of xs) whole parts.0 in
      let leads : apply_all s (map action_of (xs ++ ys)) ≡ apply_all d (map action_of ys) = ap (apply_all s) both ∙ apply_all-append s (map action_of xs) (map action_of ys) in
      let told : TellsSums (all_moved d m ys) (apply_all d (map action_of ys)) = any_told d m ys (any_few q) whole' parts.1 (exact_same s d m exact (sums parts.0)) in
      record {
        known = still_known s xs ys still (any_known q);
        sums = subst (λ n. TellsSums n (apply_all s (map action_of (xs ++ ys)))) (sym (still_sums s m xs ys still ∙ any_alike d whole' same m q)) (subst (TellsSums (all_moved d m ys)) (sym leads) told);
        most = maxima_from s (apply_all s (map action_of (xs ++ ys))) e (same_all s (xs ++ ys) whole v (still_quiet xs ys still (any_quiet q))) most;
      }

-- ---- a table that is renamed, and the columns that refer to it

led_still : (new : List ℕ) (ks : List Referrer) → list_all is_still (map (led_to new) ks) ≡ true
led_still new [] = refl
led_still new (k ∷ ks) = led_still new ks

led_keeps : (d : Document) (new : List ℕ) (ks : List Referrer) → AllByRecursion (IsLed d) ks → AllByRecursion (KeepsFormula d) (map (led_to new) ks)
led_keeps d new [] h = tt
led_keeps d new (k ∷ ks) h = (
  record {
    table = k.table;
    column = k.column.id;
    info = info_to new k.column.info;
    is = refl;
    plain = h.0.plain;
    kept = ap (λ (o : Option ColDef). elim o as (λ _. ℕ) [ None ↦ 0 | Some d ↦ formula_bytes d ]) h.0.found;
  },
  led_keeps d new ks h.1,
)

-- an action that removes and adds nothing
none_moved : (s : Document) (a : DocAction) → IsWhole s → valid s a ≡ true → sums_removed s a ≡ nothing → sums_added s a ≡ nothing → SameSums s (apply s a)
none_moved s a whole v removed added =
    let moved : SumsMove s (apply s a) a = counts-apply s a whole v in
    record {
      tables = level (counts (apply s a)).tables (counts s).tables (sums_removed s a).tables (sums_added s a).tables (ap (λ (n : Sums). n.tables) removed) (ap (λ (n : Sums). n.tables) added) moved.tables;
      cells = level (counts (apply s a)).cells (counts s).cells (sums_removed s a).cells (sums_added s a).cells (ap (λ (n : Sums). n.cells) removed) (ap (λ (n : Sums). n.cells) added) moved.cells;
      weight = level (counts (apply s a)).weight (counts s).weight (sums_removed s a).weight (sums_added s a).weight (ap (λ (n : Sums). n.weight) removed) (ap (λ (n : Sums). n.weight) added) moved.weight;
    }
  where
    level : (n before gone' more : ℕ) → gone' ≡ 0 → more ≡ 0 → n + gone' ≡ before + more → n ≡ before
    level n before gone' more g k e = omega (arith, g, k, e)

abbrev before_resources : Document → List ℕ → List ℕ → List Step
before_resources s table new = direct (action.RenameTable table new) ∷ map (led_to new) (referrers s table new true)

table_same : (s : Document) → IsWhole s → (table new : List ℕ) → all_valid s (map action_of (before_resources s table new)) ≡ true → SameSums s (apply_all s (map action_of (before_resources s table new)))
table_same s whole table new v =
    let a : DocAction = action.RenameTable table new in
    let led : List Step = map (led_to new) (referrers s table new true) in
    let parts : (valid s a ≡ true) × (all_valid (apply s a) (map action_of led) ≡ true) = and_parts (valid s a) (all_valid (apply s a) (map action_of led)) v in
    let p : (t : Table) × ((schema_table s table ≡ Some t) × (is_new_table s new ≡ true)) = passes_parts (schema_table s table) (λ _. is_new_table s new) parts.0 in
    let new_parts : (not (has_id table_id s new) ≡ true) × (is_name new ≡ true) = and_parts (not (has_id table_id s new)) (is_name new) p.1.1 in
    let there : AllByRecursion (IsLed (apply s a)) (referrers s table new true) = there-renaming s whole table new new_parts.1 (not_true (has_id table_id s new) new_parts.0) parts.0 in
    let rest : SameSums (apply s a) (apply_all (apply s a) (map action_of led)) = all_same (apply s a) led (IsWhole-apply s a whole parts.0) parts.1 (led_keeps (apply s a) new (referrers s table new true) there) in
    let one : SameSums s (apply s a) = none_moved s a whole parts.0 refl refl in
    record { tables = rest.tables ∙ one.tables; cells = rest.cells ∙ one.cells; weight = rest.weight ∙ one.weight }

table_told : (s : Document) → IsWhole s → (table new : List ℕ) (m e : Counted) → IsExact m s → TellsMaxima e s → all_valid s (map action_of (renaming s table new)) ≡ true → TellsRenaming s m e (renaming s table new)
table_told s whole table new m e exact most v =
    let rows : List ℕ = rows_changed (grid_at s resources_id) (codes "tableId") (table_renamed table new) (grid_at s resources_id).rows in
    let ks : List CellColumn = column_changed (grid_at s resources_id) (codes "tableId") (table_renamed table new) rows ∷ [] in
    behind_told s whole rows ks rows (before_resources s table new) m e exact most (led_still new (referrers s table new true)) (table_same s whole table new)
    (kept-led new (apply s (action.RenameTable table new)) (referrers s table new true) ∙ kept-rename_table s table new) v

-- ---- a column that is renamed

column_told : (s : Document) → IsWhole s → (table column new : List ℕ) (m e : Counted) → IsExact m s → TellsMaxima e s → all_valid s (map action_of (column_renaming s table column new)) ≡ true → TellsRenaming s m e (column_renaming s table column new)
column_told s whole table column new m e exact most v =
    let a : DocAction = action.RenameColumn table column new in
    let g = grid_at s resources_id in
    let rows : List ℕ = rows_changed g (codes "colIds") (columns_renamed column new) (rows_about g table) in
    let ks : List CellColumn = column_changed g (codes "colIds") (columns_renamed column new) rows ∷ [] in
    behind_told s whole rows ks rows (direct a ∷ []) m e exact most refl
    (λ ok. none_moved s a whole (and_parts (valid s a) true ok).0 refl refl)
    (kept-rename_column s table column new) v

-- ---- and where the new id is the old one

unless_told : (s : Document) (m e : Counted) (b : Bool) (steps : List Step) → IsExact m s → TellsMaxima e s → (all_valid s (map action_of steps) ≡ true → TellsRenaming s m e steps)
    → all_valid s (map action_of (cond b [] steps)) ≡ true → TellsRenaming s m e (cond b [] steps)
unless_told s m e true steps exact most h v = record { known = refl; sums = none_told s m exact; most = most }
unless_told s m e false steps exact most h v = h v

pub renaming_told : (s : Document) → IsWhole s → (a : UserAction) → is_renaming a ≡ true → all_valid s (map action_of (steps_of s a)) ≡ true → (m e : Counted) → IsExact m s → TellsMaxima e s → TellsRenaming s m e (steps_of s a)
renaming_told s whole (RenameTable table new) renames v m e exact most = unless_told s m e (bytes_eq table new) (renaming s table (free_name (table_ids s) new)) exact most (table_told s whole table (free_name (table_ids s) new) m e exact most) v
renaming_told s whole (RenameColumn table column new) renames v m e exact most =
    unless_told s m e (bytes_eq column new) (column_renaming s table column (free_name (column_ids s table) new)) exact most (column_told s whole table column (free_name (column_ids s table) new) m e exact most) v
renaming_told s whole (Add table single count has_row_ids ks) renames v m e exact most = absurd (false≢true renames)
renaming_told s whole (Update table single rows ks) renames v m e exact most = absurd (false≢true renames)
renaming_told s whole (Remove table single rows) renames v m e exact most = absurd (false≢true renames)
renaming_told s whole (AddTable table cs) renames v m e exact most = absurd (false≢true renames)
renaming_told s whole (RemoveTable table) renames v m e exact most = absurd (false≢true renames)
renaming_told s whole (AddColumn table c) renames v m e exact most = absurd (false≢true renames)
renaming_told s whole (RemoveColumn table column) renames v m e exact most = absurd (false≢true renames)
renaming_told s whole (ModifyColumn table c) renames v m e exact most = absurd (false≢true renames)
