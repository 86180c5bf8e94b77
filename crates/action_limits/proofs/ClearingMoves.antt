-- Sums after records go and the references to them are cleared.
use Rattle.std.proofs.Common.{ℕ, Bool, true, false, cond, not, ◌&&◌, ◌+◌, ◌-◌, ◌^◌, ◌<◌, ◌≤◌, List, [], ◌∷◌, ◌++◌, map, filter, ◌≡◌, refl, sym, ap, ◌∙◌, Option, Some, None, option_map, unwrap_or, arith}
use Rattle.std.specs.Bool.{⊤}
use Rattle.std.specs.Prelude.{pos}
use Rattle.std.proofs.lemmas.Bool.{and_parts}
use Rattle.std.specs.List.{list_all, AllByRecursion}
use Rattle.std.specs.Str.{bytes_eq}
use Rattle.cell_types.specs.declared.column_type.ColType.{ColType}
use Rattle.cell_types.specs.declared.column_type.ColType.TheVariants as type
use Rattle.cell_types.specs.declared.value.CellItem.{CellItem}
use Rattle.cell_types.specs.declared.value.CellValue.{CellValue}
use Rattle.cell_types.specs.declared.value.CellValue.TheVariants as value
use Rattle.doc_model.specs.declared.action.DocAction.{DocAction}
use Rattle.doc_model.specs.declared.action.DocAction.TheVariants.{BulkRemove, BulkUpdate}
use Rattle.doc_model.specs.declared.action.Step.{Step}
use Rattle.doc_model.specs.declared.column.CellColumn.{CellColumn}
use Rattle.doc_model.specs.declared.column.ColDef.{ColDef}
use Rattle.doc_model.specs.Apply.{all_valid, apply, apply_all}
use Rattle.doc_model.specs.ByIds.{find_id}
use Rattle.doc_model.specs.Column.{column_id}
use Rattle.doc_model.specs.CountLaws.{Sums, SumsMove, column_weight, given_weight, nothing, sums_added, sums_removed}
use Rattle.doc_model.specs.Counts.{counts, item_weight, row_weight, total, value_weight}
use Rattle.doc_model.specs.Document.{Document, Table, on_grid, table_id}
use Rattle.doc_model.specs.DocumentLaws.{IsWhole}
use Rattle.doc_model.specs.Grid.{Grid, cell}
use Rattle.doc_model.specs.Records.{given, remove_rows, update_rows, value_for}
use Rattle.doc_model.specs.Rows.{has, without}
use Rattle.doc_model.specs.Same.{same_value}
use Rattle.doc_model.specs.Schema.{no_grid}
use Rattle.doc_model.specs.Valid.{passes, valid}
use Rattle.doc_model.specs.ViewEdits.{if_any}
use Rattle.doc_model.proofs.ByRowLaws.{find-with_id}
use Rattle.doc_model.proofs.Choices.{both_true, cond_false, each_weaker, map-map, map_each}
use Rattle.doc_model.proofs.DocumentParts.{applied}
use Rattle.doc_model.proofs.GridLaws.{cell-grid_of}
use Rattle.doc_model.proofs.InverseLaws.{IsWhole-apply}
use Rattle.doc_model.proofs.RowsLaws.{each_has, has-filter}
use Rattle.doc_model.proofs.SchemaCounts.{counts-apply}
use Rattle.doc_readers.specs.Parts.{grid_at}
use Rattle.action_limits.specs.declared.limits.Counted.{Counted}
use Rattle.action_limits.specs.Capped.{all_moved, all_moved_at, capped, has_named, is_there, moved_by}
use Rattle.action_limits.proofs.ExpansionLemmas.{IsExact, TellsSums, has_named-valid, none_told, one_told}
use Rattle.user_actions.specs.declared.referrers.Referrer.{Referrer}
use Rattle.user_actions.specs.CellUpdates.{column_changed, rows_changed}
use Rattle.user_actions.specs.Marked.{direct, indirect}
use Rattle.user_actions.specs.Given.{is_row}
use Rattle.user_actions.specs.References.{cleared, cleared_list, clearings, is_gone, list_or_null, name_gone, referrers, rows_staying}
use Rattle.user_actions.specs.StepLaws.{action_of}
use Rattle.user_actions.proofs.ApartLemmas.{AreApart, apart_referrers, same_key}
use Rattle.user_actions.proofs.ClearedLemmas.{same_id}
use Rattle.user_actions.proofs.ReferrerLemmas.{IsReferrer, each_referrer}
use Rattle.user_actions.proofs.SchemaStepLemmas.{bytes_symm}

-- ---- steps that take no more than they give

-- what an action adds is no more than what it removes
pub record IsLess (s : Document) (a : DocAction) : Type 0 where
  pub tables : (sums_added s a).tables ≤ (sums_removed s a).tables
  pub cells : (sums_added s a).cells ≤ (sums_removed s a).cells
  pub weight : (sums_added s a).weight ≤ (sums_removed s a).weight

no_more : (n g before c : ℕ) → n + g ≡ before + c → c ≤ g → before < 2 ^ 64 → n < 2 ^ 64
no_more n g before c e le h = omega arith

capped_back : (m n : ℕ) → m ≡ capped n → n < 2 ^ 64 → m ≡ n
capped_back m n e h = grind arith

pub exact_after : (s : Document) (a : DocAction) (m : Counted) → IsWhole s → valid s a ≡ true → IsExact m s → IsLess s a → IsExact (moved_by s m a) (apply s a)
exact_after s a m whole v exact less =
    let told : TellsSums (moved_by s m a) (apply s a) = one_told s a m whole v exact in
    let moved : SumsMove s (apply s a) a = counts-apply s a whole v in
    let t : (counts (apply s a)).tables < 2 ^ 64 = no_more (counts (apply s a)).tables (sums_removed s a).tables (counts s).tables (sums_added s a).tables moved.tables less.tables exact.small_tables in
    let c : (counts (apply s a)).cells < 2 ^ 64 = no_more (counts (apply s a)).cells (sums_removed s a).cells (counts s).cells (sums_added s a).cells moved.cells less.cells exact.small_cells in
    let w : (counts (apply s a)).weight < 2 ^ 64 = no_more (counts (apply s a)).weight (sums_removed s a).weight (counts s).weight (sums_added s a).weight moved.weight less.weight exact.small_weight in
    record {
      tables = capped_back (moved_by s m a).tables (counts (apply s a)).tables told.tables t;
      cells = capped_back (moved_by s m a).cells (counts (apply s a)).cells told.cells c;
      weight = capped_back (moved_by s m a).weight (counts (apply s a)).weight told.weight w;
      small_tables = t;
      small_cells = c;
      small_weight = w;
    }

-- each step takes at the first document what it takes at its own, and gives no more
abbrev pub AreAlike : Document → Document → List Step → Type 0
AreAlike s d [] = ⊤
AreAlike s d (x ∷ steps) = (sums_removed s x.action ≡ sums_removed d x.action) × (sums_added s x.action ≡ sums_added d x.action) × IsLess d x.action × AreAlike s (apply d x.action) steps

abbrev pub with_sums : Counted → Sums → Sums → Counted
with_sums m g c = record {
  tables = capped (m.tables - capped g.tables + capped c.tables);
  columns = m.columns;
  rows = m.rows;
  row_id = m.row_id;
  cells = capped (m.cells - capped g.cells + capped c.cells);
  weight = capped (m.weight - capped g.weight + capped c.weight);
}

pub all_told : (s d : Document) (m : Counted) (steps : List Step) → IsWhole d → IsExact m d → all_valid d (map action_of steps) ≡ true → AreAlike s d steps
    → (all_moved_at s m steps ≡ all_moved d m steps) × TellsSums (all_moved d m steps) (apply_all d (map action_of steps))
all_told s d m [] whole exact v h = (refl, none_told d m exact)
all_told s d m (x ∷ steps) whole exact v h =
    let a : DocAction = x.action in
    let parts : (valid d a ≡ true) × (all_valid (apply d a) (map action_of steps) ≡ true) = and_parts (valid d a) (all_valid (apply d a) (map action_of steps)) v in
    let same : moved_by s m a ≡ moved_by d m a = ap (λ g. with_sums m g (sums_added s a)) h.0 ∙ ap (λ c. with_sums m (sums_removed d a) c) h.1 in
    let rest : (all_moved_at s (moved_by d m a) steps ≡ all_moved (apply d a) (moved_by d m a) steps) × TellsSums (all_moved (apply d a) (moved_by d m a) steps) (apply_all (apply d a) (map action_of steps))
    = all_told s (apply d a) (moved_by d m a) steps (IsWhole-apply d a whole parts.0) (exact_after d a m whole parts.0 exact h.2) parts.1 h.3 in
    (ap (λ n. all_moved_at s n steps) same ∙ rest.0, rest.1)

-- ---- a cleared cell weighs no more

total_less : {X : Type 0} (f g : X → ℕ) (xs : List X) → ((x : X) → f x ≤ g x) → total (map f xs) ≤ total (map g xs)
total_less f g [] h = omega arith
total_less f g (x ∷ xs) h =
    let here : f x ≤ g x = h x in
    let rest : total (map f xs) ≤ total (map g xs) = total_less f g xs h in
    omega (arith, here, rest)

total_filter : {X : Type 0} (p : X → Bool) (f : X → ℕ) (xs : List X) → total (map f (filter p xs)) ≤ total (map f xs)
total_filter p f [] = omega arith
total_filter p f (x ∷ xs) =
    let rest : total (map f (filter p xs)) ≤ total (map f xs) = total_filter p f xs in
    elim (p x) as (λ b. total (map f (cond b (x ∷ filter p xs) (filter p xs))) ≤ total (map f (x ∷ xs))) [ true ↦ omega (arith, rest) | false ↦ omega (arith, rest) ]

null_weight : (items : List CellItem) → value_weight (list_or_null items) ≤ total (map item_weight items)
null_weight [] = omega arith
null_weight (i ∷ items) = omega arith

list_weight : (gone : List ℕ) (v : CellValue) → value_weight (cleared_list gone v) ≤ value_weight v
list_weight gone value.Null = omega arith
list_weight gone (value.Int n) = omega arith
list_weight gone (value.Bool b) = omega arith
list_weight gone (value.Text t) = omega arith
list_weight gone (value.Date n) = omega arith
list_weight gone (value.Rec r) = omega arith
list_weight gone (value.RecSet r) = omega arith
list_weight gone (value.List items) =
    let left : List CellItem = filter (λ i. not (is_gone gone i)) items in
    let one : value_weight (list_or_null left) ≤ total (map item_weight left) = null_weight left in
    let two : total (map item_weight left) ≤ total (map item_weight items) = total_filter (λ i. not (is_gone gone i)) item_weight items in
    elim (name_gone gone items) as (λ b. value_weight (cond b (list_or_null left) (value.List items)) ≤ total (map item_weight items)) [ true ↦ omega (arith, one, two) | false ↦ omega arith ]
list_weight gone (value.Err e) = omega arith
list_weight gone value.Censored = omega arith

reference_weight : (gone t : List ℕ) (v : CellValue) → value_weight (cleared gone (type.Ref t) v) ≤ value_weight v
reference_weight gone t value.Null = omega arith
reference_weight gone t (value.Int n) = elim (is_row gone n) as (λ b. value_weight (cond b (value.Int (pos 0)) (value.Int n)) ≤ 0) [ true ↦ omega arith | false ↦ omega arith ]
reference_weight gone t (value.Bool b) = omega arith
reference_weight gone t (value.Text x) = omega arith
reference_weight gone t (value.Date n) = omega arith
reference_weight gone t (value.Rec r) = omega arith
reference_weight gone t (value.RecSet r) = omega arith
reference_weight gone t (value.List items) = omega arith
reference_weight gone t (value.Err e) = omega arith
reference_weight gone t value.Censored = omega arith

cleared_weight : (gone : List ℕ) (ty : ColType) (v : CellValue) → value_weight (cleared gone ty v) ≤ value_weight v
cleared_weight gone type.Any v = omega arith
cleared_weight gone type.Text v = omega arith
cleared_weight gone type.Int v = omega arith
cleared_weight gone type.Bool v = omega arith
cleared_weight gone type.Date v = omega arith
cleared_weight gone (type.Ref t) v = reference_weight gone t v
cleared_weight gone (type.RefList t) v = list_weight gone v

-- ---- the columns that are still to be cleared

abbrev update_gone : List ℕ → List CellColumn → Option Table → Sums
update_gone rows ks o = elim o [ None ↦ nothing | Some t ↦ record { tables = 0; cells = 0; weight = total (map (λ (k : CellColumn). column_weight t.grid rows k.id) ks) } ]

module _ (s : Document) (table gone : List ℕ) where
  -- the table stands at the first document and at this one, and the column's cells are the same
  pub record IsPending (d : Document) (k : Referrer) : Type 0 where
    pub first : Table
    pub found_first : find_id table_id k.table s ≡ Some first
    pub now : Table
    pub found_now : find_id table_id k.table d ≡ Some now
    pub columns : now.grid.columns ≡ first.grid.columns
    pub rows : now.grid.rows ≡ cond (bytes_eq k.table table) (without gone first.grid.rows) first.grid.rows
    pub column : find_id column_id k.column.id first.grid.columns ≡ Some k.column
    pub same : (r : ℕ) → has now.grid.rows r ≡ true → cell column_id now.grid k.column.id r ≡ cell column_id first.grid k.column.id r

  module _ (d : Document) (k : Referrer) (is : IsPending d k) where
    abbrev f : CellValue → CellValue
    f = cleared gone k.column.info.ty

    abbrev c : List ℕ
    c = k.column.id

    abbrev rows : List ℕ
    rows = rows_changed (grid_at s k.table) c f (rows_staying s table gone k.table)

    abbrev given_column : CellColumn
    given_column = column_changed (grid_at s k.table) c f rows

    abbrev update : DocAction
    update = BulkUpdate k.table rows (given_column ∷ [])

    told : grid_at s k.table ≡ is.first.grid
    told = ap (λ (o : Option Table). elim o as (λ _. Grid ColDef) [ None ↦ no_grid | Some t ↦ t.grid ]) is.found_first

    staying : rows_staying s table gone k.table ≡ is.now.grid.rows
    staying = ap (λ (g : Grid ColDef). cond (bytes_eq k.table table) (without gone g.rows) g.rows) told ∙ sym is.rows

    within : (r : ℕ) → has rows r ≡ true → has is.now.grid.rows r ≡ true
    within r here =
        ap (λ l. has l r) (sym staying)
        ∙ (and_parts (not (same_value (cell column_id (grid_at s k.table) c r) (f (cell column_id (grid_at s k.table) c r)))) (has (rows_staying s table gone k.table) r)
        (sym (has-filter (λ r. not (same_value (cell column_id (grid_at s k.table) c r) (f (cell column_id (grid_at s k.table) c r)))) (rows_staying s table gone k.table) r) ∙ here)).1

    weights : column_weight is.first.grid rows c ≡ column_weight is.now.grid rows c
    weights =
        ap total (map_each (λ r. value_weight (cell column_id is.first.grid c r)) (λ r. value_weight (cell column_id is.now.grid c r)) rows
        (each_has (λ r. value_weight (cell column_id is.first.grid c r) ≡ value_weight (cell column_id is.now.grid c r)) rows (λ r here. ap value_weight (sym (is.same r (within r here))))))

    removed_now : sums_removed d update ≡ update_gone rows (given_column ∷ []) (Some is.now)
    removed_now = ap (update_gone rows (given_column ∷ [])) is.found_now

    removed_same : sums_removed s update ≡ sums_removed d update
    removed_same =
        ap (update_gone rows (given_column ∷ [])) is.found_first
        ∙ ap (λ n. let w : Sums = record { tables = 0; cells = 0; weight = n + 0 } in w) weights
        ∙ sym removed_now

    less_weight : given_weight (given_column ∷ []) ≤ column_weight is.now.grid rows c + 0
    less_weight =
        let g : Grid ColDef = grid_at s k.table in
        let made : total (map (λ r. value_weight (f (cell column_id g c r))) rows) ≡ row_weight given_column.values = ap total (map-map value_weight (λ r. f (cell column_id g c r)) rows) in
        let fewer : total (map (λ r. value_weight (f (cell column_id g c r))) rows) ≤ total (map (λ r. value_weight (cell column_id g c r)) rows)
        = total_less (λ r. value_weight (f (cell column_id g c r))) (λ r. value_weight (cell column_id g c r)) rows (λ r. cleared_weight gone k.column.info.ty (cell column_id g c r)) in
        let at : total (map (λ r. value_weight (cell column_id g c r)) rows) ≡ column_weight is.now.grid rows c = ap (λ g. column_weight g rows c) told ∙ weights in
        omega (arith, made, fewer, at)

    less : IsLess d update
    less =
        let w : (sums_removed d update).weight ≡ column_weight is.now.grid rows c + 0 = ap (λ (x : Sums). x.weight) removed_now in
        record { tables = omega arith; cells = omega arith; weight = omega (arith, w, less_weight) }

    given_other : (n : List ℕ) (r : ℕ) → bytes_eq c n ≡ false → given rows (given_column ∷ []) n r ≡ None
    given_other n r apart = cond_false (bytes_eq c n) (value_for rows given_column.values r) None apart

    -- the others are pending behind it
    keep : (v : valid d update ≡ true) (j : Referrer) → same_key k j ≡ false → IsPending d j → IsPending (apply d update) j
    keep v j apart p =
        let h : Table → Table = on_grid (update_rows column_id rows (given_column ∷ [])) in
        let found : find_id table_id j.table (apply d update) ≡ cond (bytes_eq k.table j.table) (Some (h p.now)) (Some p.now)
        = ap (find_id table_id j.table) (applied d update v) ∙ find-with_id table_id k.table h (λ x. refl) d j.table
        ∙ ap (λ o. cond (bytes_eq k.table j.table) (option_map h o) o) p.found_now in
        let there : find_id column_id j.column.id p.now.grid.columns ≡ Some j.column = ap (find_id column_id j.column.id) p.columns ∙ p.column in
        elim (bytes_eq k.table j.table) as (λ b. (b && bytes_eq c j.column.id) ≡ false → find_id table_id j.table (apply d update) ≡ cond b (Some (h p.now)) (Some p.now) → IsPending (apply d update) j) [
          | true ↦ λ other e. record {
            first = p.first;
            found_first = p.found_first;
            now = h p.now;
            found_now = e;
            columns = p.columns;
            rows = p.rows;
            column = p.column;
            same = λ r here.
                cell-grid_of column_id p.now.grid.columns p.now.grid.rows (λ e r. unwrap_or (given rows (given_column ∷ []) (column_id e) r) (cell column_id p.now.grid (column_id e) r)) j.column r there here
                ∙ ap (λ o. unwrap_or o (cell column_id p.now.grid j.column.id r)) (given_other j.column.id r other)
                ∙ p.same r here;
          }
          | false ↦ λ other e. record {
            first = p.first;
            found_first = p.found_first;
            now = p.now;
            found_now = e;
            columns = p.columns;
            rows = p.rows;
            column = p.column;
            same = p.same;
          }
        ] apart found

  if_case : (d : Document) (some : List ℕ) (x : Step) (rest : List Step) → (all_valid d (map action_of (x ∷ rest)) ≡ true → AreAlike s d (x ∷ rest)) → (all_valid d (map action_of rest) ≡ true → AreAlike s d rest)
      → all_valid d (map action_of (if_any some x ++ rest)) ≡ true → AreAlike s d (if_any some x ++ rest)
  if_case d [] x rest one none v = none v
  if_case d (q ∷ some) x rest one none v = one v

  all_keep : (d : Document) (k : Referrer) (is : IsPending d k) → valid d (update d k is) ≡ true → (ks : List Referrer) → AllByRecursion (λ j. same_key k j ≡ false) ks → AllByRecursion (IsPending d) ks → AllByRecursion (IsPending (apply d (update d k is))) ks
  all_keep d k is v [] apart h = tt
  all_keep d k is v (j ∷ ks) apart h = (keep d k is v j apart.0 h.0, all_keep d k is v ks apart.1 h.1)

  clear_alike : (d : Document) (ks : List Referrer) → AreApart ks → AllByRecursion (IsPending d) ks → all_valid d (map action_of (clearings s table gone ks)) ≡ true → AreAlike s d (clearings s table gone ks)
  clear_alike d [] apart h v = tt
  clear_alike d (k ∷ ks) apart h v =
      let is : IsPending d k = h.0 in
      let a : DocAction = update d k is in
      let rest : List Step = clearings s table gone ks in
      if_case d (rows d k is) (indirect a) rest
      (λ v.
      let parts : (valid d a ≡ true) × (all_valid (apply d a) (map action_of rest) ≡ true) = and_parts (valid d a) (all_valid (apply d a) (map action_of rest)) v in
      (removed_same d k is, refl, less d k is, clear_alike (apply d a) ks apart.1 (all_keep d k is parts.0 ks apart.0 h.1) parts.1))
      (λ v. clear_alike d ks apart.1 h.1 v) v

  if_there : (some : List ℕ) (x : Step) (rest : List Step) → is_there s x ≡ true → list_all (is_there s) rest ≡ true → list_all (is_there s) (if_any some x ++ rest) ≡ true
  if_there [] x rest here h = h
  if_there (q ∷ some) x rest here h = both_true (is_there s x) (list_all (is_there s) rest) here h

  clear_there : (d : Document) (ks : List Referrer) → AllByRecursion (IsPending d) ks → list_all (is_there s) (clearings s table gone ks) ≡ true
  clear_there d [] h = refl
  clear_there d (k ∷ ks) h =
      if_there (rows d k h.0) (indirect (update d k h.0)) (clearings s table gone ks) (ap (λ o. passes o (λ _. true)) h.0.found_first) (clear_there d ks h.1)

-- ---- records that go

module _ (s : Document) (whole : IsWhole s) (table gone : List ℕ) (v : valid s (BulkRemove table gone) ≡ true) where
  abbrev after : Document
  after = apply s (BulkRemove table gone)

  one_pending : (k : Referrer) → IsReferrer s table table false k → IsPending s table gone after k
  one_pending k is =
      let t : Table = is.table in
      let h : Table → Table = on_grid (remove_rows column_id gone) in
      let named : k.table ≡ is.id = is.named ∙ same_id table is.id in
      let there : find_id table_id k.table s ≡ Some t = ap (λ n. find_id table_id n s) named ∙ is.there in
      let found : find_id table_id k.table after ≡ cond (bytes_eq k.table table) (Some (h t)) (Some t)
      = ap (find_id table_id k.table) (applied s (BulkRemove table gone) v) ∙ find-with_id table_id table h (λ x. refl) s k.table
      ∙ ap (λ o. cond (bytes_eq table k.table) (option_map h o) o) there
      ∙ ap (λ b. cond b (Some (h t)) (Some t)) (bytes_symm table k.table) in
      elim (bytes_eq k.table table) as (λ b. bytes_eq k.table table ≡ b → find_id table_id k.table after ≡ cond b (Some (h t)) (Some t) → IsPending s table gone after k) [
        | true ↦ λ e at. record {
          first = t;
          found_first = there;
          now = h t;
          found_now = at;
          columns = refl;
          rows = sym (ap (λ b. cond b (without gone t.grid.rows) t.grid.rows) e);
          column = is.found;
          same = λ r here. cell-grid_of column_id t.grid.columns (without gone t.grid.rows) (λ d r. cell column_id t.grid (column_id d) r) k.column r is.found here;
        }
        | false ↦ λ e at. record {
          first = t;
          found_first = there;
          now = t;
          found_now = at;
          columns = refl;
          rows = sym (ap (λ b. cond b (without gone t.grid.rows) t.grid.rows) e);
          column = is.found;
          same = λ r here. refl;
        }
      ] refl found

  pending : AllByRecursion (IsPending s table gone after) (referrers s table table false)
  pending = each_weaker (IsReferrer s table table false) (IsPending s table gone after) one_pending (referrers s table table false) (each_referrer s whole table table false)

  pub removal_there : list_all (is_there s) (direct (BulkRemove table gone) ∷ clearings s table gone (referrers s table table false)) ≡ true
  removal_there =
      both_true (has_named s (BulkRemove table gone)) (list_all (is_there s) (clearings s table gone (referrers s table table false))) (has_named-valid s (BulkRemove table gone) v)
      (clear_there s table gone after (referrers s table table false) pending)

  pub removal_alike : all_valid after (map action_of (clearings s table gone (referrers s table table false))) ≡ true → AreAlike s s (direct (BulkRemove table gone) ∷ clearings s table gone (referrers s table table false))
  removal_alike w = (
    refl,
    refl,
    record { tables = omega arith; cells = omega arith; weight = omega arith },
    clear_alike s table gone after (referrers s table table false) (apart_referrers s whole table false) pending w,
  )
