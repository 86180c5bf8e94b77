-- Sums and maxima after the steps of a user action, and what it comes to by them.
use Rattle.std.proofs.Common.{ℕ, Bool, true, false, cond, ◌&&◌, ◌+◌, ◌-◌, ◌^◌, ◌<◌, ◌≤◌, List, [], ◌∷◌, map, length, ◌≡◌, refl, sym, ap, ◌∙◌, Option, Some, None, Result, Ok, Err, arith, ltb}
use Rattle.std.specs.Prelude.{nat_le}
use Rattle.std.proofs.lemmas.Bool.{and_parts, false≢true, true≢false, le-ltb, ltb-false}
use Rattle.std.specs.List.{list_all}
use Rattle.doc_model.specs.declared.action.DocAction.{DocAction}
use Rattle.doc_model.specs.declared.action.DocAction.TheVariants.{BulkAdd, BulkUpdate, BulkRemove, AddTable, RemoveTable, RenameTable, AddColumn, RemoveColumn, RenameColumn, ModifyColumn}
use Rattle.doc_model.specs.declared.action.Step.{Step}
use Rattle.doc_model.specs.declared.limit.LimitKind.{LimitKind}
use Rattle.doc_model.specs.declared.limit.LimitKind.TheVariants as limit
use Rattle.doc_model.specs.declared.user_action.UserAction.{UserAction}
use Rattle.doc_model.specs.Apply.{all_valid, apply, apply_all}
use Rattle.doc_model.specs.ByIds.{find_id}
use Rattle.doc_model.specs.CountLaws.{SumsMove, sums_added, sums_removed}
use Rattle.doc_model.specs.Counts.{Counts, counts, first_passed, over}
use Rattle.doc_model.specs.Document.{Document, Table, table_id}
use Rattle.doc_model.specs.DocumentLaws.{IsWhole}
use Rattle.doc_model.specs.MetadataIds.{is_metadata_id, is_schema_id}
use Rattle.doc_model.specs.Valid.{passes, valid}
use Rattle.doc_model.proofs.Choices.{both_true}
use Rattle.doc_model.proofs.SchemaCounts.{counts-apply}
use Rattle.action_limits.specs.declared.expansion.Expansion.{Expansion}
use Rattle.action_limits.specs.declared.limits.Counted.{Counted}
use Rattle.action_limits.specs.declared.tally.Tally.{Tally}
use Rattle.action_limits.specs.Capped.{AreTaken, all_moved, both_noted, capped, has_named, is_there, moved_by, maxima_noted, settled, tally_or_limit}
use Rattle.action_limits.specs.Left.{TellsMaxima}
use Rattle.user_actions.specs.StepLaws.{action_of}
use Rattle.user_actions.specs.Steps.{steps_of}
use Rattle.action_limits.specs.Tallies.{IsExpansion, IsTally, IsTallyOrLimit, after, are_within}
use Rattle.action_limits.proofs.SumMoves.{WasThere, sum_moved, was_there}

-- ---- an action that is valid has its table

there_in : (b : Bool) (o : Option Table) (test : Table → Bool) → passes (cond b None o) test ≡ true → passes o (λ _. true) ≡ true
there_in true o test h = absurd (false≢true h)
there_in false None test h = absurd (false≢true h)
there_in false (Some t) test h = refl

pub has_named-valid : (s : Document) (a : DocAction) → valid s a ≡ true → has_named s a ≡ true
has_named-valid s (BulkAdd table rows ks) v = there_in (is_schema_id table) (find_id table_id table s) _ v
has_named-valid s (BulkUpdate table rows ks) v = there_in (is_schema_id table) (find_id table_id table s) _ v
has_named-valid s (BulkRemove table rows) v = there_in (is_schema_id table) (find_id table_id table s) _ v
has_named-valid s (AddTable table row columns) v = refl
has_named-valid s (RemoveTable table) v = there_in (is_metadata_id table) (find_id table_id table s) _ v
has_named-valid s (RenameTable table new) v = there_in (is_metadata_id table) (find_id table_id table s) _ v
has_named-valid s (AddColumn table d) v = there_in (is_metadata_id table) (find_id table_id table s) _ v
has_named-valid s (RemoveColumn table column) v = there_in (is_metadata_id table) (find_id table_id table s) _ v
has_named-valid s (RenameColumn table column new) v = there_in (is_metadata_id table) (find_id table_id table s) _ v
has_named-valid s (ModifyColumn table column info) v = there_in (is_metadata_id table) (find_id table_id table s) _ v

-- ---- sums

-- the sums are those of the document, in 64 bits
pub record IsExact (m : Counted) (s : Document) : Type 0 where
  pub tables : m.tables ≡ (counts s).tables
  pub cells : m.cells ≡ (counts s).cells
  pub weight : m.weight ≡ (counts s).weight
  pub small_tables : (counts s).tables < 2 ^ 64
  pub small_cells : (counts s).cells < 2 ^ 64
  pub small_weight : (counts s).weight < 2 ^ 64

-- or as far as 64 bits can tell
pub record TellsSums (m : Counted) (s : Document) : Type 0 where
  pub tables : m.tables ≡ capped (counts s).tables
  pub cells : m.cells ≡ capped (counts s).cells
  pub weight : m.weight ≡ capped (counts s).weight

pub one_told : (s : Document) (a : DocAction) (m : Counted) → IsWhole s → valid s a ≡ true → IsExact m s → TellsSums (moved_by s m a) (apply s a)
one_told s a m whole v exact =
    let moved : SumsMove s (apply s a) a = counts-apply s a whole v in
    let there : WasThere s a = was_there s a whole v in
    record {
      tables = ap (λ n. capped (n - capped (sums_removed s a).tables + capped (sums_added s a).tables)) exact.tables
          ∙ sum_moved (counts s).tables (counts (apply s a)).tables (sums_removed s a).tables (sums_added s a).tables (capped (sums_removed s a).tables) (capped (sums_added s a).tables) _ exact.small_tables there.tables moved.tables refl refl refl;
      cells = ap (λ n. capped (n - capped (sums_removed s a).cells + capped (sums_added s a).cells)) exact.cells
          ∙ sum_moved (counts s).cells (counts (apply s a)).cells (sums_removed s a).cells (sums_added s a).cells (capped (sums_removed s a).cells) (capped (sums_added s a).cells) _ exact.small_cells there.cells moved.cells refl refl refl;
      weight = ap (λ n. capped (n - capped (sums_removed s a).weight + capped (sums_added s a).weight)) exact.weight
          ∙ sum_moved (counts s).weight (counts (apply s a)).weight (sums_removed s a).weight (sums_added s a).weight (capped (sums_removed s a).weight) (capped (sums_added s a).weight) _ exact.small_weight there.weight moved.weight refl refl refl;
    }

capped_small : (n : ℕ) → n < 2 ^ 64 → n ≡ capped n
capped_small n h = grind arith

pub none_told : (s : Document) (m : Counted) → IsExact m s → TellsSums m s
none_told s m exact = record {
  tables = exact.tables ∙ capped_small (counts s).tables exact.small_tables;
  cells = exact.cells ∙ capped_small (counts s).cells exact.small_cells;
  weight = exact.weight ∙ capped_small (counts s).weight exact.small_weight;
}

-- at most one step
pub any_told : (s : Document) (m : Counted) (steps : List Step) → length steps ≤ 1 → IsWhole s → all_valid s (map action_of steps) ≡ true → IsExact m s → TellsSums (all_moved s m steps) (apply_all s (map action_of steps))
any_told s m [] few whole v exact = none_told s m exact
any_told s m (x ∷ []) few whole v exact = one_told s x.action m whole (and_parts (valid s x.action) true v).0 exact
any_told s m (x ∷ y ∷ steps) few whole v exact = absurd (omega arith)

pub any_there : (s : Document) (steps : List Step) → length steps ≤ 1 → all_valid s (map action_of steps) ≡ true → list_all (is_there s) steps ≡ true
any_there s [] few v = refl
any_there s (x ∷ []) few v = both_true (has_named s x.action) true (has_named-valid s x.action (and_parts (valid s x.action) true v).0) refl
any_there s (x ∷ y ∷ steps) few v = absurd (omega arith)

-- ---- what limits see of counts

-- the counts stand on the same side of each bound
pub record SameSides (c d : Counts) : Type 0 where
  pub tables : ltb 2048 c.tables ≡ ltb 2048 d.tables
  pub columns : ltb 1024 c.columns ≡ ltb 1024 d.columns
  pub rows : ltb 1000000 c.rows ≡ ltb 1000000 d.rows
  pub row_id : ltb 4294967295 c.row_id ≡ ltb 4294967295 d.row_id
  pub cells : ltb 4000000 c.cells ≡ ltb 4000000 d.cells
  pub weight : ltb 268435456 c.weight ≡ ltb 268435456 d.weight

abbrev chosen : Bool → Bool → Bool → Bool → Bool → Bool → Option LimitKind
chosen t c r i n w =
    cond t (Some limit.Tables) (cond c (Some limit.Columns) (cond r (Some limit.Rows) (cond i (Some limit.RowId) (cond n (Some limit.Cells) (cond w (Some limit.Weight) None)))))

chosen_by : (c : Counts) → first_passed c ≡ chosen (ltb 2048 c.tables) (ltb 1024 c.columns) (ltb 1000000 c.rows) (ltb 4294967295 c.row_id) (ltb 4000000 c.cells) (ltb 268435456 c.weight)
chosen_by c = refl

pub first_passed-same : (c d : Counts) → SameSides c d → first_passed c ≡ first_passed d
first_passed-same c d e =
    ap (λ b. chosen b (ltb 1024 c.columns) (ltb 1000000 c.rows) (ltb 4294967295 c.row_id) (ltb 4000000 c.cells) (ltb 268435456 c.weight)) e.tables
    ∙ ap (λ b. chosen (ltb 2048 d.tables) b (ltb 1000000 c.rows) (ltb 4294967295 c.row_id) (ltb 4000000 c.cells) (ltb 268435456 c.weight)) e.columns
    ∙ ap (λ b. chosen (ltb 2048 d.tables) (ltb 1024 d.columns) b (ltb 4294967295 c.row_id) (ltb 4000000 c.cells) (ltb 268435456 c.weight)) e.rows
    ∙ ap (λ b. chosen (ltb 2048 d.tables) (ltb 1024 d.columns) (ltb 1000000 d.rows) b (ltb 4000000 c.cells) (ltb 268435456 c.weight)) e.row_id
    ∙ ap (λ b. chosen (ltb 2048 d.tables) (ltb 1024 d.columns) (ltb 1000000 d.rows) (ltb 4294967295 d.row_id) b (ltb 268435456 c.weight)) e.cells
    ∙ ap (λ b. chosen (ltb 2048 d.tables) (ltb 1024 d.columns) (ltb 1000000 d.rows) (ltb 4294967295 d.row_id) (ltb 4000000 d.cells) b) e.weight

-- where no limit is passed, each count is within its bound
record IsUnder (c : Counts) : Type 0 where
  tables : ltb 2048 c.tables ≡ false
  columns : ltb 1024 c.columns ≡ false
  rows : ltb 1000000 c.rows ≡ false
  row_id : ltb 4294967295 c.row_id ≡ false
  cells : ltb 4000000 c.cells ≡ false
  weight : ltb 268435456 c.weight ≡ false

none_chosen : (b : Bool) (k : LimitKind) (next : Option LimitKind) → cond b (Some k) next ≡ None → (b ≡ false) × (next ≡ None)
none_chosen true k next h = absurd (cc)
none_chosen false k next h = (refl, h)

under : (c : Counts) → first_passed c ≡ None → IsUnder c
under c h =
    let w : Option LimitKind = cond (ltb 268435456 c.weight) (Some limit.Weight) None in
    let n : Option LimitKind = cond (ltb 4000000 c.cells) (Some limit.Cells) w in
    let i : Option LimitKind = cond (ltb 4294967295 c.row_id) (Some limit.RowId) n in
    let r : Option LimitKind = cond (ltb 1000000 c.rows) (Some limit.Rows) i in
    let k : Option LimitKind = cond (ltb 1024 c.columns) (Some limit.Columns) r in
    let t : (ltb 2048 c.tables ≡ false) × (k ≡ None) = none_chosen (ltb 2048 c.tables) limit.Tables k h in
    let ck : (ltb 1024 c.columns ≡ false) × (r ≡ None) = none_chosen (ltb 1024 c.columns) limit.Columns r t.1 in
    let rk : (ltb 1000000 c.rows ≡ false) × (i ≡ None) = none_chosen (ltb 1000000 c.rows) limit.Rows i ck.1 in
    let ik : (ltb 4294967295 c.row_id ≡ false) × (n ≡ None) = none_chosen (ltb 4294967295 c.row_id) limit.RowId n rk.1 in
    let nk : (ltb 4000000 c.cells ≡ false) × (w ≡ None) = none_chosen (ltb 4000000 c.cells) limit.Cells w ik.1 in
    let wk : (ltb 268435456 c.weight ≡ false) × (◌≡◌ {A = Option LimitKind} None None) = none_chosen (ltb 268435456 c.weight) limit.Weight None nk.1 in
    record { tables = t.0; columns = ck.0; rows = rk.0; row_id = ik.0; cells = nk.0; weight = wk.0 }

both_told : (s : Document) (m : Counted) (e : Counted) → TellsSums m s → TellsMaxima e s → first_passed (both_noted m e) ≡ over s
both_told s m e sums most = first_passed-same (both_noted m e) (counts s) (record {
  tables = ap (ltb 2048) sums.tables ∙ Rattle.action_limits.proofs.CountedLemmas.capped_above 2048 (counts s).tables (omega arith);
  columns = most.columns;
  rows = most.rows;
  row_id = most.row_id;
  cells = ap (ltb 4000000) sums.cells ∙ Rattle.action_limits.proofs.CountedLemmas.capped_above 4000000 (counts s).cells (omega arith);
  weight = ap (ltb 268435456) sums.weight ∙ Rattle.action_limits.proofs.CountedLemmas.capped_above 268435456 (counts s).weight (omega arith);
})

capped_under : (b n : ℕ) → b < 2 ^ 64 - 1 → ltb b n ≡ false → capped n ≡ n
capped_under b n small h = let le : n ≤ b = ltb-false b n h in grind arith

le_true : (b n : ℕ) → ltb b n ≡ false → nat_le n b ≡ true
le_true b n h = let le : n ≤ b = ltb-false b n h in Rattle.std.proofs.lemmas.Bool.le-leb n b le

within_under : (c : Counts) → IsUnder c → true ≡ are_within c
within_under c u = sym (both_true (nat_le c.columns 1024) (nat_le c.rows 1000000 && nat_le c.row_id 4294967295) (le_true 1024 c.columns u.columns)
    (both_true (nat_le c.rows 1000000) (nat_le c.row_id 4294967295) (le_true 1000000 c.rows u.rows) (le_true 4294967295 c.row_id u.row_id)))

pub tally_is : (s : Document) (m : Counted) (e : Counted) → TellsSums m s → TellsMaxima e s → IsTallyOrLimit s (tally_or_limit m e)
tally_is s m e sums most =
    let same : first_passed (both_noted m e) ≡ over s = both_told s m e sums most in
    elim (first_passed (both_noted m e)) as (λ o. first_passed (both_noted m e) ≡ o → IsTallyOrLimit s (elim o as (λ _. Result Tally LimitKind) [
      | None ↦ Ok (record { tables = m.tables; cells = m.cells; weight = m.weight; within = true })
      | Some kind ↦ Err kind
    ])) [
      | None ↦ λ is.
          let room : over s ≡ None = sym same ∙ is in
          let u : IsUnder (counts s) = under (counts s) room in
          record {
            room = room;
            tally = record {
              tables = sums.tables ∙ capped_under 2048 (counts s).tables (omega arith) u.tables;
              cells = sums.cells ∙ capped_under 4000000 (counts s).cells (omega arith) u.cells;
              weight = sums.weight ∙ capped_under 268435456 (counts s).weight (omega arith) u.weight;
              within = within_under (counts s) u;
            };
          }
      | Some kind ↦ λ is. sym same ∙ is
    ] refl

pub settled_is : (s : Document) (a : UserAction) (m : Counted) (e : Counted) → all_valid s (map action_of (steps_of s a)) ≡ true → TellsSums m (after s a) → TellsMaxima e (after s a) → IsExpansion s a (settled (steps_of s a) m e)
settled_is s a m e v sums most =
    elim (tally_or_limit m e) as (λ r. IsTallyOrLimit (after s a) r → IsExpansion s a (elim r as (λ _. Expansion) [
      | Ok tally ↦ Rattle.action_limits.specs.declared.expansion.Expansion.TheVariants.Steps (steps_of s a) tally
      | Err kind ↦ Rattle.action_limits.specs.declared.expansion.Expansion.TheVariants.Limit kind
    ])) [
      | Ok tally ↦ λ told. record { made = refl; valid = v; room = told.room; tally = told.tally }
      | Err kind ↦ λ told. told
    ] (tally_is (after s a) m e sums most)

-- ---- the tally as sums

small_from : (m t n : ℕ) → m ≡ t → m ≡ capped t → t ≡ n → n < 2 ^ 64
small_from m t n same small is = grind arith

pub exact_from : (s : Document) (t : Tally) (m : Counted) → IsTally s t → AreTaken t m → IsExact m s
exact_from s t m is taken = record {
  tables = taken.tables ∙ is.tables;
  cells = taken.cells ∙ is.cells;
  weight = taken.weight ∙ is.weight;
  small_tables = small_from m.tables t.tables (counts s).tables taken.tables taken.small_tables is.tables;
  small_cells = small_from m.cells t.cells (counts s).cells taken.cells taken.small_cells is.cells;
  small_weight = small_from m.weight t.weight (counts s).weight taken.weight taken.small_weight is.weight;
}

-- ---- the first limits, before steps are made

chosen_early : (t c r i n w : Bool) (kind : LimitKind) → chosen t c r i false false ≡ Some kind → chosen t c r i n w ≡ Some kind
chosen_early true c r i n w kind h = h
chosen_early false true r i n w kind h = h
chosen_early false false true i n w kind h = h
chosen_early false false false true n w kind h = h
chosen_early false false false false n w kind h = absurd (cc)

pub early_is : (s : Document) (m : Counted) (e : Counted) (kind : LimitKind) → ltb 2048 m.tables ≡ ltb 2048 (counts s).tables → TellsMaxima e s → first_passed (maxima_noted m e) ≡ Some kind → over s ≡ Some kind
early_is s m e kind tables most h =
    chosen_early (ltb 2048 (counts s).tables) (ltb 1024 (counts s).columns) (ltb 1000000 (counts s).rows) (ltb 4294967295 (counts s).row_id) (ltb 4000000 (counts s).cells) (ltb 268435456 (counts s).weight) kind
    (sym (ap (λ b. chosen b (ltb 1024 e.columns) (ltb 1000000 e.rows) (ltb 4294967295 e.row_id) false false) tables
    ∙ ap (λ b. chosen (ltb 2048 (counts s).tables) b (ltb 1000000 e.rows) (ltb 4294967295 e.row_id) false false) most.columns
    ∙ ap (λ b. chosen (ltb 2048 (counts s).tables) (ltb 1024 (counts s).columns) b (ltb 4294967295 e.row_id) false false) most.rows
    ∙ ap (λ b. chosen (ltb 2048 (counts s).tables) (ltb 1024 (counts s).columns) (ltb 1000000 (counts s).rows) b false false) most.row_id) ∙ h)

pub early_row : (m : Counted) (e : Counted) → first_passed (maxima_noted m e) ≡ None → e.row_id ≤ 4294967295
early_row m e h = ltb-false 4294967295 e.row_id (under (maxima_noted m e) h).row_id
