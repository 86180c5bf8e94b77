-- What bundles of records leave is told by their steps.
use Rattle.std.proofs.Common.{ℕ, true, false, cond, List, [], ◌∷◌, map, ◌≡◌, refl, sym, ap, ◌∙◌, Option, Some, None, option_map, is_some}
use Rattle.std.proofs.lemmas.Bool.{and_parts, false≢true, true≢false}
use Rattle.doc_model.specs.declared.action.DocAction.{DocAction}
use Rattle.doc_model.specs.declared.column.ColDef.{ColDef}
use Rattle.doc_model.specs.declared.view.ViewTable.{ViewTable}
use Rattle.doc_model.specs.Apply.{all_valid, apply, apply_all}
use Rattle.doc_model.specs.ByIds.{find_id}
use Rattle.doc_model.specs.Changes.{shown_table_id}
use Rattle.doc_model.specs.Column.{column_id}
use Rattle.doc_model.specs.Document.{Document, Table, on_grid, table_id}
use Rattle.doc_model.specs.DocumentLaws.{IsWhole}
use Rattle.doc_model.specs.Grid.{Grid, IsGrid}
use Rattle.doc_model.specs.LaidOut.{IsLaidOut}
use Rattle.doc_model.specs.Schema.{no_grid}
use Rattle.doc_model.specs.Valid.{valid}
use Rattle.doc_model.proofs.ByIdsLaws.{found_all, same_by_ids}
use Rattle.doc_model.proofs.InverseLaws.{IsWhole-apply}
use Rattle.doc_readers.specs.Parts.{grid_at}
use Rattle.recalc.specs.Evaluated.{filled, value_of}
use Rattle.recalc.specs.FilledLaws.{LaidOutLaw}
use Rattle.recalc.proofs.FilledLemmas.{filled_table, find_filled}
use Rattle.censored_view.specs.Readable.{Readable, row_of}
use Rattle.censored_view.specs.View.{is_shown, shown_columns, shown_rows, view}
use Rattle.censored_view.proofs.ViewLemmas.{IsView-view, find-view, seen_whole}
use Rattle.action_censor.specs.Back.{AreStepsOf, back, grid_back, rows_back}
use Rattle.action_censor.specs.FollowLaws.{StepsLaw}
use Rattle.action_censor.specs.Step.{Step, are_records, is_of_records}
use Rattle.action_censor.proofs.BackLemmas.{IsLaidOut-back, find-back}
use Rattle.bundle_traces.specs.TraceLaws.{BundleLaw, steps_done}
use Rattle.bundle_traces.proofs.RecordActions.{Leads, leads}
use Rattle.bundle_traces.proofs.Traces.{is_step}

pub grid_is : (s : Document) → IsLaidOut s → (t : List ℕ) → IsGrid column_id (grid_at s t)
grid_is s laid t =
    elim (find_id table_id t s) as (λ (o : Option Table). find_id table_id t s ≡ o → IsGrid column_id (elim o as (λ _. Grid ColDef) [ None ↦ no_grid | Some u ↦ u.grid ])) [
      | None ↦ λ _. record { distinct = tt; ascending = tt; height = refl; width = tt }
      | Some u ↦ λ e. found_all table_id (λ (t : Table). IsGrid column_id t.grid) t s u laid.grids e
    ] refl

-- ---- table by table

module _ (laid_law : LaidOutLaw) where
  steps_lead : (s : Document) (actions : List DocAction) → IsWhole s → all_valid s actions ≡ true → are_records (steps_done s actions) ≡ true → (t : List ℕ)
      → AreStepsOf (steps_done s actions) t (grid_at (filled s) t) (grid_at (filled (apply_all s actions)) t)
  steps_lead s [] whole v is t = refl
  steps_lead s (a ∷ actions) whole v is t =
      let valids : (valid s a ≡ true) × (all_valid (apply s a) actions ≡ true) = and_parts (valid s a) (all_valid (apply s a) actions) v in
      let kinds : (is_of_records a ≡ true) × (are_records (steps_done (apply s a) actions) ≡ true) = and_parts (is_of_records a) (are_records (steps_done (apply s a) actions)) is in
      let whole' : IsWhole (apply s a) = IsWhole-apply s a whole valids.0 in
      (grid_at (filled (apply s a)) t, grid_is (filled (apply s a)) (laid_law (apply s a) whole') t, is_step s a whole valids.0 kinds.0 t, steps_lead (apply s a) actions whole' valids.1 kinds.1 t)

-- a table is there before where it is there after
both_some : (r : List ℕ → List ℕ) (o p : Option Table) → Leads r o p → is_some o ≡ is_some p
both_some r None None h = refl
both_some r None (Some y) h = absurd h
both_some r (Some x) None h = absurd h
both_some r (Some x) (Some y) h = refl

there_all : (s : Document) (actions : List DocAction) → IsWhole s → all_valid s actions ≡ true → are_records (steps_done s actions) ≡ true → (t : List ℕ)
    → is_some (find_id table_id t s) ≡ is_some (find_id table_id t (apply_all s actions))
there_all s [] whole v is t = refl
there_all s (a ∷ actions) whole v is t =
    let valids : (valid s a ≡ true) × (all_valid (apply s a) actions ≡ true) = and_parts (valid s a) (all_valid (apply s a) actions) v in
    let kinds : (is_of_records a ≡ true) × (are_records (steps_done (apply s a) actions) ≡ true) = and_parts (is_of_records a) (are_records (steps_done (apply s a) actions)) is in
    both_some (rows_back a t) (find_id table_id t s) (find_id table_id t (apply s a)) (leads s whole a valids.0 kinds.0 t)
    ∙ there_all (apply s a) actions (IsWhole-apply s a whole valids.0) valids.1 kinds.1 t

some_filled : (s : Document) (t : List ℕ) → is_some (find_id table_id t (filled s)) ≡ is_some (find_id table_id t s)
some_filled s t = ap is_some (find_filled (value_of s) t s) ∙ kept (find_id table_id t s)
  where
    kept : (o : Option Table) → is_some (option_map (filled_table (value_of s)) o) ≡ is_some o
    kept None = refl
    kept (Some x) = refl

-- ---- the views

abbrev seen_of : Readable → List ℕ → Grid ColDef → Option ViewTable
seen_of q c g = cond (is_shown q g.columns) (Some (shown_rows q c (shown_columns q g.columns) (map (row_of g) g.rows))) None

seen_back : (q : Readable) (c : List ℕ) (ks : List Step) (o p : Option Table) → is_some o ≡ is_some p
    → (elim o as (λ _. Grid ColDef) [ None ↦ no_grid | Some u ↦ u.grid ]) ≡ grid_back ks c (elim p as (λ _. Grid ColDef) [ None ↦ no_grid | Some u ↦ u.grid ])
    → seen_whole q c (option_map (on_grid (grid_back ks c)) p) ≡ seen_whole q c o
seen_back q c ks None None there same = refl
seen_back q c ks None (Some y) there same = absurd (false≢true there)
seen_back q c ks (Some x) None there same = absurd (true≢false there)
seen_back q c ks (Some x) (Some y) there same = ap (seen_of q c) (sym same)

pub views_back : LaidOutLaw → StepsLaw → BundleLaw
views_back laid_law steps_law x s actions whole v is =
    let ks : List Step = steps_done s actions in
    let after : Document = apply_all s actions in
    let whole' : IsWhole after = whole_all s actions whole v in
    let laid : IsLaidOut (filled s) = laid_law s whole in
    let laid' : IsLaidOut (filled after) = laid_law after whole' in
    let laid_back : IsLaidOut (back ks (filled after)) = IsLaidOut-back ks (filled after) laid' in
    same_by_ids shown_table_id (view x (back ks (filled after))) (view x (filled s))
    (IsView-view x (back ks (filled after)) laid_back).by_ids (IsView-view x (filled s) laid).by_ids
    (λ c.
    find-view x (back ks (filled after)) laid_back c
    ∙ ap (seen_whole (x c) c) (find-back ks (filled after) c)
    ∙ seen_back (x c) c ks (find_id table_id c (filled s)) (find_id table_id c (filled after))
    (some_filled s c ∙ there_all s actions whole v is c ∙ sym (some_filled after c))
    (steps_law ks c (grid_at (filled s) c) (grid_at (filled after) c) (grid_is (filled s) laid c) (grid_is (filled after) laid' c) (steps_lead laid_law s actions whole v is c))
    ∙ sym (find-view x (filled s) laid c))
  where
    whole_all : (s : Document) (actions : List DocAction) → IsWhole s → all_valid s actions ≡ true → IsWhole (apply_all s actions)
    whole_all s [] whole v = whole
    whole_all s (a ∷ actions) whole v =
        let valids : (valid s a ≡ true) × (all_valid (apply s a) actions ≡ true) = and_parts (valid s a) (all_valid (apply s a) actions) v in
        whole_all (apply s a) actions (IsWhole-apply s a whole valids.0) valids.1
