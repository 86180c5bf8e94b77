-- Accepted bundles are done, and the undo of one takes it back.
use Rattle.std.proofs.Common.{ℕ, zero, suc, ◌+◌, ◌-◌, ◌≤◌, ◌^◌, ◌≡◌, Bool, true, false, cond, ◌&&◌, List, [], ◌∷◌, map, filter, not, length, nat_le, nat_lt, Option, Some, None, Result, Ok, Err, ◌⊎◌, ⊎_elim, refl, sym, ap, subst, ◌∙◌, arith}
use Rattle.std.proofs.lemmas.Bool.{and_parts, le-leb, leb-true, ltb-false, ltb-true}
use Rattle.std.proofs.lemmas.List.{map-append}
use Rattle.std.specs.List.{AllByRecursion, list_all}
use Rattle.doc_model.specs.declared.action.DocAction.{DocAction}
use Rattle.doc_model.specs.declared.action.Step.{Step}
use Rattle.doc_model.specs.declared.column.ColDef.{ColDef}
use Rattle.doc_model.specs.declared.limit.LimitKind.{LimitKind}
use Rattle.doc_model.specs.declared.limit.LimitKind.TheVariants as limit
use Rattle.doc_model.specs.declared.refusal.Refusal.{Refusal}
use Rattle.doc_model.specs.declared.refusal.Refusal.TheVariants.{UndoStale}
use Rattle.doc_model.specs.declared.user.User.{User}
use Rattle.doc_model.specs.declared.user_action.UserAction.{UserAction}
use Rattle.doc_model.specs.Apply.{all_valid, apply, apply_all}
use Rattle.doc_model.specs.ByIds.{find_id}
use Rattle.doc_model.specs.Column.{column_id}
use Rattle.doc_model.specs.Counts.{bound_of, counts, greatest, over, passed}
use Rattle.doc_model.specs.Document.{Document, Table, table_id}
use Rattle.doc_model.specs.DocumentLaws.{IsWhole}
use Rattle.doc_model.specs.Grid.{Grid}
use Rattle.doc_model.specs.MetadataIds.{is_metadata_id, tables_id, columns_id, resources_id, rules_id}
use Rattle.doc_model.specs.Schema.{no_grid, plain_tables, resources, rules, with_schema}
use Rattle.doc_model.specs.Valid.{valid}
use Rattle.doc_model.specs.WellFormed.{is_well_formed}
use Rattle.doc_model.proofs.ByIdsLaws.{found_all}
use Rattle.doc_model.proofs.Choices.{cond_true, each_weaker, filter_all, length_map}
use Rattle.doc_model.proofs.InverseLaws.{IsWhole-apply_all}
use Rattle.doc_model.proofs.WholeLaws.{good_from}
use Rattle.doc_model.proofs.WellFormedLaws.{has_whole_columns-is_well_formed}
use Rattle.doc_readers.specs.Parts.{grid_at}
use Rattle.undo_bundles.specs.BundleLog.{Log, bundle_at, count, empty_log, noted, undo_of, undo_of_bundle}
use Rattle.undo_bundles.specs.declared.log.LogFault.{LogFault}
use Rattle.undo_bundles.specs.declared.log.LogFault.TheVariants as fault
use Rattle.undo_bundles.specs.InverseSteps.{inverse_steps}
use Rattle.undo_bundles.proofs.InverseLaws.{inverse_steps_law}
use Rattle.undo_bundles.proofs.LogLaws.{noted_own}
use Rattle.user_actions.specs.Allowed.{is_allowed}
use Rattle.user_actions.specs.FreshIds.{HasFewIds, StepsLaw, new_columns_of}
use Rattle.user_actions.specs.Kinds.{table_of}
use Rattle.user_objections.specs.Objections.{objection_to}
use Rattle.user_actions.specs.StepLaws.{action_of}
use Rattle.user_actions.specs.Steps.{steps_of}
use Rattle.acl_rules.specs.declared.decision.Ctx.{Ctx}
use Rattle.action_limits.specs.Tallies.{after}
use Rattle.bundle_judge.specs.declared.bare_verdict.BareVerdict.TheVariants as verdict
use Rattle.bundle_judge.specs.declared.bare_verdict.BareVerdict.{BareVerdict}
use Rattle.bundle_judge.specs.declared.created.Created.{Created}
use Rattle.rule_contexts.specs.Context.{carry, carry_all, context, view_in}
use Rattle.rule_contexts.specs.SeenLaws.{AllowedLaw}
use Rattle.bundle_judge.specs.Denials.{denial_at, denial_of, denied_by, denying_row, or_else}
use Rattle.bundle_judge.specs.JudgedBundles.{after_steps}
use Rattle.bundle_judge.specs.Judgement.{Judgement, accepted, refused, created_at, judge, judge_from, limited, opposed, opposed_at, refusal_at, with_before}
use Rattle.bundle_judge.specs.Undo.{judge_own_undo, judge_undo, stale_at, unfit_at}
use Rattle.bundle_core.specs.UndoLaw.{LimitsLeaveFewIds, NewDocumentHasFewIds, has_few_columns, has_few_ids, may_be_asked}
use Rattle.bundle_judge.proofs.JudgmentLemmas.{all_valid-append}
use Rattle.action_limits.proofs.RenameMoves.{apply_all-append}

-- ---- a whole document with few ids, and steps from one to another

pub record IsFine (s : Document) : Type 0 where
  pub whole : IsWhole s
  pub few : has_few_ids s ≡ true

pub new_few : NewDocumentHasFewIds
unfolding tables_id columns_id resources_id rules_id
new_few = refl

pub record AreDone (s : Document) (steps : List Step) (t : Document) : Type 0 where
  pub valid : all_valid s (map action_of steps) ≡ true
  pub leads : t ≡ after_steps s steps
  pub fine : IsFine t

not_passed : (kind : LimitKind) (n : ℕ) (next : Option LimitKind) → passed kind n next ≡ None → (n ≤ bound_of kind) × (next ≡ None)
not_passed kind n next =
    elim (nat_lt (bound_of kind) n) as (λ b. nat_lt (bound_of kind) n ≡ b → cond b (Some kind) next ≡ None → (n ≤ bound_of kind) × (next ≡ None)) [
      | true ↦ λ _ e. absurd (cc)
      | false ↦ λ few e. (ltb-false (bound_of kind) n few, e)
    ] refl

-- ---- a document that passes no limit has few ids

each_below : (h : Table → ℕ) (b : ℕ) (s : Document) → greatest (map h s) ≤ b → AllByRecursion (λ t. h t ≤ b) s
each_below h b [] le = tt
each_below h b (t ∷ s) le =
    let most = greatest (map h s) in
    elim (nat_lt (h t) most) as (λ c. nat_lt (h t) most ≡ c → cond c most (h t) ≤ b → (h t ≤ b) × AllByRecursion (λ t. h t ≤ b) s) [
      | true ↦ λ is le. (omega (arith, ltb-true (h t) most is, le), each_below h b s le)
      | false ↦ λ isnt le. (le, each_below h b s (omega (arith, ltb-false (h t) most isnt, le)))
    ] refl le

four_more : (r u : Grid ColDef) (p : List Table) → AllByRecursion (λ t. is_metadata_id t.id ≡ false) p → length (with_schema r u p) ≡ (counts (with_schema r u p)).tables + 4
unfolding tables_id columns_id resources_id rules_id
four_more r u p plain =
    let test : Table → Bool = λ t. not (is_metadata_id t.id) in
    let all : length (filter test p) ≡ length p = ap length (filter_all test p (each_weaker (λ t. is_metadata_id t.id ≡ false) (λ t. test t ≡ true) (λ t e. ap not e) p plain)) in
    omega (arith, all)

how_many : (s : Document) → IsWhole s → length s ≡ (counts s).tables + 4
how_many s whole =
    let P : Document → Type 0 = λ d. length d ≡ (counts d).tables + 4 in
    subst P (sym whole.agrees.schema) (four_more (resources s) (rules s) (plain_tables s) (good_from s whole).plain)

all_few : (s : Document) → AllByRecursion (λ t. length t.grid.columns ≤ 1024) s → list_all has_few_columns s ≡ true
all_few [] h = refl
all_few (t ∷ s) h = ap (λ b. b && list_all has_few_columns s) (le-leb (length t.grid.columns) (2 ^ 60) (omega (arith, h.0))) ∙ all_few s h.1

pub few_within : LimitsLeaveFewIds
few_within s whole room =
    let tables = not_passed limit.Tables (counts s).tables _ room in
    let columns = not_passed limit.Columns (counts s).columns _ tables.1 in
    ap (λ b. b && list_all has_few_columns s) (le-leb (length s) (2 ^ 60) (omega (arith, how_many s whole, tables.0)))
    ∙ all_few s (each_below (λ t. length t.grid.columns) 1024 s columns.0)

each_few : (s : Document) → list_all has_few_columns s ≡ true → AllByRecursion (λ t. length t.grid.columns ≤ 2 ^ 60) s
each_few [] e = tt
each_few (t ∷ s) e =
    let both = and_parts (has_few_columns t) (list_all has_few_columns s) e in
    (leb-true (length t.grid.columns) (2 ^ 60) both.0, each_few s both.1)

few_columns : (s : Document) (table : List ℕ) → list_all has_few_columns s ≡ true → length (grid_at s table).columns ≤ 2 ^ 60
few_columns s table few =
    elim (find_id table_id table s) as (λ o. find_id table_id table s ≡ o → length (elim o as (λ _. Grid ColDef) [ None ↦ no_grid | Some t ↦ t.grid ]).columns ≤ 2 ^ 60) [
      | None ↦ λ _. omega arith
      | Some t ↦ λ found. found_all table_id (λ t. length t.grid.columns ≤ 2 ^ 60) table s t (each_few s few) found
    ] refl

few_ids : (s : Document) (a : UserAction) → IsFine s → nat_le (new_columns_of a) (2 ^ 60) ≡ true → HasFewIds s a
few_ids s a fine few =
    let both = and_parts (nat_le (length s) (2 ^ 60)) (list_all has_few_columns s) fine.few in
    record {
      tables = omega (arith, length_map table_id s, leb-true (length s) (2 ^ 60) both.0);
      columns = omega (arith, length_map column_id (grid_at s (table_of a)).columns, few_columns s (table_of a) both.1);
      new = leb-true (new_columns_of a) (2 ^ 60) few;
    }

fine_within : (s : Document) → IsWhole s → over s ≡ None → IsFine s
fine_within s whole room = record { whole = whole; few = few_within s whole room }

-- ---- what is accepted is done

abbrev pub IsDone : Document → Judgement → Type 0
IsDone s (accepted t steps ms) = AreDone s steps t
IsDone s (refused v) = Unit {0}

done_before : (s : Document) (xs : List Step) (ms : List Created) (j : Judgement) → all_valid s (map action_of xs) ≡ true → IsDone (after_steps s xs) j → IsDone s (with_before xs ms j)
done_before s xs ms (refused v) may d = tt
done_before s xs ms (accepted t steps later) may d = record {
  valid = ap (all_valid s) (map-append action_of xs steps) ∙ all_valid-append s (map action_of xs) (map action_of steps) may d.valid;
  leads = d.leads ∙ sym (ap (apply_all s) (map-append action_of xs steps) ∙ apply_all-append s (map action_of xs) (map action_of steps));
  fine = d.fine;
}

unopposed : (i : ℕ) (o : Option Refusal) (k : Option LimitKind) → opposed i o k ≡ None → (o ≡ None) × (k ≡ None)
unopposed i (Some r) k e = absurd (cc)
unopposed i None (Some k) e = absurd (cc)
unopposed i None None e = (refl, refl)

-- where neither is there, the first is not
first_none : (o p : Option BareVerdict) → or_else o p ≡ None → o ≡ None
first_none None p e = refl
first_none (Some v) p e = absurd (cc)

module _ (allowed_law : AllowedLaw) (steps_law : StepsLaw) where
  action_done : (x : Ctx) (s : Document) (i : ℕ) (a : UserAction) → IsFine s → may_be_asked a ≡ true → opposed_at x s i a ≡ None → AreDone s (steps_of s a) (after s a)
  action_done x s i a fine asked none =
      let may = and_parts (is_well_formed a) (nat_le (new_columns_of a) (2 ^ 60)) asked in
      let free = unopposed i (objection_to (view_in x s) a) (over (after s a)) none in
      let allowed : is_allowed s a ≡ true = allowed_law x s a fine.whole free.0 in
      let steps_valid = steps_law s a fine.whole allowed (has_whole_columns-is_well_formed a may.0) (few_ids s a fine may.1) in
      record {
        valid = steps_valid;
        leads = refl;
        fine = fine_within (after s a) (IsWhole-apply_all s (map action_of (steps_of s a)) fine.whole steps_valid) free.1;
      }

  done_from : (x : Ctx) (s : Document) (i : ℕ) (as' : List UserAction) → IsFine s → list_all may_be_asked as' ≡ true → IsDone s (judge_from x s i as')
  done_from x s i [] fine asked = record { valid = refl; leads = refl; fine = fine }
  done_from x s i (a ∷ as') fine asked =
      let both = and_parts (may_be_asked a) (list_all may_be_asked as') asked in
      let y = carry_all (steps_of s a) x in
      elim (refusal_at x s i a) as (λ o. refusal_at x s i a ≡ o → IsDone s (elim o as (λ _. Judgement) [
        | Some v ↦ refused v
        | None ↦ with_before (steps_of s a) (created_at s a ∷ []) (judge_from y (after s a) (i + 1) as')
      ])) [
        | Some v ↦ λ _. tt
        | None ↦ λ none.
            let d = action_done x s i a fine both.0 (first_none (opposed_at x s i a) (denial_of x s i (steps_of s a)) none) in
            done_before s (steps_of s a) (created_at s a ∷ []) (judge_from y (after s a) (i + 1) as') d.valid (done_from y (after s a) (i + 1) as' d.fine both.1)
      ] refl

  pub done_judge : (user : User) (s : Document) (as' : List UserAction) → IsFine s → list_all may_be_asked as' ≡ true → IsDone s (judge user s as')
  done_judge user s as' fine asked =
      elim (nat_lt (bound_of limit.Actions) (length as')) as (λ b. IsDone s (cond b (refused (verdict.Limited limit.Actions (bound_of limit.Actions) (Some (bound_of limit.Actions)))) (judge_from (context user s) s 0 as'))) [
        | true ↦ tt
        | false ↦ done_from (context user s) s 0 as' fine asked
      ]

-- what the judgement of a bundle accepts is done
abbrev pub BundlesAreDone : Type 0
BundlesAreDone = (user : User) (s : Document) (as' : List UserAction) → IsFine s → list_all may_be_asked as' ≡ true → IsDone s (judge user s as')

not_stale : (s : Document) (i : ℕ) (a : DocAction) → stale_at s i a ≡ None → (valid s a ≡ true) × (over (apply s a) ≡ None)
not_stale s i a =
    elim (valid s a) as (λ b. cond b (limited i (over (apply s a))) (Some (verdict.Refused UndoStale (Some i))) ≡ None → (b ≡ true) × (over (apply s a) ≡ None)) [
      | true ↦ elim (over (apply s a)) as (λ o. limited i o ≡ None → (true ≡ true) × (o ≡ None)) [ Some k ↦ λ e. absurd (cc) | None ↦ λ _. (refl, refl) ]
      | false ↦ λ e. absurd (cc)
    ]

done_undo : (x : Ctx) (s : Document) (i : ℕ) (es : List Step) → IsFine s → IsDone s (judge_undo x s i es)
done_undo x s i [] fine = record { valid = refl; leads = refl; fine = fine }
done_undo x s i (e ∷ es) fine =
    let y = carry e.action x in
    elim (unfit_at x s i e) as (λ o. unfit_at x s i e ≡ o → IsDone s (elim o as (λ _. Judgement) [ Some v ↦ refused v | None ↦ with_before (e ∷ []) [] (judge_undo y (apply s e.action) (i + 1) es) ])) [
      | Some v ↦ λ _. tt
      | None ↦ λ none.
          let may = not_stale s i e.action (first_none (stale_at s i e.action) (denial_at x s i e) none) in
          let one : all_valid s (e.action ∷ []) ≡ true = ap (λ b. b && true) may.0 in
          let next : IsFine (apply s e.action) = fine_within (apply s e.action) (IsWhole-apply_all s (e.action ∷ []) fine.whole one) may.1 in
          done_before s (e ∷ []) [] (judge_undo y (apply s e.action) (i + 1) es) one (done_undo y (apply s e.action) (i + 1) es next)
    ] refl

pub done_own : (user : User) (o : Result (List Step) LogFault) (s : Document) → IsFine s → IsDone s (judge_own_undo user o s)
done_own user (Ok es) s fine = done_undo (context user s) s 0 es fine
done_own user (Err why) s fine = tt

-- ---- the undo of valid steps

-- what is accepted leads to this document, and nothing is refused as stale
abbrev pub TakesBack : Document → Judgement → Type 0
TakesBack t (accepted u steps ms) = u ≡ t
TakesBack t (refused v) = (at : Option ℕ) → v ≡ verdict.Refused UndoStale at → ⊥

back_before : (t : Document) (xs : List Step) (ms : List Created) (j : Judgement) → TakesBack t j → TakesBack t (with_before xs ms j)
back_before t xs ms (accepted u steps later) b = b
back_before t xs ms (refused v) b = b

back_undo : (x : Ctx) (s : Document) (i : ℕ) (es : List Step) → all_valid s (map action_of es) ≡ true → TakesBack (after_steps s es) (judge_undo x s i es)
back_undo x s i [] may = refl
back_undo x s i (e ∷ es) may =
    let next = apply s e.action in
    let y = carry e.action x in
    let both = and_parts (valid s e.action) (all_valid next (map action_of es)) may in
    let P : Option BareVerdict → Type 0 = λ o. TakesBack (after_steps next es) (elim o as (λ _. Judgement) [ Some v ↦ refused v | None ↦ with_before (e ∷ []) [] (judge_undo y next (i + 1) es) ]) in
    let allowed : P (denial_at x s i e) = elim (denying_row x s e) as (λ row. P (denied_by x i row)) [
      | None ↦ back_before (after_steps next es) (e ∷ []) [] (judge_undo y next (i + 1) es) (back_undo y next (i + 1) es both.1)
      | Some row ↦ λ at f. cc
    ] in
    let within : P (or_else (limited i (over next)) (denial_at x s i e)) = elim (over next) as (λ k. P (or_else (limited i k) (denial_at x s i e))) [
      | None ↦ allowed
      | Some k ↦ λ at f. cc
    ] in
    subst (λ o. P (or_else o (denial_at x s i e))) (sym (cond_true (valid s e.action) (limited i (over next)) (Some (verdict.Refused UndoStale (Some i))) both.0)) within

-- a session has the log that it had, or a new one
abbrev pub IsKept : Log → Log → Type 0
IsKept old new = (new ≡ old) ⊎ (new ≡ empty_log)

nothing_kept : (i : ℕ) → undo_of_bundle (bundle_at [] i) ≡ Err fault.NoSuchBundle
nothing_kept zero = refl
nothing_kept (suc i) = refl

-- the log of the bundle's session, or a new one
pub back_own : (user : User) (s : Document) (steps : List Step) (t : Document) (before log : Log) (number : ℕ) → IsFine s → AreDone s steps t → number ≡ count before + 1
    → IsKept (noted (inverse_steps s steps) before) log → TakesBack s (judge_own_undo user (undo_of log number) t)
back_own user s steps t before log number fine d is kept =
    let back = inverse_steps s steps in
    let x = context user t in
    let law = inverse_steps_law s steps fine.whole d.valid in
    let P : Result (List Step) LogFault → Type 0 = λ o. TakesBack s (judge_own_undo user o t) in
    let Q : Document → Type 0 = λ u. TakesBack s (judge_undo x u 0 back) in
    let R : Document → Type 0 = λ u. TakesBack u (judge_undo x (after_steps s steps) 0 back) in
    ⊎_elim
    (λ e. subst P (sym (ap (λ l. undo_of l number) e ∙ ap (undo_of (noted back before)) is ∙ noted_own back before))
    (subst Q (sym d.leads) (subst R law.1 (back_undo x (after_steps s steps) 0 back law.0))))
    (λ e. subst P (sym (ap (λ l. undo_of l number) e ∙ nothing_kept (number - 0))) (λ at f. cc))
    kept
