-- How a judgement goes on from one action to the next.
use Rattle.std.proofs.Common.{◌≡◌, ℕ, suc, zero, ◌+◌, ◌<◌, ◌≤◌, Bool, true, cond, ◌&&◌, List, [], ◌∷◌, ◌++◌, map, drop, length, get_or, Some, None, refl, sym, ap, subst, ◌∙◌, arith}
use Rattle.std.proofs.lemmas.Bool.{and_parts, le-ltb, lt-ltb}
use Rattle.std.proofs.lemmas.List.{map-append, append_assoc, append-nil}
use Rattle.std.specs.List.{list_all}
use Rattle.doc_model.specs.declared.action.DocAction.{DocAction}
use Rattle.doc_model.specs.declared.action.Step.{Step}
use Rattle.doc_model.specs.declared.limit.LimitKind.{LimitKind}
use Rattle.doc_model.specs.declared.limit.LimitKind.TheVariants.{Actions}
use Rattle.doc_model.specs.declared.refusal.Refusal.{Refusal}
use Rattle.doc_model.specs.declared.user.User.{User}
use Rattle.doc_model.specs.declared.user_action.UserAction.{UserAction}
use Rattle.doc_model.specs.Apply.{apply, apply_all, all_valid}
use Rattle.doc_model.specs.Counts.{bound_of, over}
use Rattle.doc_model.specs.Document.{Document}
use Rattle.doc_model.specs.DocumentLaws.{IsWhole}
use Rattle.doc_model.specs.Valid.{valid}
use Rattle.doc_model.proofs.InverseLaws.{IsWhole-apply_all}
use Rattle.action_limits.specs.declared.tally.Tally.{Tally}
use Rattle.user_objections.specs.Objections.{objection_to}
use Rattle.user_actions.specs.StepLaws.{action_of}
use Rattle.user_actions.specs.Steps.{steps_of}
use Rattle.acl_rules.specs.declared.decision.Ctx.{Ctx}
use Rattle.action_limits.specs.Tallies.{AreSteps, IsTally, after}
use Rattle.bundle_judge.specs.declared.bare_verdict.BareVerdict.TheVariants.{Limited, Refused}
use Rattle.bundle_judge.specs.declared.bare_verdict.BareVerdict.{BareVerdict}
use Rattle.bundle_judge.specs.declared.judging.ActionPlan.{ActionPlan}
use Rattle.bundle_judge.specs.declared.created.Created.{Created}
use Rattle.bundle_judge.specs.Judgement.{Judgement, accepted, refused, judge, judge_from, limited, created_at, opposed, opposed_at, refusal_at, with_before}
use Rattle.bundle_judge.specs.Created.{created_of}
use Rattle.bundle_judge.specs.declared.judging.BundlePlan.{BundlePlan}
use Rattle.bundle_judge.specs.declared.judging.JudgedBundle.{JudgedBundle}
use Rattle.rule_contexts.specs.Context.{carry_all, context, view_in}
use Rattle.action_limits.proofs.RenameMoves.{apply_all-append}
use Rattle.bundle_judge.specs.Denials.{denial_of, or_else}
use Rattle.bundle_judge.specs.JudgedBundles.{IsBundlePlan, IsJudgedBundle, after_steps}
use Rattle.bundle_judge.specs.JudgedActions.{IsAt, IsActionPlan}
use Rattle.bundle_judge.proofs.RollbackLemmas.{nothing_left}

-- what holds of each holds of the one at an index
pub holds_at : {X : Type 0} (test : X → Bool) (xs : List X) (i : ℕ) (x : X) → list_all test xs ≡ true → i < length xs → x ≡ get_or xs i x → test x ≡ true
holds_at test [] i x h lt is = absurd (omega (arith, lt))
holds_at test (y ∷ xs) zero x h lt is = ap test is ∙ (and_parts (test y) (list_all test xs) h).0
holds_at test (y ∷ xs) (suc i) x h lt is = holds_at test xs i x (and_parts (test y) (list_all test xs) h).1 (omega (arith, lt)) is

-- the steps before the last one, and it
pub map-last : {X Y : Type 0} (f : X → Y) (xs : List X) (x : X) (ys : List Y) → map f (xs ++ x ∷ []) ++ ys ≡ map f xs ++ f x ∷ ys
map-last f [] x ys = refl
map-last f (z ∷ xs) x ys = ap (λ l. f z ∷ l) (map-last f xs x ys)

-- what stands against an action is its refusal
pub ruled_refused : (x : Ctx) (s : Document) (i : ℕ) (a : UserAction) (r : Refusal) → Some r ≡ objection_to (view_in x s) a → opposed_at x s i a ≡ Some (Refused r (Some i))
ruled_refused x s i a r is = ap (λ o. opposed i o (over (after s a))) (sym is)

-- a limit is its refusal
pub ruled_limit : (x : Ctx) (s : Document) (i : ℕ) (a : UserAction) (kind : LimitKind) (v : BareVerdict) → objection_to (view_in x s) a ≡ None → over (after s a) ≡ Some kind → Some v ≡ limited i (Some kind) → opposed_at x s i a ≡ Some v
ruled_limit x s i a kind v none over_it e = ap (λ o. opposed i o (over (after s a))) none ∙ ap (limited i) over_it ∙ sym e

-- nothing stands against it, and no limit is passed
pub accepted_action : (x : Ctx) (s : Document) (i : ℕ) (a : UserAction) (n : ActionPlan) (steps : List Step) → objection_to (view_in x s) a ≡ None → AreSteps s a steps n.tally → n.steps ≡ steps → n.created ≡ created_of a (map action_of steps) → IsActionPlan x s i a n
accepted_action x s i a n steps none are e f =
    let leads : apply_all s (map action_of n.steps) ≡ after s a = ap (λ l. apply_all s (map action_of l)) (e ∙ are.made) in
    let P : Document → Type 0 = λ t. IsTally t n.tally in
    record {
      unopposed = ap (λ o. opposed i o (over (after s a))) none ∙ ap (limited i) are.room;
      steps = e ∙ are.made;
      created = f ∙ ap (λ l. created_of a (map action_of l)) are.made;
      may = record { valid = ap (λ l. all_valid s (map action_of l)) e ∙ are.valid; counts = subst P (sym leads) are.tally };
    }

-- what stands against it whatever the rules are is its refusal
pub opposed_refused : (x : Ctx) (s : Document) (i : ℕ) (a : UserAction) (v : BareVerdict) → opposed_at x s i a ≡ Some v → refusal_at x s i a ≡ Some v
opposed_refused x s i a v e = ap (λ o. or_else o (denial_of x s i (steps_of s a))) e

-- a denial of its steps is its refusal
pub denied_refused : (x : Ctx) (s : Document) (i : ℕ) (a : UserAction) (n : ActionPlan) (v : BareVerdict) → IsActionPlan x s i a n → denial_of x s i n.steps ≡ Some v → refusal_at x s i a ≡ Some v
denied_refused x s i a n v plan e = ap (λ o. or_else o (denial_of x s i (steps_of s a))) plan.unopposed ∙ ap (denial_of x s i) (sym plan.steps) ∙ e

pub all_valid-append : (s : Document) (as' bs : List DocAction) → all_valid s as' ≡ true → all_valid (apply_all s as') bs ≡ true → all_valid s (as' ++ bs) ≡ true
all_valid-append s [] bs h k = k
all_valid-append s (a ∷ as') bs h k =
    let p : (valid s a ≡ true) × (all_valid (apply s a) as' ≡ true) = and_parts (valid s a) (all_valid (apply s a) as') h in
    ap (λ b. b && all_valid (apply s a) (as' ++ bs)) p.0 ∙ all_valid-append (apply s a) as' bs p.1 k

-- what stands before what stands before a judgement
pub with_before-both : (xs ys : List Step) (ms ns : List Created) (j : Judgement) → with_before xs ms (with_before ys ns j) ≡ with_before (xs ++ ys) (ms ++ ns) j
with_before-both xs ys ms ns (accepted s steps later) =
    ap (λ l. accepted s l (ms ++ (ns ++ later))) (sym (append_assoc xs ys steps)) ∙ ap (accepted s (xs ++ ys ++ steps)) (sym (append_assoc ms ns later))
with_before-both xs ys ms ns (refused v) = refl

-- nothing follows
pub with_before-accepted : (xs : List Step) (ms : List Created) (s : Document) → with_before xs ms (accepted s [] []) ≡ accepted s xs ms
with_before-accepted xs ms s = ap (λ l. accepted s l (ms ++ [])) (append-nil xs) ∙ ap (accepted s xs) (append-nil ms)

-- nothing stands before it
pub with_before-nothing : (j : Judgement) → j ≡ with_before [] [] j
with_before-nothing (accepted s steps later) = refl
with_before-nothing (refused v) = refl

-- a bundle of few enough actions is judged from its first action on
judge-from : (user : User) (s : Document) (requested : List UserAction) → length requested ≤ 2000 → judge user s requested ≡ judge_from (context user s) s 0 requested
judge-from user s requested few =
    ap (λ b. cond b (refused (Limited Actions (bound_of Actions) (Some (bound_of Actions)))) (judge_from (context user s) s 0 requested)) (le-ltb (bound_of Actions) (length requested) few)

-- what it comes to
pub judged_few : (user : User) (s : Document) (requested : List UserAction) (x : Ctx) (j : JudgedBundle) → length requested ≤ 2000 → x ≡ context user s → IsJudgedBundle (judge_from x s 0 requested) None s j → IsJudgedBundle (judge user s requested) None s j
judged_few user s requested x j few is judged =
    let P : Judgement → Type 0 = λ d. IsJudgedBundle d None s j in
    subst P (ap (λ y. judge_from y s 0 requested) is ∙ sym (judge-from user s requested few)) judged

-- one of too many actions passes their limit
pub judge-many : (user : User) (s : Document) (requested : List UserAction) → 2000 < length requested → judge user s requested ≡ refused (Limited Actions 2000 (Some 2000))
judge-many user s requested many =
    ap (λ b. cond b (refused (Limited Actions (bound_of Actions) (Some (bound_of Actions)))) (judge_from (context user s) s 0 requested)) (lt-ltb (bound_of Actions) (length requested) many)

module _ (x : Ctx) (start : Document) (requested : List UserAction) where
  -- nothing is judged yet
  pub at_start : (tally : Tally) → IsTally start tally → IsAt x start requested 0 x start [] [] [] tally
  at_start tally is = record { done_so_far = refl; valid = refl; may = record { valid = refl; counts = is }; judged = with_before-nothing (judge_from x start 0 requested) }

  module _ (i : ℕ) (y : Ctx) (s : Document) (done next : List Step) (created : List Created) (tally : Tally) (h : IsAt x start requested i y s done next created tally) where
    actions_then : map action_of (done ++ next) ≡ map action_of done ++ map action_of next
    actions_then = map-append action_of done next

    pub next_done : after_steps s next ≡ after_steps start (done ++ next)
    next_done =
        ap (λ t. after_steps t next) h.done_so_far ∙ sym (apply_all-append start (map action_of done) (map action_of next))
        ∙ ap (apply_all start) (sym actions_then)

    pub next_valid : all_valid start (map action_of (done ++ next)) ≡ true
    next_valid =
        let P : Document → Type 0 = λ t. all_valid t (map action_of next) ≡ true in
        ap (all_valid start) actions_then ∙ all_valid-append start (map action_of done) (map action_of next) h.valid (subst P h.done_so_far h.may.valid)

    -- what followed is done
    pub at_done : (t : Document) (all : List Step) → t ≡ after_steps s next → all ≡ done ++ next → IsAt x start requested i y t all [] created tally
    at_done t all e same =
        let P : Document → Type 0 = λ u. IsTally u tally in
        record {
          done_so_far = e ∙ next_done ∙ ap (after_steps start) (sym same);
          valid = ap (λ l. all_valid start (map action_of l)) same ∙ next_valid;
          may = record { valid = refl; counts = subst P (sym e) h.may.counts };
          judged = h.judged ∙ ap (λ u. with_before (done ++ next) created (judge_from y u i (drop i requested))) (sym e)
              ∙ ap (λ l. with_before l created (judge_from y t i (drop i requested))) (sym same ∙ sym (append-nil all));
        }

    pub whole_at : IsWhole start → IsWhole s
    whole_at w =
        let P : Document → Type 0 = λ t. IsWhole t in
        subst P (sym h.done_so_far) (IsWhole-apply_all start (map action_of done) w h.valid)

    -- all are judged, and the bundle is accepted
    pub judged_all : length requested ≤ i → judge_from x start 0 requested ≡ accepted (after_steps start (done ++ next)) (done ++ next) created
    judged_all le =
        h.judged
        ∙ ap (λ l. with_before (done ++ next) created (judge_from y (after_steps s next) i l)) (nothing_left i requested le)
        ∙ with_before-accepted (done ++ next) created (after_steps s next)
        ∙ ap (λ t. accepted t (done ++ next) created) next_done

    tally_then : IsTally (after_steps start (done ++ next)) tally
    tally_then = let P : Document → Type 0 = λ t. IsTally t tally in subst P next_done h.may.counts

    -- the plan of the bundle
    pub planned : (p : BundlePlan) → length requested ≤ i → p.undone ≡ None → p.steps ≡ done ++ next → p.created.items ≡ created → p.tally ≡ tally → IsBundlePlan (judge_from x start 0 requested) None start p
    planned p le none same ms t =
        let P : List Step → Type 0 = λ l. IsTally (after_steps start l) tally in
        let Q : Tally → Type 0 = λ u. IsTally (after_steps start p.steps) u in
        record {
          undoes = none;
          judged = judged_all le ∙ ap (λ l. accepted (after_steps start l) l created) (sym same) ∙ ap (accepted (after_steps start p.steps) p.steps) (sym ms);
          may = record { valid = ap (λ l. all_valid start (map action_of l)) same ∙ next_valid; counts = subst Q (sym t) (subst P (sym same) tally_then) };
        }

  module _ (i : ℕ) (y : Ctx) (s : Document) (done : List Step) (created : List Created) (tally : Tally) (a : UserAction) (rest : List UserAction) (h : IsAt x start requested i y s done [] created tally) (e : drop i requested ≡ a ∷ rest) where
    here : judge_from x start 0 requested ≡ with_before done created (judge_from y s i (a ∷ rest))
    here = h.judged ∙ ap (λ l. with_before (done ++ []) created (judge_from y s i l)) e ∙ ap (λ l. with_before l created (judge_from y s i (a ∷ rest))) (append-nil done)

    abbrev behind : Judgement
    behind = with_before (steps_of s a) (created_at s a ∷ []) (judge_from (carry_all (steps_of s a) y) (after s a) (i + 1) rest)

    -- an action is refused, and so is the bundle
    pub refused_at : (v : BareVerdict) → refusal_at y s i a ≡ Some v → judge_from x start 0 requested ≡ refused v
    refused_at v r =
        here
        ∙ ap (λ o. with_before done created (elim o as (λ _. Judgement) [ Some w ↦ refused w | None ↦ behind ])) r

    -- nothing stands against it
    pub at_next : (n : ActionPlan) (ms : List Created) (z : Ctx) → drop (i + 1) requested ≡ rest → IsActionPlan y s i a n → denial_of y s i n.steps ≡ None → z ≡ carry_all n.steps y → ms ≡ created ++ n.created ∷ [] → IsAt x start requested (i + 1) z s done n.steps ms n.tally
    at_next n ms z f p none along items = record {
      done_so_far = h.done_so_far;
      valid = h.valid;
      may = p.may;
      judged = here
          ∙ ap (λ o. with_before done created (elim o as (λ _. Judgement) [ Some w ↦ refused w | None ↦ behind ]))
          (ap (λ o. or_else o (denial_of y s i (steps_of s a))) p.unopposed ∙ ap (denial_of y s i) (sym p.steps) ∙ none)
          ∙ ap (λ m. with_before done created (with_before (steps_of s a) (m ∷ []) (judge_from (carry_all (steps_of s a) y) (after s a) (i + 1) rest))) (sym p.created)
          ∙ ap (λ l. with_before done created (with_before l (n.created ∷ []) (judge_from (carry_all l y) (after_steps s l) (i + 1) rest))) (sym p.steps)
          ∙ ap (λ c. with_before done created (with_before n.steps (n.created ∷ []) (judge_from c (after_steps s n.steps) (i + 1) rest))) (sym along)
          ∙ ap (λ l. with_before done created (with_before n.steps (n.created ∷ []) (judge_from z (after_steps s n.steps) (i + 1) l))) (sym f)
          ∙ with_before-both done n.steps created (n.created ∷ []) (judge_from z (after_steps s n.steps) (i + 1) (drop (i + 1) requested))
          ∙ ap (λ l. with_before (done ++ n.steps) l (judge_from z (after_steps s n.steps) (i + 1) (drop (i + 1) requested))) (sym items);
    }
