-- The judgement of a bundle: action by action, and the first refusal is that of all.
use Rattle.std.specs.Prelude.{ℕ, ◌+◌, cond, nat_lt, List, [], ◌∷◌, ◌++◌, map, length, Option, Some, None}
use Rattle.doc_model.specs.declared.action.Step.{Step}
use Rattle.doc_model.specs.declared.limit.LimitKind.{LimitKind}
use Rattle.doc_model.specs.declared.limit.LimitKind.TheVariants.{Actions}
use Rattle.doc_model.specs.declared.refusal.Refusal.{Refusal}
use Rattle.doc_model.specs.declared.user.User.{User}
use Rattle.doc_model.specs.declared.user_action.UserAction.{UserAction}
use Rattle.doc_model.specs.Counts.{bound_of, over}
use Rattle.doc_model.specs.Document.{Document}
use Rattle.user_objections.specs.Objections.{objection_to}
use Rattle.user_actions.specs.StepLaws.{action_of}
use Rattle.user_actions.specs.Steps.{steps_of}
use Rattle.action_limits.specs.Tallies.{after}
use Rattle.acl_rules.specs.declared.decision.Ctx.{Ctx}
use Rattle.bundle_judge.specs.declared.bare_verdict.BareVerdict.TheVariants.{Limited, Refused}
use Rattle.bundle_judge.specs.declared.bare_verdict.BareVerdict.{BareVerdict}
use Rattle.bundle_judge.specs.declared.created.Created.{Created}
use Rattle.rule_contexts.specs.Context.{carry_all, context, view_in}
use Rattle.bundle_judge.specs.Created.{created_of}
use Rattle.bundle_judge.specs.Denials.{denial_of, or_else}

-- accepted with the document after it, its steps, and what its actions created, or refused
pub data Judgement : Type 0 where
  accepted : Document → List Step → List Created → Judgement
  refused : BareVerdict → Judgement

-- the limit that the action at that index of its bundle would pass
abbrev pub limited : ℕ → Option LimitKind → Option BareVerdict
limited i None = None
limited i (Some kind) = Some (Limited kind (bound_of kind) (Some i))

-- what stands against it, or else the limit
abbrev pub opposed : ℕ → Option Refusal → Option LimitKind → Option BareVerdict
opposed i (Some this) kind = Some (Refused this (Some i))
opposed i None kind = limited i kind

-- why an action is refused before its steps are checked: by what its context shows of the document
-- there, or by a limit that the document after its steps passes
abbrev pub opposed_at : Ctx → Document → ℕ → UserAction → Option BareVerdict
opposed_at x s i a = opposed i (objection_to (view_in x s) a) (over (after s a))

-- why the action at that index of its bundle is refused: for that, or else by a rule
abbrev pub refusal_at : Ctx → Document → ℕ → UserAction → Option BareVerdict
refusal_at x s i a = or_else (opposed_at x s i a) (denial_of x s i (steps_of s a))

-- steps and what was created, before those that are judged
abbrev pub with_before : List Step → List Created → Judgement → Judgement
with_before xs ms (accepted s steps later) = accepted s (xs ++ steps) (ms ++ later)
with_before xs ms (refused v) = refused v

-- what an action created
abbrev pub created_at : Document → UserAction → Created
created_at s a = created_of a (map action_of (steps_of s a))

-- the judgement of actions from that index of their bundle on, under these rules
abbrev pub judge_from : Ctx → Document → ℕ → List UserAction → Judgement
judge_from x s i [] = accepted s [] []
judge_from x s i (a ∷ as') =
    elim (refusal_at x s i a) [
      | Some v ↦ refused v
      | None ↦ with_before (steps_of s a) (created_at s a ∷ [])
          (judge_from (carry_all (steps_of s a) x) (after s a) (i + 1) as')
    ]

-- the judgement of a bundle, under the rules of the document at its start: of too many actions the
-- first one past the bound is named
abbrev pub judge : User → Document → List UserAction → Judgement
judge user s as' =
    cond (nat_lt (bound_of Actions) (length as'))
    (refused (Limited Actions (bound_of Actions) (Some (bound_of Actions))))
    (judge_from (context user s) s 0 as')
