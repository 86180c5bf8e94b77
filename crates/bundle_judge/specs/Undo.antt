-- The judgement of an undo: step by step, and the first fault is that of all.
use Rattle.std.specs.Prelude.{ℕ, ◌+◌, cond, List, [], ◌∷◌, Option, Some, None, Result, Ok, Err}
use Rattle.doc_model.specs.declared.action.DocAction.{DocAction}
use Rattle.doc_model.specs.declared.action.Step.{Step}
use Rattle.doc_model.specs.declared.refusal.Refusal.{Refusal}
use Rattle.doc_model.specs.declared.refusal.Refusal.TheVariants as refusal
use Rattle.doc_model.specs.declared.user.User.{User}
use Rattle.doc_model.specs.Apply.{apply}
use Rattle.doc_model.specs.Counts.{over}
use Rattle.doc_model.specs.Document.{Document}
use Rattle.doc_model.specs.Valid.{valid}
use Rattle.acl_rules.specs.declared.decision.Ctx.{Ctx}
use Rattle.undo_bundles.specs.declared.log.LogFault.{LogFault}
use Rattle.undo_bundles.specs.declared.log.LogFault.TheVariants as fault
use Rattle.bundle_judge.specs.declared.bare_verdict.BareVerdict.TheVariants.{Refused}
use Rattle.bundle_judge.specs.declared.bare_verdict.BareVerdict.{BareVerdict}
use Rattle.rule_contexts.specs.Context.{carry, context}
use Rattle.bundle_judge.specs.Denials.{denial_at, or_else}
use Rattle.bundle_judge.specs.Judgement.{Judgement, accepted, refused, limited, with_before}

-- why the action at that index of an undo is refused whatever the rules are: it is not valid there,
-- or the document after it passes a limit
abbrev pub stale_at : Document → ℕ → DocAction → Option BareVerdict
stale_at s i a =
    cond (valid s a) (limited i (over (apply s a))) (Some (Refused refusal.UndoStale (Some i)))

-- why the step at that index of an undo is refused: for that, or else by a rule
abbrev pub unfit_at : Ctx → Document → ℕ → Step → Option BareVerdict
unfit_at x s i e = or_else (stale_at s i e.action) (denial_at x s i e)

-- the judgement of the steps of an undo from that index on, under these rules
abbrev pub judge_undo : Ctx → Document → ℕ → List Step → Judgement
judge_undo x s i [] = accepted s [] []
judge_undo x s i (e ∷ steps) =
    elim (unfit_at x s i e) [
      | Some v ↦ refused v
      | None ↦ with_before (e ∷ []) []
          (judge_undo (carry e.action x) (apply s e.action) (i + 1) steps)
    ]

-- why there is nothing to undo
abbrev pub refusal_of : LogFault → Refusal
refusal_of fault.NoSuchBundle = refusal.NoSuchBundle
refusal_of fault.AlreadyUndone = refusal.AlreadyUndone

-- the judgement of a user's undo of a session's own bundle, by what its log tells of it, under the
-- rules of the document at its start
abbrev pub judge_own_undo : User → Result (List Step) LogFault → Document → Judgement
judge_own_undo user (Err why) s = refused (Refused (refusal_of why) None)
judge_own_undo user (Ok steps) s = judge_undo (context user s) s 0 steps
