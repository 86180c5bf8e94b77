-- Renames keep values and decisions.
use Rattle.std.proofs.Common.{Bool, true, false, cond, List, map, length, ◌≡◌, subst, sym, Some}
use Rattle.std.specs.Prelude.{nat_lt}
use Rattle.bundle_judge.specs.Judgement.{accepted, judge, judge_from, refused}
use Rattle.bundle_judge.specs.declared.bare_verdict.BareVerdict.TheVariants.{Limited}
use Rattle.bundle_judge.specs.declared.created.Created.{Created}
use Rattle.doc_model.specs.declared.action.DocAction.{DocAction}
use Rattle.doc_model.specs.declared.action.Step.{Step}
use Rattle.doc_model.specs.declared.limit.LimitKind.TheVariants.{Actions}
use Rattle.doc_model.specs.declared.user.User.{User}
use Rattle.doc_model.specs.declared.user_action.UserAction.{UserAction}
use Rattle.doc_model.specs.Apply.{all_valid, apply_all}
use Rattle.doc_model.specs.Counts.{bound_of}
use Rattle.doc_model.specs.Document.{Document}
use Rattle.acl_rules.specs.Loaded.{book_of}
use Rattle.formula_records.specs.ShownColumns.{columns_of}
use Rattle.planned_renames.specs.PlannedValues.{PlannedValuesLaw, renames, rewriting}
use Rattle.recalc.specs.Evaluated.{filled}
use Rattle.rename_flow.specs.Plan.{plan_of}
use Rattle.renamed_documents.specs.Laws.{AreRenamed}
use Rattle.renamed_rules.specs.Decisions.{RenamedDecisionLaw}
use Rattle.renamed_rules.specs.RenamedCells.{MovedFillingLaw}
use Rattle.renamed_rules.proofs.MovedCells.{cell_same}
use Rattle.renaming_bundles.specs.Expanded.{expanded}
use Rattle.rule_contexts.specs.Context.{context, view}
use Rattle.user_actions.specs.StepLaws.{action_of}
use Rattle.user_attrs.specs.Attributes.{attributes_of}
use Rattle.rename_law.specs.KeepsAll.{RenameLaw}
use Rattle.rename_law.proofs.JudgedSteps.{judged_steps}

-- the steps of an accepted bundle
accepted_steps : (user : User) (s : Document) (requested : List UserAction) (s' : Document) (steps : List Step) (created : List Created) → judge user s requested ≡ accepted s' steps created
    → (map action_of steps ≡ expanded s requested) × (s' ≡ apply_all s (expanded s requested))
accepted_steps user s requested s' steps created e = by (nat_lt (bound_of Actions) (length requested)) e
  where
    by : (b : Bool) → cond b (refused (Limited Actions (bound_of Actions) (Some (bound_of Actions)))) (judge_from (context user s) s 0 requested) ≡ accepted s' steps created → (map action_of steps ≡ expanded s requested) × (s' ≡ apply_all s (expanded s requested))
    by true e = absurd (cc)
    by false e = judged_steps (context user s) requested s 0 s' steps created e

pub keeps_all : PlannedValuesLaw → MovedFillingLaw → RenamedDecisionLaw → RenameLaw
keeps_all values moves decides user m s s' h =
    let v = view user s in
    let done = accepted_steps user s (plan_of v m).actions s' h.accepted.steps h.accepted.created h.accepted.judged in
    let renamed : AreRenamed m (renames v m) (rewriting v m) (columns_of v) s s'
    = subst (λ (d : Document). AreRenamed m (renames v m) (rewriting v m) (columns_of v) s d) (sym done.1)
    (values v m s (record {
      whole = h.whole;
      shows = h.shows;
      new_is_utf8 = h.new_is_utf8;
      shown = h.shown;
      resolved = h.resolved;
      valid = subst (λ (as' : List DocAction). all_valid s as' ≡ true) done.0 h.accepted.valid;
    })) in
    let moved' = moves m (renames v m) (rewriting v m) (columns_of v) s s' renamed in
    record {
      whole = renamed.whole_after;
      values = λ t c row p k. cell_same m (rewriting v m) (filled s) (filled s') moved' t p c row k;
      decisions = λ f u p t c r q plain k. decides m (rewriting v m) (filled s) (filled s') (attributes_of s) (attributes_of s') (book_of s) (book_of s') moved' f u p t c r q plain k;
    }
