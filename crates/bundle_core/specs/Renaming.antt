-- What the rename of a column through formulas and rules is judged to be.
use Rattle.std.specs.Prelude.{ℕ, zero, suc, true, List}
use Rattle.doc_model.specs.declared.user.User.{User}
use Rattle.doc_model.specs.declared.view.ViewTable.{ViewTable}
use Rattle.doc_model.specs.Document.{Document}
use Rattle.doc_model.specs.MetadataIds.{is_acl_id}
use Rattle.plain_view.specs.PartsOfViews.{part_of}
use Rattle.bundle_judge.specs.declared.bare_verdict.BareVerdict.TheVariants.{Unresolved}
use Rattle.bundle_judge.specs.Judgement.{Judgement, judge, refused}
use Rattle.rename_flow.specs.declared.rename_plan.RenamePlan.{RenamePlan}
use Rattle.rename_flow.specs.Plan.{plan_of}
use Rattle.rule_contexts.specs.Context.{view}

-- a view with no rows but those of rules
abbrev pub rules_alone : List ViewTable → List ViewTable
rules_alone v = part_of (λ t. true) (λ t row. is_acl_id t) v

-- what the user asks for by it, told from what the user sees
abbrev pub planned : User → Document → (table column new : List ℕ) → RenamePlan
planned user s table column new =
    plan_of (view user s) (record { table = table; old = column; new = new })

-- a plan is judged as the bundle of its actions, where no use of a name is unresolved
abbrev pub judge_plan : User → Document → RenamePlan → Judgement
judge_plan user s p = elim p.unresolved [
  | zero ↦ judge user s p.actions
  | suc n ↦ refused (Unresolved (suc n))
]

abbrev pub judge_renaming : User → Document → (table column new : List ℕ) → Judgement
judge_renaming user s table column new =
    judge_plan user s (planned user s table column new)
