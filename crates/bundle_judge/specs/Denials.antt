-- Which rule denies the steps of an action.
use Rattle.std.specs.Prelude.{ℕ, cond, List, [], ◌∷◌, Option, Some, None}
use Rattle.doc_model.specs.declared.action.Step.{Step}
use Rattle.doc_model.specs.Apply.{apply}
use Rattle.doc_model.specs.Document.{Document}
use Rattle.recalc.specs.Evaluated.{filled}
use Rattle.acl_rules.specs.declared.decision.Ctx.{Ctx}
use Rattle.acl_rules.specs.RuleBook.{memo_of, rules_in}
use Rattle.acl_checks.specs.Checks.{checks_of}
use Rattle.acl_checks.specs.Denials.{first_denied}
use Rattle.bundle_judge.specs.declared.bare_verdict.BareVerdict.TheVariants.{Denied}
use Rattle.bundle_judge.specs.declared.bare_verdict.BareVerdict.{BareVerdict}
use Rattle.rule_contexts.specs.Context.{carry}

-- the row of the rule that denies a step: a direct one is checked, with the evaluated document just
-- before and just after it
abbrev pub denying_row : Ctx → Document → Step → Option ℕ
denying_row x s e =
    cond e.direct
    (first_denied x (checks_of (filled s) (filled (apply s e.action)) e.action)) None

-- the denial of the action at that index of its bundle by the rule in that row
abbrev pub denied_by : Ctx → ℕ → Option ℕ → Option BareVerdict
denied_by x i None = None
denied_by x i (Some row) =
    Some (Denied i (record { row = row; memo = memo_of (rules_in x.book) row }))

-- a verdict, or else another
abbrev pub or_else : Option BareVerdict → Option BareVerdict → Option BareVerdict
or_else None o = o
or_else (Some v) o = Some v

-- the denial of one step of the action at that index
abbrev pub denial_at : Ctx → Document → ℕ → Step → Option BareVerdict
denial_at x s i e = denied_by x i (denying_row x s e)

-- the first denial of its steps, each under the rules as those before it carried them along
abbrev pub denial_of : Ctx → Document → ℕ → List Step → Option BareVerdict
denial_of x s i [] = None
denial_of x s i (e ∷ steps) =
    or_else (denial_at x s i e) (denial_of (carry e.action x) (apply s e.action) i steps)
