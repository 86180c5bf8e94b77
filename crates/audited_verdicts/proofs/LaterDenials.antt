-- An action that steps stand before which only follow from it: it alone can be denied.
use Rattle.std.proofs.Common.{◌≡◌, ◌∙◌, ap, sym, ℕ, false, cond, List, [], ◌∷◌, ◌++◌, Option, None}
use Rattle.std.proofs.lemmas.Bool.{or_parts}
use Rattle.std.specs.List.{list_any}
use Rattle.doc_model.specs.declared.action.DocAction.{DocAction}
use Rattle.doc_model.specs.declared.action.Step.{Step}
use Rattle.doc_model.specs.Apply.{apply}
use Rattle.doc_model.specs.Document.{Document}
use Rattle.recalc.specs.Evaluated.{filled}
use Rattle.acl_rules.specs.declared.decision.Ctx.{Ctx}
use Rattle.acl_checks.specs.Checks.{Check, checks_of}
use Rattle.acl_checks.specs.Denials.{first_denied}
use Rattle.user_actions.specs.Marked.{direct}
use Rattle.rule_contexts.specs.Context.{carry}
use Rattle.bundle_judge.specs.declared.bare_verdict.BareVerdict.{BareVerdict}
use Rattle.bundle_judge.specs.CarriedContexts.{renames}
use Rattle.bundle_judge.specs.Denials.{denial_of, denied_by, or_else}
use Rattle.bundle_judge.proofs.CarriedLemmas.{stays_in_force}
use Rattle.audited_records.proofs.DenialLemmas.{first_denial, is_direct}

-- what rules say of one check
abbrev pub denial_for : Ctx → ℕ → Check → Option BareVerdict
denial_for x i c = denied_by x i (first_denied x (c ∷ []))

-- an action of which one check is asked, whatever the documents are
module _ (a : DocAction) (c : Check) (asks : (u w : Document) → checks_of u w a ≡ c ∷ []) where
  pub first_asked : (x : Ctx) (s : Document) (i : ℕ) (behind : List Step) → list_any is_direct behind ≡ false → denial_of x s i (direct a ∷ behind) ≡ denial_for x i c
  first_asked x s i behind h = first_denial x s i a behind h ∙ ap (λ cs. denied_by x i (first_denied x cs)) (asks (filled s) (filled (apply s a)))

  -- behind others, of which none moves the rules
  pub later_asked : (x : Ctx) (s : Document) (i : ℕ) (before behind : List Step) → list_any renames ((before ++ direct a ∷ []) ++ behind) ≡ false
      → list_any is_direct before ≡ false → list_any is_direct behind ≡ false → denial_of x s i ((before ++ direct a ∷ []) ++ behind) ≡ denial_for x i c
  later_asked x s i [] behind stay h k = first_asked x s i behind k
  later_asked x s i (e ∷ before) behind stay h k =
      let rest : List Step = (before ++ direct a ∷ []) ++ behind in
      let stays : (renames e ≡ false) × (list_any renames rest ≡ false) = or_parts (renames e) (list_any renames rest) stay in
      let passed : (e.direct ≡ false) × (list_any is_direct before ≡ false) = or_parts e.direct (list_any is_direct before) h in
      ap (λ b. or_else (denied_by x i (cond b (first_denied x (checks_of (filled s) (filled (apply s e.action)) e.action)) None)) (denial_of (carry e.action x) (apply s e.action) i rest)) passed.0
      ∙ ap (λ y. denial_of y (apply s e.action) i rest) (sym (stays_in_force e.action x stays.0))
      ∙ later_asked x (apply s e.action) i before behind stays.1 passed.1 k
