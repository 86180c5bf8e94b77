-- Steps done between their checks, and rules that deny nothing.
use Rattle.std.proofs.Common.{◌≡◌, ℕ, ◌+◌, ◌≤◌, Bool, true, false, cond, not, ◌&&◌, List, [], ◌∷◌, drop, length, Option, Some, None, refl, sym, ap, ◌∙◌}
use Rattle.std.proofs.lemmas.Bool.{and_parts, false≢true}
use Rattle.doc_model.specs.declared.action.DocAction.{DocAction}
use Rattle.doc_model.specs.declared.action.Step.{Step}
use Rattle.doc_model.specs.Apply.{apply}
use Rattle.doc_model.specs.Document.{Document}
use Rattle.recalc.specs.Evaluated.{filled}
use Rattle.acl_rules.specs.declared.decision.Ctx.{Ctx}
use Rattle.acl_rules.specs.Carried.{carried}
use Rattle.acl_rules.specs.RuleBook.{BookRule, has_no_rules}
use Rattle.acl_checks.specs.Checks.{checks_of}
use Rattle.acl_checks.specs.Denials.{first_denied}
use Rattle.acl_checks.specs.Unchecked.{UncheckedLaw, are_unchecked}
use Rattle.bundle_judge.specs.declared.bare_verdict.BareVerdict.{BareVerdict}
use Rattle.rule_contexts.specs.Context.{carry, carry_all}
use Rattle.bundle_judge.specs.Denials.{denial_at, denial_of, denied_by, denying_row, or_else}
use Rattle.bundle_judge.proofs.RollbackLemmas.{nothing_left}

-- ---- one step

not_true : (b : Bool) → not b ≡ false → b ≡ true
not_true true e = refl
not_true false e = absurd (false≢true (sym e))

-- a step that is not checked is not denied
pub unchecked_step : UncheckedLaw → (x : Ctx) (s : Document) (e : Step) → (e.direct && not (are_unchecked x)) ≡ false → denying_row x s e ≡ None
unfolding UncheckedLaw
unchecked_step law x s e =
    let checks = checks_of (filled s) (filled (apply s e.action)) e.action in
    elim e.direct as (λ b. (b && not (are_unchecked x)) ≡ false → cond b (first_denied x checks) None ≡ None) [
      | true ↦ λ isnt. law x checks (not_true (are_unchecked x) isnt)
      | false ↦ λ _. refl
    ]

-- one that is checked is denied by its checks
pub checked_step : (x : Ctx) (s t : Document) (e : Step) (o : Option ℕ) → (e.direct && not (are_unchecked x)) ≡ true → t ≡ apply s e.action → o ≡ first_denied x (checks_of (filled s) (filled t) e.action) → o ≡ denying_row x s e
checked_step x s t e o is done denied =
    denied
    ∙ ap (λ u. first_denied x (checks_of (filled s) (filled u) e.action)) done
    ∙ ap (λ b. cond b (first_denied x (checks_of (filled s) (filled (apply s e.action)) e.action)) None) (sym (and_parts e.direct (not (are_unchecked x)) is).0)

-- ---- rules that deny nothing

no_rules : (book : List BookRule) → has_no_rules book ≡ true → book ≡ []
no_rules [] e = refl
no_rules (b ∷ book) e = absurd (false≢true e)

stays_alike : (a : DocAction) (x : Ctx) → are_unchecked x ≡ true → carry a x ≡ x
stays_alike a x un =
    let none : x.book ≡ [] = no_rules x.book (and_parts (has_no_rules x.book) _ un).0 in
    ap (λ book. let y : Ctx = record { book = carried a book; user = x.user } in y) none
    ∙ ap (λ book. let y : Ctx = record { book = book; user = x.user } in y) (sym none)

-- they are carried along as they are
pub unchecked_carried : (steps : List Step) (x : Ctx) → are_unchecked x ≡ true → x ≡ carry_all steps x
unchecked_carried [] x un = refl
unchecked_carried (e ∷ steps) x un = unchecked_carried steps x un ∙ ap (carry_all steps) (sym (stays_alike e.action x un))

undenied : UncheckedLaw → (x : Ctx) (s : Document) (e : Step) → are_unchecked x ≡ true → denying_row x s e ≡ None
unfolding UncheckedLaw
undenied law x s e un =
    let checks = checks_of (filled s) (filled (apply s e.action)) e.action in
    elim e.direct as (λ b. cond b (first_denied x checks) None ≡ None) [ true ↦ law x checks un | false ↦ refl ]

pub unchecked_undenied : UncheckedLaw → (x : Ctx) (s : Document) (i : ℕ) (steps : List Step) → are_unchecked x ≡ true → denial_of x s i steps ≡ None
unchecked_undenied law x s i [] un = refl
unchecked_undenied law x s i (e ∷ steps) un =
    ap (λ row. or_else (denied_by x i row) (denial_of (carry e.action x) (apply s e.action) i steps)) (undenied law x s e un)
    ∙ ap (λ y. denial_of y (apply s e.action) i steps) (stays_alike e.action x un)
    ∙ unchecked_undenied law x (apply s e.action) i steps un

-- ---- step by step

-- so many steps are done, and none of them was denied
pub record IsChecking (x : Ctx) (start : Document) (i : ℕ) (steps : List Step) (k : ℕ) (y : Ctx) (s : Document) : Type 0 where
  pub denial : denial_of x start i steps ≡ denial_of y s i (drop k steps)
  pub carried : carry_all (drop k steps) y ≡ carry_all steps x

module _ (x : Ctx) (start : Document) (i : ℕ) (steps : List Step) (k : ℕ) (y : Ctx) (s : Document) (h : IsChecking x start i steps k y s) where
  pub checking_denied : (e : Step) (v : BareVerdict) → drop k steps ≡ e ∷ drop (k + 1) steps → Some v ≡ denial_at y s i e → denial_of x start i steps ≡ Some v
  checking_denied e v left is =
      h.denial ∙ ap (denial_of y s i) left
      ∙ ap (λ o. or_else o (denial_of (carry e.action y) (apply s e.action) i (drop (k + 1) steps))) (sym is)

  pub checking_next : (e : Step) (z : Ctx) (t : Document) → drop k steps ≡ e ∷ drop (k + 1) steps → None ≡ denial_at y s i e → z ≡ carry e.action y → t ≡ apply s e.action → IsChecking x start i steps (k + 1) z t
  checking_next e z t left none along done = record {
    denial = h.denial ∙ ap (denial_of y s i) left
        ∙ ap (λ o. or_else o (denial_of (carry e.action y) (apply s e.action) i (drop (k + 1) steps))) (sym none)
        ∙ ap (λ c. denial_of c (apply s e.action) i (drop (k + 1) steps)) (sym along)
        ∙ ap (λ u. denial_of z u i (drop (k + 1) steps)) (sym done);
    carried = ap (carry_all (drop (k + 1) steps)) along ∙ ap (λ l. carry_all l y) (sym left) ∙ h.carried;
  }

  pub checking_undenied : length steps ≤ k → denial_of x start i steps ≡ None
  checking_undenied le = h.denial ∙ ap (denial_of y s i) (nothing_left k steps le)

  pub checking_carried : length steps ≤ k → y ≡ carry_all steps x
  checking_carried le = ap (λ l. carry_all l y) (sym (nothing_left k steps le)) ∙ h.carried
