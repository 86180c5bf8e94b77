-- An undo that comes next takes its bundle back.
use Rattle.std.proofs.Common.{ℕ, ◌+◌, ◌≡◌, Bool, true, false, List, [], ◌∷◌, Some, None, inl, inr, ⊎_elim, refl, sym, ap, subst, ◌∙◌, arith, if◌then◌else◌}
use Rattle.std.proofs.lemmas.Bool.{and_parts, false≢true}
use Rattle.std.proofs.lemmas.List.Folds.{list_all-append}
use Rattle.std.specs.List.{list_all}
use Rattle.doc_model.specs.declared.entry.Entry.{Entry}
use Rattle.doc_model.specs.declared.request.Request.TheVariants as request
use Rattle.doc_model.specs.declared.user.User.{User}
use Rattle.doc_model.specs.Document.{Document}
use Rattle.undo_bundles.specs.BundleLog.{Log, count, noted, undo_of}
use Rattle.undo_bundles.specs.InverseSteps.{inverse_steps}
use Rattle.user_actions.specs.FreshIds.{StepsLaw}
use Rattle.rule_contexts.specs.SeenLaws.{AllowedLaw}
use Rattle.bundle_judge.specs.Judgement.{Judgement, accepted, refused}
use Rattle.bundle_core.specs.State.{Holder, Open, State, Verdicts, bundle_of, from_closed, from_lagging, from_open, opening, records_kept, run, session_of, step, verdicts}
use Rattle.bundle_judge.specs.Undo.{judge_own_undo}
use Rattle.bundle_core.specs.UndoLaw.{IsUndoNext, LeadsBackTo, UndoLaw, entry_asks_so}
use Rattle.bundle_core.proofs.DoneBundles.{BundlesAreDone, IsFine, IsKept, TakesBack, back_own, done_judge}
use Rattle.bundle_core.proofs.TurnLaws.{IsBundle, log_after, log_in, log_kept, log_of, turn}

-- ---- along a history

kept_then : (a b c : Log) → IsKept a b → IsKept b c → IsKept a c
kept_then a b c h k = ⊎_elim (λ e. ⊎_elim (λ f. inl (e ∙ f)) (λ f. inr (e ∙ f)) h) (λ e. inr e) k

module _ (are_done : BundlesAreDone) where
  none_kept : (users : List User) (st : State) (es : List Entry) (name : List ℕ) → records_kept users st es ≡ 0 → ((run users st es).document ≡ st.document) × IsKept (log_of name st) (log_of name (run users st es))
  none_kept users st [] name none = (refl, inl refl)
  none_kept users st (e ∷ es) name none =
      let next = step users st e in
      let later = records_kept users next es in
      elim (verdicts users st e).is_bundle as (λ b. (verdicts users st e).is_bundle ≡ b → (if b then later + 1 else later) ≡ 0
      → ((run users next es).document ≡ st.document) × IsKept (log_of name st) (log_of name (run users next es))) [
        | true ↦ λ _ h. absurd (omega (arith, h))
        | false ↦ λ isnt h.
            let rest = none_kept users next es name h in
            (rest.0 ∙ ((turn are_done users st e).same isnt).0, kept_then (log_of name st) (log_of name next) (log_of name (run users next es)) (log_kept are_done users st e name isnt) rest.1)
      ] refl none

  step_fine : (users : List User) (st : State) (e : Entry) → IsFine st.document → entry_asks_so e ≡ true → IsFine (step users st e).document
  step_fine users st e fine asked =
      let t = turn are_done users st e in
      elim (verdicts users st e).is_bundle as (λ b. (verdicts users st e).is_bundle ≡ b → IsFine (verdicts users st e).document) [
        | true ↦ λ is. (t.bundle is fine asked).done.fine
        | false ↦ λ isnt. subst IsFine (sym (t.same isnt).0) fine
      ] refl

  run_fine : (users : List User) (st : State) (es : List Entry) → IsFine st.document → list_all entry_asks_so es ≡ true → IsFine (run users st es).document
  run_fine users st [] fine asked = fine
  run_fine users st (e ∷ es) fine asked =
      let both = and_parts (entry_asks_so e) (list_all entry_asks_so es) asked in
      run_fine users (step users st e) es (step_fine users st e fine both.0) both.1

-- ---- the entry that asks for it

bundle_back : (t : Document) (h : Holder) (n : ℕ) (s : Document) (kept : Bool) (j : Judgement) → TakesBack t j → LeadsBackTo t (bundle_of h (Some n) s kept j)
bundle_back t h n s kept (refused v) b = record { restores = λ is. absurd (false≢true is); not_stale = λ at e. b at (cc) }
bundle_back t h n s false (accepted u steps ms) b = record { restores = λ is. absurd (false≢true is); not_stale = λ at e. cc }
bundle_back t h n s true (accepted u steps ms) b = record { restores = λ _. b; not_stale = λ at e. cc }

asked_back : (t : Document) (users : List User) (st : State) (u : Entry) (n : ℕ) → u.request ≡ request.Undo n
    → ((o : Open) → session_of u.session st ≡ Some o → TakesBack t (judge_own_undo o.holder.user (undo_of o.holder.log n) st.document)) → LeadsBackTo t (verdicts users st u)
asked_back t users st u n asks back =
    elim (session_of u.session st) as (λ o. session_of u.session st ≡ o → LeadsBackTo t (elim o as (λ _. Verdicts) [
      | None ↦ from_closed users st u.request
      | Some x ↦ if x.mailbox.lagging then from_lagging st u.request else from_open st x.holder u.kept u.request
    ])) [
      | None ↦ λ _. subst (λ r. LeadsBackTo t (from_closed users st r)) (sym asks) (record { restores = λ is. absurd (false≢true is); not_stale = λ at e. cc })
      | Some x ↦ λ found. elim x.mailbox.lagging as (λ l. LeadsBackTo t (if l then from_lagging st u.request else from_open st x.holder u.kept u.request)) [
        | true ↦ subst (λ r. LeadsBackTo t (from_lagging st r)) (sym asks) (record { restores = λ is. absurd (false≢true is); not_stale = λ at e. cc })
        | false ↦ subst (λ r. LeadsBackTo t (from_open st x.holder u.kept r)) (sym asks) (bundle_back t x.holder n st.document u.kept (judge_own_undo x.holder.user (undo_of x.holder.log n) st.document) (back x found))
      ]
    ] refl

module _ (are_done : BundlesAreDone) (users : List User) (st : State) (e : Entry) (between : List Entry) (u : Entry) (fine : IsFine st.document) (asked : entry_asks_so e ≡ true) (h : IsUndoNext users st e between u) where
  abbrev last : State
  last = run users (step users st e) between

  made : IsBundle st.document (verdicts users st e)
  made = (turn are_done users st e).bundle h.accepted fine asked

  left : (last.document ≡ (verdicts users st e).document) × IsKept (log_of e.session (step users st e)) (log_of e.session last)
  left = none_kept are_done users (step users st e) between e.session h.none_between

  log_left : IsKept (noted (inverse_steps st.document made.steps) made.before) (log_of u.session last)
  log_left =
      let P : Log → Type 0 = λ l. IsKept l (log_of u.session last) in
      let Q : List ℕ → Type 0 = λ n. IsKept (log_of e.session (step users st e)) (log_of n last) in
      subst P (log_after users st e ∙ made.noted_then) (subst Q (sym h.own) left.1)

  counted : h.number ≡ count made.before + 1
  counted = let same : Some h.number ≡ Some (count made.before + 1) = sym h.told ∙ made.told in cc

  undoes_next : LeadsBackTo st.document (verdicts users last u)
  undoes_next =
      asked_back st.document users last u h.number h.asks (λ o found.
      let kept : IsKept (noted (inverse_steps st.document made.steps) made.before) o.holder.log = subst (IsKept (noted (inverse_steps st.document made.steps) made.before)) (ap log_in found) log_left in
      subst (λ t. TakesBack st.document (judge_own_undo o.holder.user (undo_of o.holder.log h.number) t)) (sym left.0)
      (back_own o.holder.user st.document made.steps (verdicts users st e).document made.before o.holder.log h.number fine made.done counted kept))

pub undo_law : AllowedLaw → StepsLaw → UndoLaw
undo_law allowed_law steps_law users s history e between u whole few asked h =
    let both = and_parts (list_all entry_asks_so history) (list_all entry_asks_so (e ∷ [])) (sym (list_all-append entry_asks_so history (e ∷ [])) ∙ asked) in
    let fine = run_fine (done_judge allowed_law steps_law) users (opening s) history (record { whole = whole; few = few }) both.0 in
    undoes_next (done_judge allowed_law steps_law) users (run users (opening s) history) e between u fine (and_parts (entry_asks_so e) true both.1).0 h
