-- Who differs is told from what is kept, place by place.
use Rattle.std.proofs.Common.{ℕ, zero, suc, ◌<◌, List, [], ◌∷◌, ◌++◌, length, get_or, set, Option, Some, None, ◌≡◌, refl, sym, ap, subst, ◌∙◌, append_assoc, append-nil, arith}
use Rattle.std.specs.List.{AllByRecursion}
use Rattle.doc_model.specs.declared.view.View.{View}
use Rattle.doc_model.specs.declared.view.ViewAction.{ViewAction}
use Rattle.doc_model.specs.Changes.{changes}
use Rattle.doc_model.specs.Document.{Document}
use Rattle.recalc.specs.Evaluated.{filled}
use Rattle.acl_formula.specs.declared.user_info.UserInfo.{UserInfo}
use Rattle.acl_rules.specs.declared.decision.Ctx.{Ctx}
use Rattle.agreeing_contexts.specs.declared.field.UserField.{UserField}
use Rattle.rule_contexts.specs.Context.{context}
use Rattle.context_changes.specs.Differing.{AreKeptOf, IsKeptOf, IsSeenIfKept, all_told_with, told_with, told_with_at}
use Rattle.context_changes.specs.Known.{user_in}
use Rattle.context_changes.specs.Told.{seen_by}

module _ (s : Document) (fields : List UserField) where
  -- ---- one more that is kept

  module _ (xs more : List Ctx) (us others : List UserInfo) (x : Ctx) (u : UserInfo) (left : xs ≡ x ∷ more) (right : us ≡ u ∷ others) where
    begins : (v : Option View) (vs : List (Option View)) → IsKeptOf s fields x u v → AreKeptOf s fields more others vs → AreKeptOf s fields xs us (v ∷ vs)
    begins v vs kept rest = subst (λ l. AreKeptOf s fields l us (v ∷ vs)) (sym left) (subst (λ l. AreKeptOf s fields (x ∷ more) l (v ∷ vs)) (sym right) (kept, rest))

    pub kept_next : (all : List (Option View) → Type 0) (made pushed : List (Option View)) (v : Option View) → ((vs : List (Option View)) → AreKeptOf s fields xs us vs → all (made ++ vs))
        → IsKeptOf s fields x u v → pushed ≡ made ++ v ∷ [] → (vs : List (Option View)) → AreKeptOf s fields more others vs → all (pushed ++ vs)
    kept_next all made pushed v so_far kept push vs rest =
        subst all (sym (ap (λ l. l ++ vs) push ∙ append_assoc made (v ∷ []) vs)) (so_far (v ∷ vs) (begins v vs kept rest))

  pub kept_none_left : (xs : List Ctx) (us : List UserInfo) → length xs ≡ 0 → AreKeptOf s fields xs us []
  kept_none_left [] us e = tt
  kept_none_left (x ∷ xs) us e = absurd (omega (arith, e))

  pub kept_none_beside : (xs : List Ctx) (us : List UserInfo) → length us ≡ 0 → AreKeptOf s fields xs us []
  kept_none_beside [] us e = tt
  kept_none_beside (x ∷ xs) [] e = tt
  kept_none_beside (x ∷ xs) (u ∷ us) e = absurd (omega (arith, e))

-- those before the last one
pub seen_before : (vs : List (Option View)) (v : Option View) → AllByRecursion IsSeenIfKept (vs ++ v ∷ []) → AllByRecursion IsSeenIfKept vs
seen_before [] v all = tt
seen_before (w ∷ vs) v all = (all.0, seen_before vs v all.1)

-- where nothing is left, all is kept
pub kept_all : (all : List (Option View) → Type 0) (made : List (Option View)) → all (made ++ []) → all made
kept_all all made is = subst all (append-nil made) is

module _ (t : Document) where
  -- ---- one after another, the last one first

  pub none_with : (xs : List Ctx) (told : List (List ViewAction)) → all_told_with t xs [] told ≡ told
  none_with [] told = refl
  none_with (x ∷ xs) told = refl

  pub with_last : (xs : List Ctx) (vs : List (Option View)) (v : Option View) (told : List (List ViewAction)) → all_told_with t xs vs (told_with_at t xs (length vs) v told) ≡ all_told_with t xs (vs ++ v ∷ []) told
  with_last [] vs v told = refl
  with_last (x ∷ xs) [] v [] = refl
  with_last (x ∷ xs) [] v (l ∷ told) = ap (λ r. told_with t x v l ∷ r) (sym (none_with xs told))
  with_last (x ∷ xs) (w ∷ vs) v [] = refl
  with_last (x ∷ xs) (w ∷ vs) v (l ∷ told) = ap (λ r. told_with t x w l ∷ r) (with_last xs vs v told)

  pub nothing_at : (xs : List Ctx) (i : ℕ) (told : List (List ViewAction)) → told_with_at t xs i None told ≡ told
  nothing_at [] i told = refl
  nothing_at (x ∷ xs) i [] = refl
  nothing_at (x ∷ xs) zero (l ∷ told) = refl
  nothing_at (x ∷ xs) (suc i) (l ∷ told) = ap (λ r. l ∷ r) (nothing_at xs i told)

  -- as the code puts it, whatever stands in for the context past the end
  pub at_within : (xs : List Ctx) (i : ℕ) (d : Ctx) (v : View) (told : List (List ViewAction)) (l : List ViewAction) → i < length xs → i < length told
      → l ≡ changes v.tables (seen_by (filled t) (context (user_in (get_or xs i d)) t)) → set told i l ≡ told_with_at t xs i (Some v) told
  at_within [] i d v told l lt le is = absurd (omega (arith, lt))
  at_within (x ∷ xs) i d v [] l lt le is = absurd (omega (arith, le))
  at_within (x ∷ xs) zero d v (k ∷ told) l lt le is = ap (λ r. r ∷ told) is
  at_within (x ∷ xs) (suc i) d v (k ∷ told) l lt le is = ap (λ r. k ∷ r) (at_within xs i d v told l (omega (arith, lt)) (omega (arith, le)) is)

  pub at_past : (xs : List Ctx) (i : ℕ) (v : Option View) (told : List (List ViewAction)) → (i < length xs → ⊥) → told ≡ told_with_at t xs i v told
  at_past [] i v told past = refl
  at_past (x ∷ xs) i v [] past = refl
  at_past (x ∷ xs) zero v (l ∷ told) past = absurd (past (omega arith))
  at_past (x ∷ xs) (suc i) v (l ∷ told) past = ap (λ r. l ∷ r) (at_past xs i v told (λ lt. past (omega (arith, lt))))

  pub at_past_told : (xs : List Ctx) (i : ℕ) (v : Option View) (told : List (List ViewAction)) → (i < length told → ⊥) → told ≡ told_with_at t xs i v told
  at_past_told [] i v told past = refl
  at_past_told (x ∷ xs) i v [] past = refl
  at_past_told (x ∷ xs) zero v (l ∷ told) past = absurd (past (omega arith))
  at_past_told (x ∷ xs) (suc i) v (l ∷ told) past = ap (λ r. l ∷ r) (at_past_told xs i v told (λ lt. past (omega (arith, lt))))
