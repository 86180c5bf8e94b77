-- Contexts that are kept, and what users are told by them.
use Rattle.std.proofs.Common.{ℕ, suc, zero, ◌<◌, Bool, true, false, cond, ◌||◌, List, [], ◌∷◌, ◌++◌, length, map, get_or, nat_lt, slice_get, ◌≡◌, refl, sym, ap, subst, ◌∙◌, Some, None, arith, IfSome, unwrap_or}
use Rattle.std.proofs.lemmas.Bool.{false≢true, or_parts}
use Rattle.std.proofs.lemmas.Bool.Decides.{Decides-ltb, nat_tests}
use Rattle.std.proofs.lemmas.List.Folds.{list_any-append, list_any_at, list_any_none}
use Rattle.std.proofs.lemmas.List.Sums.{fails_before_first, passes_at_first}
use Rattle.std.specs.List.{list_any, position_or_len}
use Rattle.doc_model.specs.declared.action.DocAction.{DocAction}
use Rattle.doc_model.specs.declared.user.User.{User}
use Rattle.doc_model.specs.declared.view.ViewAction.{ViewAction}
use Rattle.doc_model.specs.Apply.{all_valid, apply_all}
use Rattle.doc_model.specs.Changes.{changes}
use Rattle.doc_model.specs.Document.{Document}
use Rattle.doc_model.specs.DocumentLaws.{IsWhole}
use Rattle.doc_model.proofs.WholeLaws.{each_append}
use Rattle.recalc.specs.Evaluated.{filled}
use Rattle.acl_rules.specs.declared.decision.Ctx.{Ctx}
use Rattle.user_attrs.specs.Attributes.{attributes_of}
use Rattle.agreeing_contexts.specs.Fields.{mentioned_fields}
use Rattle.bundle_traces.specs.TraceLaws.{steps_done}
use Rattle.rule_contexts.specs.ChangedContexts.{HaveOneBook, SameContextLaw, SameRulesLaw, may_change_contexts}
use Rattle.rule_contexts.specs.Context.{context, view}
use Rattle.context_changes.specs.declared.known.KnownContexts.{KnownContexts}
use Rattle.context_changes.specs.Known.{AreInForce, AreKnown, IsPlaceOf, StandsAt, is_known, place_in, told_by, user_in}
use Rattle.context_changes.specs.Told.{seen_by, told_of, told_since, view_of}
use Rattle.context_changes.specs.Users.{same_user}
use Rattle.context_changes.proofs.UserLemmas.{user_itself, user_same}

abbrev owns : User → Ctx → Bool
owns u x = same_user u (user_in x)

-- ---- where a context stands

each_at : (s : Document) (xs : List Ctx) (i : ℕ) (d : Ctx) → AreInForce s xs → i < length xs → get_or xs i d ≡ context (user_in (get_or xs i d)) s
each_at s [] i d all lt = absurd (omega (arith, lt))
each_at s (x ∷ xs) zero d all lt = all.0
each_at s (x ∷ xs) (suc i) d all lt = each_at s xs i d all.1 (omega (arith, lt))

-- the context at a user's place is in force for the user
pub in_force_at : (s : Document) (xs : List Ctx) (u : User) (place : ℕ) → AreInForce s xs → IsPlaceOf xs u place → StandsAt xs place (context u s)
in_force_at s xs u place all is = record {
  within = is.within;
  is = λ d. each_at s xs place d all is.within ∙ ap (λ v. context v s) (is.own d);
}

pub first_place : (xs : List Ctx) (u : User) → IfSome (place_in xs u) (IsPlaceOf xs u)
first_place xs u =
    elim (nat_lt first (length xs)) as (λ b. nat_lt first (length xs) ≡ b → IfSome (cond b (Some first) None) (IsPlaceOf xs u)) [
      | true ↦ λ e. let lt : first < length xs = (Decides-ltb first (length xs)).0 e in
          record { within = lt; own = λ d. sym (user_same u (user_in (get_or xs first d)) (passes_at_first (owns u) xs d lt)) }
      | false ↦ λ _. tt
    ] refl
  where
    first : ℕ
    first = position_or_len (owns u) xs

pub known_at : (xs : List Ctx) (u : User) (place : ℕ) → IsPlaceOf xs u place → is_known xs u ≡ true
known_at [] u place is = absurd (omega (arith, is.within))
known_at (x ∷ xs) u place is =
    list_any_at (owns u) (x ∷ xs) place x is.within (subst (λ v. same_user u v ≡ true) (sym (is.own x)) (user_itself u))

-- ---- one more context

last_at : (xs : List Ctx) (x d : Ctx) → get_or (xs ++ x ∷ []) (length xs) d ≡ x
last_at [] x d = refl
last_at (y ∷ xs) x d = last_at xs x d

last_within : (xs : List Ctx) (x : Ctx) → length xs < length (xs ++ x ∷ [])
last_within [] x = omega arith
last_within (y ∷ xs) x = let e : length xs < length (xs ++ x ∷ []) = last_within xs x in omega arith

pub own_context : (u : User) (s : Document) (x : Ctx) → x ≡ context u s → x ≡ context (user_in x) s
own_context u s x e = e ∙ ap (λ v. context v s) (sym (ap user_in e))

module _ (s : Document) (xs : List Ctx) (u : User) (x : Ctx) (is : x ≡ context u s) where
  pub more_in_force : AreInForce s xs → AreInForce s (xs ++ x ∷ [])
  more_in_force all = each_append (λ y. y ≡ context (user_in y) s) xs (x ∷ []) all (own_context u s x is, tt)

  pub stands_last : StandsAt (xs ++ x ∷ []) (length xs) (context u s)
  stands_last = record { within = last_within xs x; is = λ d. last_at xs x d ∙ is }

  pub known_last : is_known (xs ++ x ∷ []) u ≡ true
  known_last =
      let own : IsPlaceOf (xs ++ x ∷ []) u (length xs) = record { within = last_within xs x; own = λ d. ap user_in (last_at xs x d ∙ is) } in
      known_at (xs ++ x ∷ []) u (length xs) own

  pub known_before : (v : User) → is_known xs v ≡ true → is_known (xs ++ x ∷ []) v ≡ true
  known_before v e = list_any-append (owns v) xs (x ∷ []) ∙ ap (λ b. b || list_any (owns v) (x ∷ [])) e

-- contexts that were made anew are in force
pub in_force_anew : (s : Document) (xs : List Ctx) → AreInForce s (map (λ x. context (user_in x) s) xs)
in_force_anew s [] = tt
in_force_anew s (x ∷ xs) = (refl, in_force_anew s xs)

-- ---- what a user is told

told_first : (xs : List Ctx) (told : List (List ViewAction)) (u : User) (i : ℕ) → i < length xs → ((d : Ctx) → same_user u (user_in (get_or xs i d)) ≡ true)
    → ((k : ℕ) (d : Ctx) → k < i → same_user u (user_in (get_or xs k d)) ≡ false) → told_by xs told u ≡ unwrap_or (slice_get told i) []
told_first [] told u i lt here before = absurd (omega (arith, lt))
told_first (x ∷ xs) [] u i lt here before = refl
told_first (x ∷ xs) (l ∷ told) u zero lt here before = ap (λ b. cond b l (told_by xs told u)) (here x)
told_first (x ∷ xs) (l ∷ told) u (suc i) lt here before =
    ap (λ b. cond b l (told_by xs told u)) (before zero x (omega arith))
    ∙ told_first xs told u i (omega (arith, lt)) here (λ k d le. before (suc k) d (omega (arith, le)))

told_none : (xs : List Ctx) (told : List (List ViewAction)) (u : User) → is_known xs u ≡ false → told_by xs told u ≡ []
told_none [] told u e = refl
told_none (x ∷ xs) [] u e = refl
told_none (x ∷ xs) (l ∷ told) u e =
    let parts : (same_user u (user_in x) ≡ false) × (is_known xs u ≡ false) = or_parts (same_user u (user_in x)) (is_known xs u) e in
    ap (λ b. cond b l (told_by xs told u)) parts.0 ∙ told_none xs told u parts.1

module _ (xs : List Ctx) (told : List (List ViewAction)) (u : User) where
  abbrev first : ℕ
  first = position_or_len (owns u) xs

  pub told_found : (place : ℕ) → place_in xs u ≡ Some place → told_by xs told u ≡ unwrap_or (slice_get told place) []
  told_found place e =
      elim (nat_lt first (length xs)) as (λ b. nat_lt first (length xs) ≡ b → cond b (Some first) None ≡ Some place → told_by xs told u ≡ unwrap_or (slice_get told place) []) [
        | true ↦ λ b same. let lt : first < length xs = (Decides-ltb first (length xs)).0 b in
            let at : first ≡ place = cc in
            told_first xs told u first lt (λ d. passes_at_first (owns u) xs d lt) (λ k d le. fails_before_first (owns u) xs k d le)
            ∙ ap (λ i. unwrap_or (slice_get told i) []) at
        | false ↦ λ b none. cc
      ] refl e

  before_end : (k : ℕ) → k < length xs → nat_lt first (length xs) ≡ false → k < first
  before_end k lt e = grind (arith, nat_tests)

  pub told_missing : place_in xs u ≡ None → told_by xs told u ≡ []
  told_missing e =
      elim (nat_lt first (length xs)) as (λ b. nat_lt first (length xs) ≡ b → cond b (Some first) None ≡ None → told_by xs told u ≡ []) [
        | true ↦ λ b same. cc
        | false ↦ λ b none. told_none xs told u (list_any_none (owns u) xs (λ k d lt. fails_before_first (owns u) xs k d (before_end k lt b)))
      ] refl e

-- what is told by contexts in force is told to a user by the user's own
pub told_mapped : (f : Ctx → List ViewAction) (s : Document) (xs : List Ctx) (u : User) → AreInForce s xs → is_known xs u ≡ true → told_by xs (map f xs) u ≡ f (context u s)
told_mapped f s [] u all among = absurd (false≢true among)
told_mapped f s (x ∷ xs) u all among =
    elim (same_user u (user_in x)) as (λ b. same_user u (user_in x) ≡ b → (b || is_known xs u) ≡ true → cond b (f x) (told_by xs (map f xs) u) ≡ f (context u s)) [
      | true ↦ λ same _. ap f (all.0 ∙ ap (λ v. context v s) (sym (user_same u (user_in x) same)))
      | false ↦ λ _ later. told_mapped f s xs u all.1 later
    ] refl among

since_anew : (s t : Document) (xs : List Ctx) → told_since (filled t) (map (view_of (filled s)) xs) (map (λ x. context (user_in x) t) xs) ≡ map (λ x. told_of (filled s) (filled t) x (context (user_in x) t)) xs
since_anew s t [] = refl
since_anew s t (x ∷ xs) = ap (λ l. told_of (filled s) (filled t) x (context (user_in x) t) ∷ l) (since_anew s t xs)

-- by whole views: the changes of what the user sees
pub told_wholly : (s t : Document) (xs ys : List Ctx) (told : List (List ViewAction)) (u : User) → AreInForce s xs → is_known xs u ≡ true → ys ≡ map (λ x. context (user_in x) t) xs
    → told ≡ told_since (filled t) (map (view_of (filled s)) xs) ys → told_by xs told u ≡ changes (view u s) (view u t)
told_wholly s t xs ys told u all among anew is =
    ap (λ l. told_by xs l u) (is ∙ ap (told_since (filled t) (map (view_of (filled s)) xs)) anew ∙ since_anew s t xs)
    ∙ told_mapped (λ x. told_of (filled s) (filled t) x (context (user_in x) t)) s xs u all among

-- ---- bundles that leave the contexts as they are

module _ (same : SameContextLaw) (s : Document) (actions : List DocAction) (whole : IsWhole s) (valid : all_valid s actions ≡ true)
    (leaves : may_change_contexts (attributes_of s) (steps_done s actions) ≡ false) where
  -- by the rows that were touched: the changes of what the user sees
  pub told_narrowly : (xs : List Ctx) (told : List (List ViewAction)) (u : User) → AreInForce s xs → is_known xs u ≡ true
      → told ≡ map (λ x. told_of (filled s) (filled (apply_all s actions)) x x) xs → told_by xs told u ≡ changes (view u s) (view u (apply_all s actions))
  told_narrowly xs told u all among is =
      ap (λ l. told_by xs l u) is
      ∙ told_mapped (λ x. told_of (filled s) (filled (apply_all s actions)) x x) s xs u all among
      ∙ ap (λ x. changes (view u s) (seen_by (filled (apply_all s actions)) x)) (sym (same s actions whole valid leaves u))

  in_force_still : (xs : List Ctx) → AreInForce s xs → AreInForce (apply_all s actions) xs
  in_force_still [] all = tt
  in_force_still (x ∷ xs) all = (all.0 ∙ sym (same s actions whole valid leaves (user_in x)), in_force_still xs all.1)

  pub known_still : SameRulesLaw → (k : KnownContexts) → AreKnown s k → AreKnown (apply_all s actions) k
  known_still rules k is =
      let one : HaveOneBook (apply_all s actions) s = rules (attributes_of s) s actions whole valid leaves in
      record {
        attributes = is.attributes ∙ sym one.attributes;
        fields = is.fields ∙ ap mentioned_fields (sym one.book);
        contexts = in_force_still k.contexts.items is.contexts;
      }
