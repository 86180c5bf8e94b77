-- What an index among the open sessions says of those before and behind it.
use Rattle.std.proofs.Common.{◌≡◌, ℕ, suc, zero, ◌<◌, true, List, [], ◌∷◌, take, drop, length, get_or, refl, ap, sym, subst, ◌∙◌, arith, drop-cons}
use Rattle.std.specs.declared.cmp.Ordering.TheVariants.{Equal, Greater}
use Rattle.std.proofs.lemmas.Cmp.{nat_list_cmp_total}
use Rattle.std.proofs.lemmas.Map.Text.{is_eq-slice_cmp}
use Rattle.std.proofs.lemmas.Slice.Eq.{bytes_eq-Decides}
use Rattle.std.specs.Cmp.Lexicographic.{slice_cmp}
use Rattle.std.specs.List.{AllByRecursion}
use Rattle.std.specs.Ordering.{nat_cmp, is_lt, is_eq, ordering_reverse}
use Rattle.doc_model.specs.ByIds.{precedes, IsByIds}
use Rattle.doc_model.proofs.ByIdsLaws.{precedes_trans}
use Rattle.doc_model.proofs.Choices.{each_weaker}
use Rattle.bundle_core.specs.Dispatch.{kept_name, Finds, Misses}
use Rattle.bundle_core.specs.SessionState.{SessionState}

-- those behind an index stand above what stands there
behind : (xs : List SessionState) (i : ℕ) (d : SessionState) → IsByIds kept_name xs → i < length xs → AllByRecursion (λ y. precedes (get_or xs i d).session y.session ≡ true) (drop (suc i) xs)
behind [] i d h lt = absurd (omega (arith, lt))
behind (x ∷ xs) zero d h lt = h.0
behind (x ∷ xs) (suc i) d h lt = behind xs i d h.1 (omega (arith, lt))

-- what stands at an index does not depend on the default
pub at_index : (xs : List SessionState) (i : ℕ) (d e : SessionState) → i < length xs → get_or xs i d ≡ get_or xs i e
at_index [] i d e lt = absurd (omega (arith, lt))
at_index (x ∷ xs) zero d e lt = refl
at_index (x ∷ xs) (suc i) d e lt = at_index xs i d e (omega (arith, lt))

pub finds_at : (xs : List SessionState) (i : ℕ) (x : SessionState) (name : List ℕ) → IsByIds kept_name xs → i < length xs → x ≡ get_or xs i x
    → AllByRecursion (λ y. precedes y.session name ≡ true) (take i xs) → slice_cmp nat_cmp x.session name ≡ Equal → Finds name xs i
finds_at xs i x name h lt is below e =
    let same : x.session ≡ name = (bytes_eq-Decides x.session name).0 (sym (is_eq-slice_cmp x.session name) ∙ ap is_eq e) in
    let here : (get_or xs i x).session ≡ name = ap (λ (y : SessionState). y.session) (sym is) ∙ same in
    record {
      within = lt;
      named = λ d. ap (λ (y : SessionState). y.session) (at_index xs i d x lt) ∙ here;
      spot = record {
        below = below;
        above = let P : List ℕ → Type 0 = λ n. AllByRecursion (λ y. precedes n y.session ≡ true) (drop (suc i) xs) in subst P here (behind xs i x h lt);
      };
    }

pub misses_at : (xs : List SessionState) (i : ℕ) (x : SessionState) (name : List ℕ) → IsByIds kept_name xs → i < length xs → x ≡ get_or xs i x
    → AllByRecursion (λ y. precedes y.session name ≡ true) (take i xs) → slice_cmp nat_cmp x.session name ≡ Greater → Misses name xs i
misses_at xs i x name h lt is below e =
    let first : precedes name x.session ≡ true = ap is_lt (nat_list_cmp_total.antisymm name x.session ∙ ap ordering_reverse e) in
    let split : drop i xs ≡ x ∷ drop (suc i) xs = drop-cons xs i x lt ∙ ap (λ y. y ∷ drop (suc i) xs) (sym is) in
    let rest : AllByRecursion (λ y. precedes x.session y.session ≡ true) (drop (suc i) xs) =
    let P : SessionState → Type 0 = λ z. AllByRecursion (λ y. precedes z.session y.session ≡ true) (drop (suc i) xs) in subst P (sym is) (behind xs i x h lt) in
    let P : List SessionState → Type 0 = λ ys. AllByRecursion (λ y. precedes name y.session ≡ true) ys in
    record {
      within = omega (arith, lt);
      spot = record {
        below = below;
        above = subst P (sym split) (first, each_weaker (λ y. precedes x.session y.session ≡ true) (λ y. precedes name y.session ≡ true) (λ y p. precedes_trans name x.session y.session first p) (drop (suc i) xs) rest);
      };
    }
