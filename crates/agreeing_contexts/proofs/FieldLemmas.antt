-- Fields gathered part by part.
use Rattle.std.proofs.Common.{◌≡◌, ◌∙◌, ap, refl, sym, subst, ℕ, zero, suc, ◌+◌, ◌<◌, Bool, true, false, cond, List, [], ◌∷◌, ◌++◌, length, get_or, drop, bytes_eq, arith, add-one}
use Rattle.std.proofs.lemmas.Bool.{and_parts}
use Rattle.std.proofs.lemmas.Slice.Eq.{bytes_eq-Decides}
use Rattle.std.specs.List.{AllByRecursion, list_any}
use Rattle.acl_rules.proofs.NarrowLemmas.{all_left, all_right}
use Rattle.agreeing_contexts.specs.Fields.{gathered, same_field, with_field}
use Rattle.agreeing_contexts.specs.declared.field.UserField.{UserField}

pub gathered_append : (seen fs gs : List UserField) → gathered seen (fs ++ gs) ≡ gathered (gathered seen fs) gs
gathered_append seen [] gs = refl
gathered_append seen (f ∷ fs) gs = gathered_append (with_field seen f) fs gs

-- what is left begins with one
drop_step : {X : Type 0} (xs : List X) (i : ℕ) (x : X) → i < length xs → x ≡ get_or xs i x → drop i xs ≡ x ∷ drop (suc i) xs
drop_step [] i x lt is = absurd (omega (arith, lt))
drop_step (y ∷ xs) zero x lt is = ap (λ z. z ∷ xs) (sym is)
drop_step (y ∷ xs) (suc i) x lt is = drop_step xs i x (omega (arith, lt)) is

pub drop_next : {X : Type 0} (xs : List X) (i : ℕ) (x : X) → i < length xs → x ≡ get_or xs i x → drop i xs ≡ x ∷ drop (i + 1) xs
drop_next xs i x lt is = rw (add-one i) (drop_step xs i x lt is)

-- ---- what holds of the gathered fields

pub all_both : {X : Type 0} (P : X → Type 0) (xs ys : List X) → AllByRecursion P xs → AllByRecursion P ys → AllByRecursion P (xs ++ ys)
all_both P [] ys h k = k
all_both P (x ∷ xs) ys h k = (h.0, all_both P xs ys h.1 k)

one_field : (f g : UserField) → same_field f g ≡ true → f ≡ g
one_field f g e =
    let both : (bytes_eq f.attribute g.attribute ≡ true) × (bytes_eq f.name g.name ≡ true) = and_parts (bytes_eq f.attribute g.attribute) (bytes_eq f.name g.name) e in
    let first : f.attribute ≡ g.attribute = (bytes_eq-Decides f.attribute g.attribute).0 both.0 in
    let second : f.name ≡ g.name = (bytes_eq-Decides f.name g.name).0 both.1 in
    λ i. record { attribute = first i; name = second i }

module _ (P : UserField → Type 0) where
  -- what was noted once is as each repeat
  noted : (seen : List UserField) (f : UserField) → list_any (λ g. same_field g f) seen ≡ true → AllByRecursion P seen → P f
  noted [] f e h = absurd (cc)
  noted (g ∷ seen) f e h = by (same_field g f) refl (λ rest. noted seen f rest h.1)
    where
      by : (b : Bool) → same_field g f ≡ b → (list_any (λ g. same_field g f) seen ≡ true → P f) → P f
      by true is later = subst P (one_field g f is) h.0
      by false is later = later (cc)

  one_all : (seen : List UserField) (f : UserField) → AllByRecursion P (with_field seen f) → AllByRecursion P seen × P f
  one_all seen f h = by (list_any (λ g. same_field g f) seen) refl h
    where
      by : (b : Bool) → list_any (λ g. same_field g f) seen ≡ b → AllByRecursion P (cond b seen (seen ++ f ∷ [])) → AllByRecursion P seen × P f
      by true e h = (h, noted seen f e h)
      by false e h = (all_left P seen (f ∷ []) h, (all_right P seen (f ∷ []) h).0)

  pub gathered_all : (seen fs : List UserField) → AllByRecursion P (gathered seen fs) → AllByRecursion P seen × AllByRecursion P fs
  gathered_all seen [] h = (h, tt)
  gathered_all seen (f ∷ fs) h =
      let rest = gathered_all (with_field seen f) fs h in
      let first = one_all seen f rest.0 in
      (first.0, (first.1, rest.1))
