-- Division that rounds down, by the division toward zero and what that leaves.
use Rattle.std.proofs.Common.{◌≡◌, ℕ, zero, suc, ◌+◌, ◌*◌, ◌/◌, ◌%◌, ◌<◌, ◌⊎◌, inl, inr, ℤ, pos, negsuc, ◌+ℤ◌, ◌-ℤ◌, refl, sym, ap, ◌∙◌, subst, arith, w64, Option, SomeIff}
use Rattle.std.proofs.lemmas.Bool.{cases_order}
use Rattle.std.proofs.lemmas.Int.{ints}
use Rattle.std.proofs.lemmas.Nat.{div-mul-add, mod-mul-add, div-add-mod'}
use Rattle.std.proofs.Math.Nat.{mod-lt, zero-div, zero-mod}
use Rattle.std.specs.Int.{IsNonZero}
use Rattle.std.specs.Int.RustNames.{int_div, int_rem, unsigned_abs, FitsSigned}
use Rattle.value_ops.specs.Division.{floored_quotient, floored_remainder, LeansAway}

-- of one more than n nothing is left
record Closes (n d : ℕ) : Type 0 where
  left : suc n % d ≡ 0
  quotient : suc n / d ≡ suc (n / d)
  before : suc (n % d) ≡ d

-- of one more than n one more is left
record GoesOn (n d : ℕ) : Type 0 where
  left : suc n % d ≡ suc (n % d)
  quotient : suc n / d ≡ n / d
  before : suc (n % d) < d

closes : (n d : ℕ) → 0 < d → suc (n % d) ≡ d → Closes n d
closes n d h e =
    let sum : suc (n / d) * d + 0 ≡ suc n = omega (arith, div-add-mod' n d, e) in
    record {
      left = ap (λ m. m % d) (sym sum) ∙ mod-mul-add (suc (n / d)) d 0 h;
      quotient = ap (λ m. m / d) (sym sum) ∙ div-mul-add (suc (n / d)) d 0 h;
      before = e;
    }

goes_on : (n d : ℕ) → suc (n % d) < d → GoesOn n d
goes_on n d h =
    let sum : n / d * d + suc (n % d) ≡ suc n = omega (arith, div-add-mod' n d) in
    record {
      left = ap (λ m. m % d) (sym sum) ∙ mod-mul-add (n / d) d (suc (n % d)) h;
      quotient = ap (λ m. m / d) (sym sum) ∙ div-mul-add (n / d) d (suc (n % d)) h;
      before = h;
    }

step : (n d : ℕ) → 0 < d → Closes n d ⊎ GoesOn n d
step n d h =
    elim (cases_order (suc (n % d)) d) as (λ _. Closes n d ⊎ GoesOn n d) [
      | inl e ↦ inl (closes n d h e)
      | inr (inl l) ↦ inr (goes_on n d l)
      | inr (inr g) ↦ (let l : n % d < d = mod-lt n h in absurd (omega (arith, l, g)))
    ]

-- what rounding down makes of the two results of the division toward zero
pub record IsRounded (a b : ℤ) : Type 0 where
  pub up : LeansAway (int_rem a b) b → (floored_quotient a b ≡ int_div a b -ℤ pos 1) × (floored_remainder a b ≡ int_rem a b +ℤ b)
  pub down : ¬ (LeansAway (int_rem a b) b) → (floored_quotient a b ≡ int_div a b) × (floored_remainder a b ≡ int_rem a b)

below_zero : (n d : ℕ) → 0 < d → Closes n d ⊎ GoesOn n d → IsRounded (negsuc n) (pos d)
below_zero n d h (inl s) = record {
  up = λ l. absurd (elim l as (λ _. ⊥) [ inl m ↦ omega (arith, ints, s.left, m.0) | inr m ↦ omega (arith, ints, m.1) ]);
  down = λ _. (rw s.quotient refl, omega (arith, ints, s.left, s.before));
}
below_zero n d h (inr s) = record {
  up = λ _. (rw s.quotient (omega (arith, ints)), omega (arith, ints, s.left, s.before));
  down = λ f. absurd (f (inl (omega (arith, ints, s.left), omega (arith, ints))));
}

by_negative : (n d : ℕ) → Closes n (suc d) ⊎ GoesOn n (suc d) → IsRounded (pos (suc n)) (negsuc d)
by_negative n d (inl s) = record {
  up = λ l. absurd (elim l as (λ _. ⊥) [ inl m ↦ omega (arith, ints, m.1) | inr m ↦ omega (arith, ints, s.left, m.0) ]);
  down = λ _. (rw s.quotient refl, omega (arith, ints, s.left, s.before));
}
by_negative n d (inr s) = record {
  up = λ _. (rw s.quotient (omega (arith, ints)), omega (arith, ints, s.left, s.before));
  down = λ f. absurd (f (inr (omega (arith, ints, s.left), omega (arith, ints))));
}

pub rounded : (a b : ℤ) → 0 < unsigned_abs b → IsRounded a b
rounded (pos n) (pos d) h = record {
  up = λ l. absurd (elim l as (λ _. ⊥) [ inl m ↦ omega (arith, ints, m.0) | inr m ↦ omega (arith, ints, m.1) ]);
  down = λ _. (refl, refl);
}
rounded (negsuc n) (pos d) h = below_zero n d h (step n d h)
rounded (pos zero) (negsuc d) h = record {
  up = λ l. absurd (elim l as (λ _. ⊥) [ inl m ↦ omega (arith, ints, m.1) | inr m ↦ omega (arith, ints, zero-mod (suc d), m.0) ]);
  down = λ _. (omega (arith, ints, zero-div (suc d)), omega (arith, ints, zero-mod (suc d)));
}
rounded (pos (suc n)) (negsuc d) h = by_negative n d (step n (suc d) (omega arith))
rounded (negsuc n) (negsuc d) h = record {
  up = λ l. absurd (elim l as (λ _. ⊥) [ inl m ↦ omega (arith, ints, m.1) | inr m ↦ omega (arith, ints, m.0) ]);
  down = λ _. (refl, refl);
}

-- what a test on the bits has told
pub not_zero : (b : ℤ) → IsNonZero w64 b → 0 < unsigned_abs b
not_zero (pos n) h = h
not_zero (negsuc n) h = omega arith

pub quotient_up : (a b q r : ℤ) (o : Option ℤ) → 0 < unsigned_abs b → q ≡ int_div a b → r ≡ int_rem a b → LeansAway r b → SomeIff o (FitsSigned w64 (q -ℤ pos 1)) (q -ℤ pos 1) → SomeIff o (FitsSigned w64 (floored_quotient a b)) (floored_quotient a b)
quotient_up a b q r o h d e l s =
    let leans : LeansAway (int_rem a b) b = subst (λ x. LeansAway x b) e l in
    let is : floored_quotient a b ≡ q -ℤ pos 1 = ((rounded a b h).up leans).0 ∙ ap (λ x. x -ℤ pos 1) (sym d) in
    subst (λ x. SomeIff o (FitsSigned w64 x) x) (sym is) s

pub quotient_down : (a b q r : ℤ) → 0 < unsigned_abs b → q ≡ int_div a b → r ≡ int_rem a b → ¬ (LeansAway r b) → q ≡ floored_quotient a b
quotient_down a b q r h d e l = d ∙ sym ((rounded a b h).down (subst (λ x. ¬ (LeansAway x b)) e l)).0

pub rest_up : (a b r : ℤ) → 0 < unsigned_abs b → r ≡ int_rem a b → LeansAway r b → r +ℤ b ≡ floored_remainder a b
rest_up a b r h e l = ap (λ x. x +ℤ b) e ∙ sym ((rounded a b h).up (subst (λ x. LeansAway x b) e l)).1

pub rest_down : (a b r : ℤ) → 0 < unsigned_abs b → r ≡ int_rem a b → ¬ (LeansAway r b) → r ≡ floored_remainder a b
rest_down a b r h e l = e ∙ sym ((rounded a b h).down (subst (λ x. ¬ (LeansAway x b)) e l)).1

pub fits_up : (b r : ℤ) → LeansAway r b → FitsSigned w64 b → FitsSigned w64 r → FitsSigned w64 (r +ℤ b)
fits_up b r (inl l) f g = omega (arith, ints, l.0, l.1)
fits_up b r (inr l) f g = grind (arith, ints)
