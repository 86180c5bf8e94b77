-- What std reads in a text of the decimal form is what the definition says.
use Rattle.std.proofs.Common.{◌≡◌, ℕ, ℤ, pos, negsuc, ◌+◌, ◌<◌, ◌≤◌, true, false, cond, List, [], ◌∷◌, drop, length, nat_eq, Some, None, Result, Ok, Err, refl, sym, ap, ◌∙◌, arith, w64, if◌then◌else◌}
use Rattle.std.proofs.lemmas.Bool.{and_parts, and_from, leb-true, ltb-true, lt-ltb, ne_eqb, false_from_ne_true, and_right}
use Rattle.std.proofs.lemmas.Str.{digit_value_digit}
use Rattle.std.specs.Char.{digit_value}
use Rattle.std.specs.Int.RustNames.{FitsSigned}
use Rattle.std.specs.List.{list_all}
use Rattle.std.specs.Result.{result_ok}
use Rattle.std.specs.Str.Parse.{AllDigits, IsNumeral, ParsesSigned, without_leading_sign, without_leading_plus, signed_digits_value}
use Rattle.cell_types.specs.Decimal.{is_digit, unsigned_part, has_decimal_form, fits_64_bits, decimal_of}

digit_small : (c : ℕ) → is_digit c ≡ true → digit_value c < 10
digit_small c h =
    let p = and_parts _ _ h in
    let low : 48 ≤ c = leb-true 48 c p.0 in
    let high : c ≤ 57 = leb-true c 57 p.1 in
    let e : digit_value c + 48 ≡ c = digit_value_digit c (low, high) in
    omega (arith, e, high)

not_plus : (c : ℕ) → is_digit c ≡ true → nat_eq c 43 ≡ false
not_plus c h =
    let low : 48 ≤ c = leb-true 48 c (and_parts _ _ h).0 in
    ne_eqb c 43 (λ e. let bad : 43 < c = omega (arith, low) in omega (arith, bad, e))

all_digits : (ds : List ℕ) → list_all is_digit ds ≡ true → AllDigits 10 ds
all_digits [] h = tt
all_digits (c ∷ cs) h = let p = and_parts _ _ h in (digit_small c p.0, all_digits cs p.1)

-- a text of the form has no plus
pub no_plus : (text : List ℕ) → list_all is_digit (unsigned_part text) ≡ true → without_leading_sign text ≡ unsigned_part text
no_plus [] h = refl
no_plus (c ∷ cs) h =
    elim (nat_eq c 45) as (λ b. list_all is_digit (if b then cs else c ∷ cs) ≡ true → cond b cs (without_leading_plus (c ∷ cs)) ≡ (if b then cs else c ∷ cs)) [
      | true ↦ λ all. refl
      | false ↦ λ all. ap (λ b. drop (cond b 1 0) (c ∷ cs)) (not_plus c (and_parts _ _ all).0)
    ] h

is_numeral : (text : List ℕ) → has_decimal_form text ≡ true → IsNumeral 10 (without_leading_sign text)
unfolding has_decimal_form
is_numeral text h =
    let p = and_parts _ _ h in
    let some : 0 < length (unsigned_part text) = ltb-true 0 _ (and_parts _ _ p.1).0 in
    rw (no_plus text p.0) (some, all_digits (unsigned_part text) p.0)

fits_from : (z : ℤ) → fits_64_bits z ≡ true → FitsSigned w64 z
fits_from (pos n) h = record { sfits = ltb-true n _ h }
fits_from (negsuc n) h = record { sfits = ltb-true n _ h }

fits_to : (z : ℤ) → FitsSigned w64 z → fits_64_bits z ≡ true
fits_to (pos n) h = lt-ltb n _ h.sfits
fits_to (negsuc n) h = lt-ltb n _ h.sfits

pub decimal_of_parse : {E : Type 0} (text : List ℕ) (r : Result ℤ E) → has_decimal_form text ≡ true → ParsesSigned w64 10 text r → result_ok r ≡ decimal_of text
unfolding decimal_of
decimal_of_parse text (Ok x) form p =
    let fits = fits_to (signed_digits_value 10 text) p.0.1 in
    ap Some p.1 ∙ sym (ap (λ b. if b then Some (signed_digits_value 10 text) else None) (and_from _ _ form fits))
decimal_of_parse text (Err e) form never =
    let fits = false_from_ne_true (fits_64_bits (signed_digits_value 10 text)) (λ h. never (is_numeral text form, fits_from _ h)) in
    sym (ap (λ b. if b then Some (signed_digits_value 10 text) else None) (and_right (has_decimal_form text) _ fits))
