-- The texts of whole numbers are decimal texts and say their numbers.
use Rattle.std.proofs.Common.{◌≡◌, ℕ, ℤ, pos, negsuc, ◌<◌, ◌≤◌, true, false, ◌&&◌, cond, neg_ℤ, List, [], ◌∷◌, drop, length, nat_lt, nat_le, Some, None, refl, sym, ap, subst, ◌∙◌, arith, suc, if◌then◌else◌, ltb-true, lt-ltb, le-leb, leb-true, ne_eqb, decimal}
use Rattle.std.proofs.lemmas.Bool.{and_parts, and_from}
use Rattle.std.proofs.lemmas.Fmt.{decimal_is_IsNumeral, length-decimal-le}
use Rattle.std.proofs.lemmas.Str.Parse.{digit_from_value}
use Rattle.std.specs.Char.{digit_value}
use Rattle.std.specs.Fmt.{signed_decimal}
use Rattle.std.specs.List.{list_all}
use Rattle.std.specs.Str.Parse.{AllDigits, starts_with_minus, without_leading_sign, digits_value, signed_digits_value}
use Rattle.cell_types.specs.Decimal.{is_digit, unsigned_part, has_decimal_form, fits_64_bits, decimal_of}
use Rattle.cell_types.specs.ConversionLaws.{DecimalReadsBack}
use Rattle.cell_types.proofs.Decimals.{no_plus}

digit_from : (c : ℕ) → digit_value c < 10 → is_digit c ≡ true
digit_from c h = let p = digit_from_value c h in and_from _ _ (le-leb 48 c p.0) (le-leb c 57 p.1)

digits_from : (ds : List ℕ) → AllDigits 10 ds → list_all is_digit ds ≡ true
digits_from [] h = refl
digits_from (c ∷ cs) h = and_from _ _ (digit_from c h.0) (digits_from cs h.1)

no_minus : (ds : List ℕ) → list_all is_digit ds ≡ true → starts_with_minus ds ≡ false
no_minus [] h = refl
no_minus (c ∷ cs) h =
    let low : 48 ≤ c = leb-true 48 c (and_parts _ _ (and_parts _ _ h).0).0 in
    ne_eqb c 45 (λ e. let bad : 45 < c = omega (arith, low) in omega (arith, bad, e))

decimal_of_digits : (text ds : List ℕ) (z : ℤ) → unsigned_part text ≡ ds → list_all is_digit ds ≡ true → 0 < length ds → length ds ≤ 19 → signed_digits_value 10 text ≡ z → fits_64_bits z ≡ true → decimal_of text ≡ Some z
unfolding decimal_of has_decimal_form
decimal_of_digits text ds z e all some few v f =
    let form : has_decimal_form text ≡ true =
    subst (λ u. (list_all is_digit u && (nat_lt 0 (length u) && nat_le (length u) 19)) ≡ true) (sym e)
    (and_from _ _ all (and_from _ _ (lt-ltb 0 (length ds) some) (le-leb (length ds) 19 few))) in
    let fits : fits_64_bits (signed_digits_value 10 text) ≡ true = subst (λ y. fits_64_bits y ≡ true) (sym v) f in
    ap (λ b. if b then Some (signed_digits_value 10 text) else None) (and_from _ _ form fits) ∙ ap Some v

-- the digits of a number, as a text with no sign
unsigned_digits : (ds : List ℕ) → list_all is_digit ds ≡ true → unsigned_part ds ≡ ds
unsigned_digits ds h = ap (λ b. if b then drop 1 ds else ds) (no_minus ds h)

positive_value : (ds : List ℕ) (n : ℕ) → list_all is_digit ds ≡ true → digits_value 10 ds ≡ n → signed_digits_value 10 ds ≡ pos n
positive_value ds n h v =
    let plain : without_leading_sign ds ≡ ds = no_plus ds (subst (λ u. list_all is_digit u ≡ true) (sym (unsigned_digits ds h)) h) ∙ unsigned_digits ds h in
    ap (λ b. cond b (neg_ℤ (pos (digits_value 10 (without_leading_sign ds)))) (pos (digits_value 10 (without_leading_sign ds)))) (no_minus ds h)
    ∙ ap (λ u. pos (digits_value 10 u)) plain ∙ ap pos v

pub decimal_reads_back : DecimalReadsBack
decimal_reads_back (pos n) h =
    let small : n < 9223372036854775808 = ltb-true n _ h in
    let p = decimal_is_IsNumeral n (omega (arith, small)) in
    let all = digits_from (decimal n) p.0.1 in
    decimal_of_digits (decimal n) (decimal n) (pos n) (unsigned_digits (decimal n) all) all p.0.0
    (length-decimal-le 19 n (omega arith) (omega (arith, small)) (omega (arith, small)))
    (positive_value (decimal n) n all p.1) h
decimal_reads_back (negsuc n) h =
    let small : n < 9223372036854775808 = ltb-true n _ h in
    let p = decimal_is_IsNumeral (suc n) (omega (arith, small)) in
    let all = digits_from (decimal (suc n)) p.0.1 in
    decimal_of_digits (signed_decimal (negsuc n)) (decimal (suc n)) (negsuc n) refl all p.0.0
    (length-decimal-le 19 (suc n) (omega arith) (omega (arith, small)) (omega (arith, small)))
    (ap (λ m. neg_ℤ (pos m)) p.1) h
