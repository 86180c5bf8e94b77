-- Texts that stay as they are in a column of each type: they are not empty, say no number and are no
-- word for true or false.
use Rattle.std.proofs.Common.{◌≡◌, ℕ, ℤ, true, false, not, List, [], ◌∷◌, ◌++◌, drop, nat_eq, Some, None, refl, sym, ap, subst, ◌∙◌, if◌then◌else◌, bytes_eq, codes, true≢false}
use Rattle.std.proofs.lemmas.Bool.{not-true, and_parts, and_left, and_right, or_from}
use Rattle.std.specs.Prelude.{⊤}
use Rattle.std.specs.Char.{to_ascii_lowercase}
use Rattle.std.specs.List.{list_all}
use Rattle.std.specs.Option.{is_some}
use Rattle.std.specs.Str.{str_to_ascii_lowercase}
use Rattle.std.specs.Str.Parse.{signed_digits_value}
use Rattle.cell_types.specs.declared.value.CellValue.TheVariants as value
use Rattle.cell_types.specs.Conversion.{says_true, says_false, int_or, row_or, row_of_number, fit_int, fit_bool, fit_date, fit_ref, fit_ref_list}
use Rattle.cell_types.specs.Decimal.{is_digit, unsigned_part, has_decimal_form, fits_64_bits, decimal_of}

-- not empty
abbrev pub IsFilled : List ℕ → Type 0
IsFilled [] = ⊥
IsFilled (c ∷ cs) = ⊤

pub record IsPlain (text : List ℕ) : Type 0 where
  pub filled : IsFilled text
  pub number : decimal_of text ≡ None
  pub affirms : says_true text ≡ false
  pub denies : says_false text ≡ false

-- what stays in a column of each type
pub int_stays : (text : List ℕ) → IsFilled text → decimal_of text ≡ None → fit_int (value.Text text) ≡ value.Text text
int_stays [] h e = absurd h
int_stays (c ∷ cs) h e = ap (int_or (value.Text (c ∷ cs))) e

pub bool_stays : (text : List ℕ) → IsFilled text → says_true text ≡ false → says_false text ≡ false → fit_bool (value.Text text) ≡ value.Text text
bool_stays [] h t f = absurd h
bool_stays (c ∷ cs) h t f =
    ap (λ b. if b then value.Bool true else (if says_false (c ∷ cs) then value.Bool false else value.Text (c ∷ cs))) t
    ∙ ap (λ b. if b then value.Bool false else value.Text (c ∷ cs)) f

pub date_stays : (text : List ℕ) → IsFilled text → fit_date (value.Text text) ≡ value.Text text
date_stays [] h = absurd h
date_stays (c ∷ cs) h = refl

pub ref_stays : (t text : List ℕ) → IsFilled text → row_of_number (decimal_of text) ≡ None → fit_ref t (value.Text text) ≡ value.Text text
ref_stays t [] h e = absurd h
ref_stays t (c ∷ cs) h e = ap (row_or (value.Text (c ∷ cs))) e

pub ref_list_stays : (t text : List ℕ) → IsFilled text → fit_ref_list t (value.Text text) ≡ value.Text text
ref_list_stays t [] h = absurd h
ref_list_stays t (c ∷ cs) h = refl

-- a text that says a number is not empty
pub filled_from_number : (text : List ℕ) (z : ℤ) → decimal_of text ≡ Some z → IsFilled text
unfolding decimal_of has_decimal_form
filled_from_number [] z e = absurd (true≢false (sym (ap is_some e)))
filled_from_number (c ∷ cs) z e = tt

no_form : (text : List ℕ) → list_all is_digit (unsigned_part text) ≡ false → decimal_of text ≡ None
unfolding decimal_of has_decimal_form
no_form text h =
    ap (λ b. if b then Some (signed_digits_value 10 text) else None)
    (and_left (has_decimal_form text) (fits_64_bits (signed_digits_value 10 text)) (and_left _ _ h))

-- a text with a bracket
bracket_digits : (xs ys : List ℕ) → list_all is_digit (xs ++ 91 ∷ ys) ≡ false
bracket_digits [] ys = refl
bracket_digits (c ∷ cs) ys = and_right (is_digit c) _ (bracket_digits cs ys)

bracket_unsigned : (xs ys : List ℕ) → list_all is_digit (unsigned_part (xs ++ 91 ∷ ys)) ≡ false
bracket_unsigned [] ys = refl
bracket_unsigned (c ∷ cs) ys =
    elim (nat_eq c 45) as (λ b. list_all is_digit (if b then drop 1 (c ∷ cs ++ 91 ∷ ys) else (c ∷ cs ++ 91 ∷ ys)) ≡ false) [
      | true ↦ bracket_digits cs ys
      | false ↦ bracket_digits (c ∷ cs) ys
    ]

bracket_filled : (xs ys : List ℕ) → IsFilled (xs ++ 91 ∷ ys)
bracket_filled [] ys = tt
bracket_filled (c ∷ cs) ys = tt

bracket_word : (xs ys word : List ℕ) → list_all (λ d. not (nat_eq 91 d)) word ≡ true → bytes_eq (str_to_ascii_lowercase (xs ++ 91 ∷ ys)) word ≡ false
bracket_word [] ys [] h = refl
bracket_word [] ys (d ∷ ds) h = and_left (nat_eq 91 d) _ (not-true (nat_eq 91 d) (and_parts _ _ h).0)
bracket_word (c ∷ cs) ys [] h = refl
bracket_word (c ∷ cs) ys (d ∷ ds) h = and_right (nat_eq (to_ascii_lowercase c) d) _ (bracket_word cs ys ds (and_parts _ _ h).1)

pub bracket_plain : (xs ys : List ℕ) → IsPlain (xs ++ 91 ∷ ys)
bracket_plain xs ys = record {
  filled = bracket_filled xs ys;
  number = no_form (xs ++ 91 ∷ ys) (bracket_unsigned xs ys);
  affirms = or_from _ _ (bracket_word xs ys (codes "true") refl) (or_from _ _ (bracket_word xs ys (codes "yes") refl) (bracket_word xs ys (codes "1") refl));
  denies = or_from _ _ (bracket_word xs ys (codes "false") refl) (or_from _ _ (bracket_word xs ys (codes "no") refl) (bracket_word xs ys (codes "0") refl));
}

-- the same of a text in four parts
bracket_inside : (a b c d : List ℕ) → ((a ++ 91 ∷ b) ++ c) ++ d ≡ a ++ 91 ∷ ((b ++ c) ++ d)
bracket_inside [] b c d = refl
bracket_inside (x ∷ xs) b c d = ap (λ more. x ∷ more) (bracket_inside xs b c d)

pub parts_plain : (a b c d : List ℕ) → IsPlain (((a ++ 91 ∷ b) ++ c) ++ d)
parts_plain a b c d = subst IsPlain (sym (bracket_inside a b c d)) (bracket_plain a ((b ++ c) ++ d))

-- a text that begins with d
pub date_plain : (cs : List ℕ) → IsPlain (100 ∷ cs)
date_plain cs = record { filled = tt; number = no_form (100 ∷ cs) refl; affirms = refl; denies = refl }

-- True and False
pub true_number : decimal_of (codes "True") ≡ None
true_number = no_form (codes "True") refl

pub false_number : decimal_of (codes "False") ≡ None
false_number = no_form (codes "False") refl
