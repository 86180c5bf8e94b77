-- A name with a number behind it.
use Rattle.std.proofs.Common.{◌≡◌, ℕ, zero, suc, ◌+◌, ◌-◌, ◌%◌, ◌^◌, ◌<◌, ◌≤◌, Bool, true, false, ◌&&◌, List, [], ◌∷◌, ◌++◌, length, take, refl, ap, sym, ◌∙◌, arith, length-append, length-take, min, le-leb}
use Rattle.std.specs.Prelude.{nat_le}
use Rattle.std.specs.Str.{chars, encode_utf8_all, bytes_eq}
use Rattle.std.specs.List.{list_any, list_all}
use Rattle.std.specs.Char.{is_ascii_alphanumeric}
use Rattle.std.specs.Fmt.{decimal}
use Rattle.std.proofs.Math.Utf8.{scalars}
use Rattle.std.proofs.lemmas.Bool.{and_parts, and_from, or_right, or_left, or_parts, or_from, false_from_ne_true, not_from_false, false≢true}
use Rattle.std.proofs.lemmas.Fmt.{decimal_by_steps, decimal_nonempty, length-decimal-le, IsAscii-decimal}
use Rattle.std.proofs.lemmas.List.Folds.{list_any-append, list_all-append}
use Rattle.std.proofs.lemmas.Slice.Eq.{bytes_eq-Decides}
use Rattle.std.proofs.lemmas.Str.{chars-append, chars-encodes, chars-IsAscii}
use Rattle.unicode_ident.specs.Ident.{is_xid_continue}
use Rattle.unicode_ident.proofs.IdentLemmas.{is_xid_continue-ascii}
use Rattle.cell_types.specs.NameLength.{HasNameLength}
use Rattle.cell_types.specs.NameRule.{reserved_words, is_reserved, has_name_characters, is_name}
use Rattle.name_rules.specs.FreeName.{numbered}
use Rattle.name_rules.proofs.NameCharacters.{scalars-name}

scalars-take : (n : ℕ) (cs : List ℕ) → scalars cs ≡ true → scalars (take n cs) ≡ true
scalars-take zero cs all = refl
scalars-take (suc n) [] all = refl
scalars-take (suc n) (c ∷ cs) all = let parts = and_parts _ _ all in and_from _ _ parts.0 (scalars-take n cs parts.1)

-- the characters are those of the text, cut, and then the digits
chars-numbered : (text : List ℕ) (k : ℕ) → scalars (chars text) ≡ true → k < 2 ^ 64 → chars (numbered text k) ≡ take (64 - length (decimal k)) (chars text) ++ decimal k
unfolding numbered
chars-numbered text k text_good small =
    let front = take (64 - length (decimal k)) (chars text) in
    let good : scalars front ≡ true = scalars-take (64 - length (decimal k)) (chars text) text_good in
    chars-append (encode_utf8_all front) (decimal k) (front, (good, refl))
    ∙ ap (λ cs. cs ++ chars (decimal k)) (chars-encodes front good)
    ∙ ap (λ cs. front ++ cs) (chars-IsAscii (decimal k) (IsAscii-decimal k small))

pub few_digits : (k : ℕ) → k < 2 ^ 64 → length (decimal k) ≤ 20
few_digits k small = length-decimal-le 20 k (omega arith) (omega arith) small

pub HasNameLength-numbered : (text : List ℕ) (k : ℕ) → scalars (chars text) ≡ true → k < 2 ^ 64 → HasNameLength (numbered text k)
HasNameLength-numbered text k good small =
    let count : length (chars (numbered text k)) ≡ min (64 - length (decimal k)) (length (chars text)) + length (decimal k) =
    ap length (chars-numbered text k good small)
    ∙ length-append (take (64 - length (decimal k)) (chars text)) (decimal k)
    ∙ ap (λ n. n + length (decimal k)) (length-take (64 - length (decimal k)) (chars text)) in
    record {
      some = omega (arith, count, decimal_nonempty k small);
      few = omega (arith, count, few_digits k small);
    }

-- ---- characters of an identifier
digit_is_alphanumeric : (d : ℕ) → d < 10 → is_ascii_alphanumeric (48 + d) ≡ true
digit_is_alphanumeric d small = or_left _ _ (or_left _ _ (and_from _ _ (le-leb 48 (48 + d) (omega arith)) (le-leb (48 + d) 57 (omega arith))))

digit_continues : (d : ℕ) → d < 10 → is_xid_continue (48 + d) ≡ true
digit_continues d small = is_xid_continue-ascii (48 + d) (omega arith) ∙ or_left _ _ (digit_is_alphanumeric d small)

digits_continue : (k : ℕ) → k < 2 ^ 64 → list_all (λ c. is_xid_continue c) (decimal k) ≡ true
digits_continue = decimal_by_steps (λ n ds. list_all (λ c. is_xid_continue c) ds ≡ true)
    (λ n small. and_from _ _ (digit_continues n small) refl)
    (λ n ds ten before. list_all-append (λ c. is_xid_continue c) ds ((48 + n % 10) ∷ [])
    ∙ and_from _ _ before (and_from _ _ (digit_continues (n % 10) (omega arith)) refl))

all_kept : (p : ℕ → Bool) (n : ℕ) (cs ds : List ℕ) → list_all p cs ≡ true → list_all p ds ≡ true → list_all p (take n cs ++ ds) ≡ true
all_kept p zero cs ds all rest = rest
all_kept p (suc n) [] ds all rest = rest
all_kept p (suc n) (c ∷ cs) ds all rest = let parts = and_parts _ _ all in and_from _ _ parts.0 (all_kept p n cs ds parts.1 rest)

characters_kept : (n : ℕ) (cs ds : List ℕ) → 0 < n → has_name_characters cs ≡ true → list_all (λ c. is_xid_continue c) ds ≡ true → has_name_characters (take n cs ++ ds) ≡ true
characters_kept zero cs ds some all rest = absurd (omega arith)
characters_kept (suc n) [] ds some all rest = absurd (false≢true all)
characters_kept (suc n) (c ∷ cs) ds some all rest =
    let parts = and_parts _ _ all in and_from _ _ parts.0 (all_kept (λ c. is_xid_continue c) n cs ds parts.1 rest)

-- ---- no word of formulas has a digit
is_digit : ℕ → Bool
is_digit c = nat_le 48 c && nat_le c 57

digit_is_digit : (d : ℕ) → d < 10 → is_digit (48 + d) ≡ true
unfolding is_digit
digit_is_digit d small = and_from _ _ (le-leb 48 (48 + d) (omega arith)) (le-leb (48 + d) 57 (omega arith))

digits_have_digit : (k : ℕ) → k < 2 ^ 64 → list_any (λ c. is_digit c) (decimal k) ≡ true
digits_have_digit = decimal_by_steps (λ n ds. list_any (λ c. is_digit c) ds ≡ true)
    (λ n small. or_left _ _ (digit_is_digit n small))
    (λ n ds ten before. list_any-append (λ c. is_digit c) ds ((48 + n % 10) ∷ []) ∙ or_left _ _ before)

no_digit_in_words : list_any (λ word. list_any (λ c. is_digit c) word) reserved_words ≡ false
unfolding is_digit reserved_words
no_digit_in_words = refl

not_among : (p : List ℕ → Bool) (words : List (List ℕ)) (text : List ℕ) → list_any p words ≡ false → p text ≡ true → list_any (λ word. bytes_eq word text) words ≡ false
not_among p [] text none here = refl
not_among p (word ∷ words) text none here =
    let parts = or_parts _ _ none in
    or_from _ _
    (false_from_ne_true _ (λ same. false≢true (sym parts.0 ∙ ap p ((bytes_eq-Decides word text).0 same) ∙ here)))
    (not_among p words text parts.1 here)

not_reserved : (text : List ℕ) → list_any (λ c. is_digit c) text ≡ true → is_reserved text ≡ false
unfolding is_reserved
not_reserved text digit = not_among (λ word. list_any (λ c. is_digit c) word) reserved_words text no_digit_in_words digit

pub is_name-numbered : (text : List ℕ) (k : ℕ) → k < 2 ^ 64 → is_name text ≡ true → is_name (numbered text k) ≡ true
unfolding is_name numbered
is_name-numbered text k small good =
    let parts = and_parts _ _ good in
    let text_good = scalars-name text good in
    let size = HasNameLength-numbered text k text_good small in
    let digit : list_any (λ c. is_digit c) (numbered text k) ≡ true =
    list_any-append (λ c. is_digit c) (encode_utf8_all (take (64 - length (decimal k)) (chars text))) (decimal k) ∙ or_right _ _ (digits_have_digit k small) in
    and_from _ _
    (ap has_name_characters (chars-numbered text k text_good small)
    ∙ characters_kept _ (chars text) (decimal k) (omega (arith, few_digits k small)) parts.0 (digits_continue k small))
    (and_from _ _ (le-leb _ _ size.few) (not_from_false _ (not_reserved (numbered text k) digit)))
