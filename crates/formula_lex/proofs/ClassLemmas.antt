-- The classes of characters and the signs, in the words of the spelling.
use Rattle.std.specs.Prelude.{ℕ, ◌<◌, ◌≤◌, ◌≡◌, ◌||◌, ◌&&◌, Bool, true, false, nat_eq, nat_le, cond, List, [], ◌∷◌, Some, None, ◌⊎◌, refl}
use Rattle.std.specs.Option.{is_some}
use Rattle.std.specs.Char.{is_ascii_alphabetic}
use Rattle.std.proofs.Common.{arith, ap, sym, ◌∙◌, subst, inl, inr, lit<}
use Rattle.std.proofs.lemmas.Bool.{leb-true, eqb-true}
use Rattle.std.proofs.lemmas.Bool.Decides.{nat_tests}
use Rattle.std.proofs.lemmas.Option.{none-some, same_Some}
use Rattle.unicode_ident.specs.Ident.{is_xid_start}
use Rattle.unicode_ident.proofs.IdentLemmas.{is_xid_start-ascii}
use Rattle.formula_lex.specs.declared.character.Class.{Class}
use Rattle.formula_lex.specs.declared.character.Class.TheVariants as class
use Rattle.formula_lex.specs.declared.character.Half.{Half}
use Rattle.formula_lex.specs.declared.character.Half.TheVariants as half
use Rattle.formula_lex.specs.declared.token.Sign.{Sign}
use Rattle.formula_lex.specs.declared.token.Sign.TheVariants as sign
use Rattle.formula_lex.specs.Characters.{is_blank, is_digit, is_quote}
use Rattle.formula_lex.specs.Signs.{sign_text, is_longer}
use Rattle.formula_lex.specs.Classes.{class_of, joined, alone}

-- the first character of a sign of two
abbrev pub half_sign : Half → ℕ
half_sign half.Slash = 47
half_sign half.Bang = 33
half_sign half.Equals = 61
half_sign half.Less = 60
half_sign half.More = 62

-- what a class says of its character
abbrev pub Means : ℕ → Class → Type 0
Means c class.Blank = is_blank c ≡ true
Means c class.Digit = is_digit c ≡ true
Means c class.Start = is_xid_start c ≡ true
Means c class.DollarSign = c ≡ 36
Means c class.Quote = is_quote c ≡ true
Means c (class.Single k) = (c ∷ [] ≡ sign_text k) × ((d : ℕ) → is_longer k d ≡ false)
Means c (class.Pair h) = c ≡ half_sign h
Means c class.Other = Unit {0}

record HasMeaning (c : ℕ) (k : Class) : Type 0 where
  meaning : Means c k

either_means : (c : ℕ) (b : Bool) (x y : Class) → (b ≡ true → Means c x) → HasMeaning c y → HasMeaning c (cond b x y)
either_means c true x y h k = record { meaning = h refl }
either_means c false x y h k = k

is_one : (c v : ℕ) → nat_eq c v ≡ true → c ∷ [] ≡ v ∷ []
is_one c v e = ap (λ (x : ℕ). x ∷ []) (eqb-true c v e)

all_means : (c : ℕ) → HasMeaning c (class_of c)
unfolding class_of
all_means c =
    either_means c (is_xid_start c) class.Start _ (λ e. e)
    (either_means c (is_blank c) class.Blank _ (λ e. e)
    (either_means c (is_digit c) class.Digit _ (λ e. e)
    (either_means c (nat_eq c 36) class.DollarSign _ (λ e. eqb-true c 36 e)
    (either_means c (is_quote c) class.Quote _ (λ e. e)
    (either_means c (nat_eq c 43) (class.Single sign.Plus) _ (λ e. (is_one c 43 e, λ d. refl))
    (either_means c (nat_eq c 45) (class.Single sign.Minus) _ (λ e. (is_one c 45 e, λ d. refl))
    (either_means c (nat_eq c 42) (class.Single sign.Star) _ (λ e. (is_one c 42 e, λ d. refl))
    (either_means c (nat_eq c 37) (class.Single sign.Percent) _ (λ e. (is_one c 37 e, λ d. refl))
    (either_means c (nat_eq c 40) (class.Single sign.Open) _ (λ e. (is_one c 40 e, λ d. refl))
    (either_means c (nat_eq c 41) (class.Single sign.Close) _ (λ e. (is_one c 41 e, λ d. refl))
    (either_means c (nat_eq c 91) (class.Single sign.OpenList) _ (λ e. (is_one c 91 e, λ d. refl))
    (either_means c (nat_eq c 93) (class.Single sign.CloseList) _ (λ e. (is_one c 93 e, λ d. refl))
    (either_means c (nat_eq c 44) (class.Single sign.Comma) _ (λ e. (is_one c 44 e, λ d. refl))
    (either_means c (nat_eq c 46) (class.Single sign.Point) _ (λ e. (is_one c 46 e, λ d. refl))
    (either_means c (nat_eq c 47) (class.Pair half.Slash) _ (eqb-true c 47)
    (either_means c (nat_eq c 33) (class.Pair half.Bang) _ (eqb-true c 33)
    (either_means c (nat_eq c 61) (class.Pair half.Equals) _ (eqb-true c 61)
    (either_means c (nat_eq c 60) (class.Pair half.Less) _ (eqb-true c 60)
    (either_means c (nat_eq c 62) (class.Pair half.More) class.Other (eqb-true c 62)
    (record { meaning = tt }))))))))))))))))))))

-- the class of a character says what it is
pub class_means : (c : ℕ) (k : Class) → class_of c ≡ k → Means c k
class_means c k e = let h : HasMeaning c k = subst (HasMeaning c) e (all_means c) in h.meaning

-- and what it is says its class
pub start_class : (c : ℕ) → is_xid_start c ≡ true → class_of c ≡ class.Start
unfolding class_of
start_class c e = rw e refl

no_start : (c : ℕ) → c < 128 → is_ascii_alphabetic c ≡ false → is_xid_start c ≡ false
no_start c h e = is_xid_start-ascii c h ∙ e

and_both : (a b : Bool) → (a && b) ≡ true → (a ≡ true) × (b ≡ true)
and_both true b e = (refl, e)
and_both false b e = absurd (cc)

or_either : (a b : Bool) → (a || b) ≡ true → (a ≡ true) ⊎ (b ≡ true)
or_either true b e = inl refl
or_either false b e = inr e

pub digit_within : (c : ℕ) → is_digit c ≡ true → (48 ≤ c) × (c ≤ 57)
digit_within c e = let b = and_both (nat_le 48 c) (nat_le c 57) e in (leb-true 48 c b.0, leb-true c 57 b.1)

digit_letter : (c : ℕ) → 48 ≤ c → c ≤ 57 → is_ascii_alphabetic c ≡ false
digit_letter c l h = grind (arith, nat_tests)

digit_blank : (c : ℕ) → 48 ≤ c → is_blank c ≡ false
digit_blank c l = grind (arith, nat_tests)

pub digit_class : (c : ℕ) → is_digit c ≡ true → class_of c ≡ class.Digit
unfolding class_of
digit_class c e =
    let w = digit_within c e in
    rw (no_start c (omega arith) (digit_letter c w.0 w.1), digit_blank c w.0, e) refl

module _ (v : ℕ) (l : v < 128) (e : is_ascii_alphabetic v ≡ false) where
  fixed : is_xid_start v ≡ false
  fixed = no_start v l e

at_value : (v : ℕ) (k : Class) → class_of v ≡ k → (c : ℕ) → nat_eq c v ≡ true → class_of c ≡ k
at_value v k e c h = ap class_of (eqb-true c v h) ∙ e

blank_9 : class_of 9 ≡ class.Blank
unfolding class_of
blank_9 = rw (no_start 9 (lit< tt) refl) refl

blank_10 : class_of 10 ≡ class.Blank
unfolding class_of
blank_10 = rw (no_start 10 (lit< tt) refl) refl

blank_13 : class_of 13 ≡ class.Blank
unfolding class_of
blank_13 = rw (no_start 13 (lit< tt) refl) refl

blank_32 : class_of 32 ≡ class.Blank
unfolding class_of
blank_32 = rw (no_start 32 (lit< tt) refl) refl

pub blank_class : (c : ℕ) → is_blank c ≡ true → class_of c ≡ class.Blank
blank_class c e =
    elim (or_either (nat_eq c 32 || nat_eq c 9 || nat_eq c 13) (nat_eq c 10) e) [
      | inr p ↦ at_value 10 _ blank_10 c p
      | inl q ↦ elim (or_either (nat_eq c 32 || nat_eq c 9) (nat_eq c 13) q) [
        | inr p ↦ at_value 13 _ blank_13 c p
        | inl r ↦ elim (or_either (nat_eq c 32) (nat_eq c 9) r) [
          | inr p ↦ at_value 9 _ blank_9 c p
          | inl p ↦ at_value 32 _ blank_32 c p
        ]
      ]
    ]

quote_39 : class_of 39 ≡ class.Quote
unfolding class_of
quote_39 = rw (no_start 39 (lit< tt) refl) refl

quote_34 : class_of 34 ≡ class.Quote
unfolding class_of
quote_34 = rw (no_start 34 (lit< tt) refl) refl

pub quote_class : (c : ℕ) → is_quote c ≡ true → class_of c ≡ class.Quote
quote_class c e =
    elim (or_either (nat_eq c 39) (nat_eq c 34) e) [ inl p ↦ at_value 39 _ quote_39 c p | inr p ↦ at_value 34 _ quote_34 c p ]

-- a quote is no backslash
pub quote_no_slash : (c : ℕ) → is_quote c ≡ true → nat_eq 92 c ≡ false
quote_no_slash c e =
    elim (or_either (nat_eq c 39) (nat_eq c 34) e) [
      | inl p ↦ ap (λ (x : ℕ). nat_eq 92 x) (eqb-true c 39 p)
      | inr p ↦ ap (λ (x : ℕ). nat_eq 92 x) (eqb-true c 34 p)
    ]

pub dollar_class : class_of 36 ≡ class.DollarSign
unfolding class_of
dollar_class = rw (no_start 36 (lit< tt) refl) refl

-- how the lexer reads a sign: one character, the first of a pair alone, or a pair
abbrev pub IsSign : Sign → List ℕ → Type 0
IsSign k [] = ⊥
IsSign k (c ∷ []) = (class_of c ≡ class.Single k) ⊎ ((h : Half) × (class_of c ≡ class.Pair h) × (alone h ≡ Some k))
IsSign k (c ∷ d ∷ []) = (h : Half) × (class_of c ≡ class.Pair h) × (joined h d ≡ Some k)
IsSign k (c ∷ d ∷ e ∷ es) = ⊥

pair_class : (h : Half) → class_of (half_sign h) ≡ class.Pair h
unfolding class_of
pair_class half.Slash = rw (no_start 47 (lit< tt) refl) refl
pair_class half.Bang = rw (no_start 33 (lit< tt) refl) refl
pair_class half.Equals = rw (no_start 61 (lit< tt) refl) refl
pair_class half.Less = rw (no_start 60 (lit< tt) refl) refl
pair_class half.More = rw (no_start 62 (lit< tt) refl) refl

pub sign_read : (k : Sign) → IsSign k (sign_text k)
unfolding class_of
sign_read sign.Plus = inl (rw (no_start 43 (lit< tt) refl) refl)
sign_read sign.Minus = inl (rw (no_start 45 (lit< tt) refl) refl)
sign_read sign.Star = inl (rw (no_start 42 (lit< tt) refl) refl)
sign_read sign.Percent = inl (rw (no_start 37 (lit< tt) refl) refl)
sign_read sign.Open = inl (rw (no_start 40 (lit< tt) refl) refl)
sign_read sign.Close = inl (rw (no_start 41 (lit< tt) refl) refl)
sign_read sign.OpenList = inl (rw (no_start 91 (lit< tt) refl) refl)
sign_read sign.CloseList = inl (rw (no_start 93 (lit< tt) refl) refl)
sign_read sign.Comma = inl (rw (no_start 44 (lit< tt) refl) refl)
sign_read sign.Point = inl (rw (no_start 46 (lit< tt) refl) refl)
sign_read sign.Less = inr (half.Less, pair_class half.Less, refl)
sign_read sign.More = inr (half.More, pair_class half.More, refl)
sign_read sign.Assign = inr (half.Equals, pair_class half.Equals, refl)
sign_read sign.DoubleSlash = (half.Slash, pair_class half.Slash, refl)
sign_read sign.NotEqual = (half.Bang, pair_class half.Bang, refl)
sign_read sign.Equal = (half.Equals, pair_class half.Equals, refl)
sign_read sign.AtMost = (half.Less, pair_class half.Less, refl)
sign_read sign.AtLeast = (half.More, pair_class half.More, refl)

pub alone_text : (h : Half) (k : Sign) → alone h ≡ Some k → half_sign h ∷ [] ≡ sign_text k
alone_text half.Slash k e = absurd (none-some k e)
alone_text half.Bang k e = absurd (none-some k e)
alone_text half.Equals k e = ap sign_text (same_Some _ _ e)
alone_text half.Less k e = ap sign_text (same_Some _ _ e)
alone_text half.More k e = ap sign_text (same_Some _ _ e)

two : (a c v : ℕ) → nat_eq c v ≡ true → a ∷ (c ∷ []) ≡ a ∷ (v ∷ [])
two a c v e = ap (λ (x : ℕ). a ∷ (x ∷ [])) (eqb-true c v e)

cond_is : (b : Bool) (j k : Sign) → cond b (Some j) None ≡ Some k → (b ≡ true) × (j ≡ k)
cond_is true j k e = (refl, same_Some _ _ e)
cond_is false j k e = absurd (none-some k e)

pub joined_text : (h : Half) (c : ℕ) (k : Sign) → joined h c ≡ Some k → half_sign h ∷ (c ∷ []) ≡ sign_text k
joined_text half.Slash c k e = let p = cond_is _ _ _ e in two 47 c 47 p.0 ∙ ap sign_text p.1
joined_text half.Bang c k e = let p = cond_is _ _ _ e in two 33 c 61 p.0 ∙ ap sign_text p.1
joined_text half.Equals c k e = let p = cond_is _ _ _ e in two 61 c 61 p.0 ∙ ap sign_text p.1
joined_text half.Less c k e = let p = cond_is _ _ _ e in two 60 c 61 p.0 ∙ ap sign_text p.1
joined_text half.More c k e = let p = cond_is _ _ _ e in two 62 c 61 p.0 ∙ ap sign_text p.1

-- a sign of one character is longer where the two are joined
some_cond : (b : Bool) (k : Sign) → is_some (cond b (Some k) None) ≡ b
some_cond true k = refl
some_cond false k = refl

pub alone_longer : (h : Half) (k : Sign) (c : ℕ) → alone h ≡ Some k → is_some (joined h c) ≡ is_longer k c
alone_longer half.Slash k c e = absurd (none-some k e)
alone_longer half.Bang k c e = absurd (none-some k e)
alone_longer half.Equals k c e = some_cond (nat_eq c 61) sign.Equal ∙ ap (λ (s : Sign). is_longer s c) (same_Some _ _ e)
alone_longer half.Less k c e = some_cond (nat_eq c 61) sign.AtMost ∙ ap (λ (s : Sign). is_longer s c) (same_Some _ _ e)
alone_longer half.More k c e = some_cond (nat_eq c 61) sign.AtLeast ∙ ap (λ (s : Sign). is_longer s c) (same_Some _ _ e)

pub joined_ends : (h : Half) (c : ℕ) (k : Sign) → joined h c ≡ Some k → (d : ℕ) → is_longer k d ≡ false
joined_ends half.Slash c k e d = ap (λ (s : Sign). is_longer s d) (sym (cond_is _ _ _ e).1)
joined_ends half.Bang c k e d = ap (λ (s : Sign). is_longer s d) (sym (cond_is _ _ _ e).1)
joined_ends half.Equals c k e d = ap (λ (s : Sign). is_longer s d) (sym (cond_is _ _ _ e).1)
joined_ends half.Less c k e d = ap (λ (s : Sign). is_longer s d) (sym (cond_is _ _ _ e).1)
joined_ends half.More c k e d = ap (λ (s : Sign). is_longer s d) (sym (cond_is _ _ _ e).1)

pub single_text : (c : ℕ) (k : Sign) → class_of c ≡ class.Single k → (c ∷ [] ≡ sign_text k) × ((d : ℕ) → is_longer k d ≡ false)
single_text c k e = class_means c (class.Single k) e
