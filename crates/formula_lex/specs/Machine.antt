-- The lexer as a machine that takes one character after the other.
use Rattle.std.specs.Prelude.{ℕ, ◌+◌, ◌-◌, ◌*◌, nat_lt, cond, List, [], ◌∷◌, ◌++◌, Option, Some, None, nat_eq}
use Rattle.std.specs.Char.{encode_utf8, len_utf8}
use Rattle.unicode_ident.specs.Ident.{is_xid_continue}
use Rattle.formula_lex.specs.declared.character.Class.{Class}
use Rattle.formula_lex.specs.declared.character.Class.TheVariants as class
use Rattle.formula_lex.specs.declared.character.Half.{Half}
use Rattle.formula_lex.specs.declared.reading.Reading.{Reading}
use Rattle.formula_lex.specs.declared.reading.Reading.TheVariants as reading
use Rattle.formula_lex.specs.declared.token.Sign.{Sign}
use Rattle.formula_lex.specs.declared.token.Token.{Token}
use Rattle.formula_lex.specs.declared.token.TokenKind.{TokenKind}
use Rattle.formula_lex.specs.declared.token.TokenKind.TheVariants as kind
use Rattle.formula_lex.specs.Characters.{is_digit, escaped, is_plain}
use Rattle.formula_lex.specs.Classes.{class_of, joined, alone}
use Rattle.formula_lex.specs.Spelling.{number_bound}

-- the next step, where there is one
infixl 10 ◌>>=◌
abbrev pub ◌>>=◌ : {A B : Type 0} → Option A → (A → Option B) → Option B
None >>= f = None
(Some x) >>= f = f x

-- the tokens so far, and what is open
abbrev pub State : Type 0
State = List Token × Reading

-- one more token
abbrev pub put : List Token → TokenKind → ℕ → ℕ → List Token
put out k from to = out ++ record { kind = k; from = from; to = to } ∷ []

-- a character of that class where no token is open
abbrev pub begin : Class → List Token → ℕ → ℕ → Option State
begin class.Blank out at c = Some (out, reading.Between)
begin class.Digit out at c = Some (out, reading.Number at (c - 48))
begin class.Start out at c = Some (out, reading.Name at (encode_utf8 c))
begin class.DollarSign out at c = Some (out, reading.Dollar at)
begin class.Quote out at c = Some (out, reading.Text at c [])
begin (class.Single k) out at c =
    Some (put out (kind.Sign k) at (at + len_utf8 c), reading.Between)
begin (class.Pair h) out at c = Some (out, reading.Half at h)
begin class.Other out at c = None

-- a character where no token is open
abbrev pub between : List Token → ℕ → ℕ → Option State
between out at c = begin (class_of c) out at c

-- a character where a name is open
abbrev pub name_step : List Token → ℕ → ℕ → List ℕ → ℕ → Option State
name_step out from at w c =
    cond (is_xid_continue c) (Some (out, reading.Name from (w ++ encode_utf8 c)))
    (between (put out (kind.Name w) from at) at c)

-- the name that a character behind `$` begins
abbrev pub dollar_word : ℕ → ℕ → Class → Option Reading
dollar_word from c class.Start = Some (reading.DollarName from (encode_utf8 c))
dollar_word from c _ = None

-- a character behind `$`
abbrev pub dollar_step : List Token → ℕ → ℕ → Class → Option State
dollar_step out from c k = dollar_word from c k >>= λ m. Some (out, m)

-- a character where a name behind `$` is open
abbrev pub dollar_name_step : List Token → ℕ → ℕ → List ℕ → ℕ → Option State
dollar_name_step out from at w c =
    cond (is_xid_continue c) (Some (out, reading.DollarName from (w ++ encode_utf8 c)))
    (between (put out (kind.Dollar w) from at) at c)

-- the number with one more digit
abbrev pub more_digits : ℕ → ℕ → Option ℕ
more_digits n d = cond (nat_lt (n * 10 + d) number_bound) (Some (n * 10 + d)) None

-- a character where a number is open
abbrev pub number_step : List Token → ℕ → ℕ → ℕ → ℕ → Option State
number_step out from at n c =
    cond (is_digit c) (more_digits n (c - 48) >>= λ m. Some (out, reading.Number from m))
    (between (put out (kind.Number n) from at) at c)

-- a character where a string is open
abbrev pub text_step : List Token → ℕ → ℕ → ℕ → List ℕ → ℕ → Option State
text_step out from at q w c =
    cond (is_plain q c) (Some (out, reading.Text from q (w ++ encode_utf8 c)))
    (cond (nat_eq c q) (Some (put out (kind.Text w) from (at + len_utf8 c), reading.Between))
    (cond (nat_eq c 92) (Some (out, reading.Escape from q w)) None))

-- a character behind the first one of a sign, and the sign that the two make
abbrev pub half_step : List Token → ℕ → ℕ → Half → ℕ → Option Sign → Option State
half_step out from at h c (Some k) =
    Some (put out (kind.Sign k) from (at + len_utf8 c), reading.Between)
half_step out from at h c None =
    alone h >>= λ k. between (put out (kind.Sign k) from at) at c

-- the next character
unfoldable pub step : List Token → Reading → ℕ → ℕ → Option State
step out reading.Between at c = between out at c
step out (reading.Name from w) at c = name_step out from at w c
step out (reading.Dollar from) at c = dollar_step out from c (class_of c)
step out (reading.DollarName from w) at c = dollar_name_step out from at w c
step out (reading.Number from n) at c = number_step out from at n c
step out (reading.Text from q w) at c = text_step out from at q w c
step out (reading.Escape from q w) at c =
    escaped c >>= λ d. Some (out, reading.Text from q (w ++ encode_utf8 d))
step out (reading.Half from h) at c = half_step out from at h c (joined h c)

-- the end of the text
unfoldable pub finish : List Token → Reading → ℕ → Option (List Token)
finish out reading.Between at = Some out
finish out (reading.Name from w) at = Some (put out (kind.Name w) from at)
finish out (reading.DollarName from w) at = Some (put out (kind.Dollar w) from at)
finish out (reading.Number from n) at = Some (put out (kind.Number n) from at)
finish out (reading.Half from h) at = alone h >>= λ k. Some (put out (kind.Sign k) from at)
finish out _ at = None

-- the characters from a place on
unfoldable pub lex : List Token → Reading → ℕ → List ℕ → Option (List Token)
lex out m at [] = finish out m at
lex out m at (c ∷ cs) = step out m at c >>= λ s. lex s.0 s.1 (at + len_utf8 c) cs

-- all of them
unfoldable pub tokens_in : List ℕ → Option (List Token)
tokens_in cs = lex [] reading.Between 0 cs
