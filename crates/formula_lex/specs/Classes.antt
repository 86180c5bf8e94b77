-- How the lexer tells characters apart: by what they begin.
use Rattle.std.specs.Prelude.{ℕ, cond, nat_eq, Option, Some, None}
use Rattle.unicode_ident.specs.Ident.{is_xid_start}
use Rattle.formula_lex.specs.declared.character.Class.{Class}
use Rattle.formula_lex.specs.declared.character.Class.TheVariants.{Blank, Digit, Start, DollarSign, Quote, Single, Pair, Other}
use Rattle.formula_lex.specs.declared.character.Half.{Half}
use Rattle.formula_lex.specs.declared.character.Half.TheVariants as half
use Rattle.formula_lex.specs.declared.token.Sign.{Sign}
use Rattle.formula_lex.specs.declared.token.Sign.TheVariants as sign
use Rattle.formula_lex.specs.Characters.{is_blank, is_digit, is_quote}

-- what a character begins
unfoldable pub class_of : ℕ → Class
class_of c =
    cond (is_xid_start c) Start
    (cond (is_blank c) Blank
    (cond (is_digit c) Digit
    (cond (nat_eq c 36) DollarSign
    (cond (is_quote c) Quote
    (cond (nat_eq c 43) (Single sign.Plus)
    (cond (nat_eq c 45) (Single sign.Minus)
    (cond (nat_eq c 42) (Single sign.Star)
    (cond (nat_eq c 37) (Single sign.Percent)
    (cond (nat_eq c 40) (Single sign.Open)
    (cond (nat_eq c 41) (Single sign.Close)
    (cond (nat_eq c 91) (Single sign.OpenList)
    (cond (nat_eq c 93) (Single sign.CloseList)
    (cond (nat_eq c 44) (Single sign.Comma)
    (cond (nat_eq c 46) (Single sign.Point)
    (cond (nat_eq c 47) (Pair half.Slash)
    (cond (nat_eq c 33) (Pair half.Bang)
    (cond (nat_eq c 61) (Pair half.Equals)
    (cond (nat_eq c 60) (Pair half.Less)
    (cond (nat_eq c 62) (Pair half.More) Other)))))))))))))))))))

-- the sign that the two characters make
abbrev pub joined : Half → ℕ → Option Sign
joined half.Slash c = cond (nat_eq c 47) (Some sign.DoubleSlash) None
joined half.Bang c = cond (nat_eq c 61) (Some sign.NotEqual) None
joined half.Equals c = cond (nat_eq c 61) (Some sign.Equal) None
joined half.Less c = cond (nat_eq c 61) (Some sign.AtMost) None
joined half.More c = cond (nat_eq c 61) (Some sign.AtLeast) None

-- the sign that the one character makes
abbrev pub alone : Half → Option Sign
alone half.Slash = None
alone half.Bang = None
alone half.Equals = Some sign.Assign
alone half.Less = Some sign.Less
alone half.More = Some sign.More
