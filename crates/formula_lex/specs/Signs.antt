-- How signs are written.
use Rattle.std.specs.Prelude.{ℕ, Bool, false, nat_eq, List, codes}
use Rattle.formula_lex.specs.declared.token.Sign.{Sign}
use Rattle.formula_lex.specs.declared.token.Sign.TheVariants as sign

-- the characters of a sign
abbrev pub sign_text : Sign → List ℕ
sign_text sign.Plus = codes "+"
sign_text sign.Minus = codes "-"
sign_text sign.Star = codes "*"
sign_text sign.DoubleSlash = codes "//"
sign_text sign.Percent = codes "%"
sign_text sign.Equal = codes "=="
sign_text sign.NotEqual = codes "!="
sign_text sign.Less = codes "<"
sign_text sign.AtMost = codes "<="
sign_text sign.More = codes ">"
sign_text sign.AtLeast = codes ">="
sign_text sign.Open = codes "("
sign_text sign.Close = codes ")"
sign_text sign.OpenList = codes "["
sign_text sign.CloseList = codes "]"
sign_text sign.Comma = codes ","
sign_text sign.Point = codes "."
sign_text sign.Assign = codes "="

-- whether the sign and the character behind it are a longer sign: only `=` makes `<`, `>` and `=`
-- longer
abbrev pub is_longer : Sign → ℕ → Bool
is_longer sign.Less c = nat_eq c 61
is_longer sign.More c = nat_eq c 61
is_longer sign.Assign c = nat_eq c 61
is_longer _ c = false
