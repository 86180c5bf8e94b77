-- Which words the grammar tells apart, and how what it sees is written in tokens.
use Rattle.std.specs.Prelude.{ℕ, Bool, true, not, ◌&&◌, cond, nat_le, nat_lt, List, [], ◌∷◌, ◌≡◌, length, Option, Some, None, codes, bytes_eq}
use Rattle.std.specs.Str.{chars}
use Rattle.cell_types.specs.NameRule.{is_reserved}
use Rattle.formula_lex.specs.declared.token.TokenKind.{TokenKind}
use Rattle.formula_lex.specs.declared.token.TokenKind.TheVariants as kind
use Rattle.formula_parse.specs.declared.lexeme.Keyword.{Keyword}
use Rattle.formula_parse.specs.declared.lexeme.Keyword.TheVariants as word
use Rattle.formula_parse.specs.declared.lexeme.Lexeme.{Lexeme}
use Rattle.formula_parse.specs.declared.lexeme.Lexeme.TheVariants.{Number, Text, Name, Dollar, Keyword as Word, Sign as Mark}

-- how a keyword is written
abbrev pub keyword_text : Keyword → List ℕ
keyword_text word.Or = codes "or"
keyword_text word.And = codes "and"
keyword_text word.Not = codes "not"
keyword_text word.In = codes "in"
keyword_text word.Is = codes "is"
keyword_text word.If = codes "if"
keyword_text word.Else = codes "else"
keyword_text word.True = codes "True"
keyword_text word.False = codes "False"
keyword_text word.None = codes "None"
keyword_text word.Rec = codes "rec"

-- the operator that is written so, or else this
unfoldable pub operator_word : List ℕ → Option Keyword → Option Keyword
operator_word n other =
    cond (bytes_eq n (codes "or")) (Some word.Or)
    (cond (bytes_eq n (codes "and")) (Some word.And)
    (cond (bytes_eq n (codes "not")) (Some word.Not)
    (cond (bytes_eq n (codes "in")) (Some word.In)
    (cond (bytes_eq n (codes "is")) (Some word.Is)
    (cond (bytes_eq n (codes "if")) (Some word.If)
    (cond (bytes_eq n (codes "else")) (Some word.Else) other))))))

-- the value that is written so
unfoldable pub value_word : List ℕ → Option Keyword
value_word n =
    cond (bytes_eq n (codes "True")) (Some word.True)
    (cond (bytes_eq n (codes "False")) (Some word.False)
    (cond (bytes_eq n (codes "None")) (Some word.None)
    (cond (bytes_eq n (codes "rec")) (Some word.Rec) None)))

-- the keyword that is written so
unfoldable pub keyword_of : List ℕ → Option Keyword
keyword_of n = operator_word n (value_word n)

-- the reserved word by which columns are asked all the same
unfoldable pub id_word : List ℕ
id_word = codes "id"

-- the name is that word
abbrev pub is_id : List ℕ → Bool
is_id n = bytes_eq n id_word

-- 1 to 64 characters
abbrev pub is_short : List ℕ → Bool
is_short n = nat_lt 0 (length (chars n)) && nat_le (length (chars n)) 64

-- a word that is allowed as a column's name: not too long, and reserved only where it is `id`
abbrev pub is_field : List ℕ → Bool
is_field n = not (is_reserved n && not (is_id n)) && is_short n

-- how what the grammar sees is written
abbrev pub kind_of : Lexeme → TokenKind
kind_of (Number n) = kind.Number n
kind_of (Text s) = kind.Text s
kind_of (Name n) = kind.Name n
kind_of (Dollar n) = kind.Dollar n
kind_of (Word k) = kind.Name (keyword_text k)
kind_of (Mark s) = kind.Sign s

-- names are words that are allowed
abbrev pub IsAllowed : Lexeme → Type 0
IsAllowed (Name n) = is_field n ≡ true
IsAllowed (Dollar n) = is_field n ≡ true
IsAllowed _ = Unit {0}

-- the names among them are allowed
abbrev pub AllAllowed : List Lexeme → Type 0
AllAllowed [] = Unit {0}
AllAllowed (k ∷ ks) = IsAllowed k × AllAllowed ks
