-- Which texts users may give to tables, columns and sessions.
use Rattle.std.specs.Prelude.{ℕ, Bool, false, ◌&&◌, List, [], ◌∷◌, length, nat_le, codes, bytes_eq, not}
use Rattle.std.specs.List.{list_any, list_all}
use Rattle.std.specs.Str.{chars}
use Rattle.unicode_ident.specs.Ident.{is_xid_start, is_xid_continue}

-- the words of formulas, none of which is a name
unfoldable pub reserved_words : List (List ℕ)
reserved_words =
    codes "False" ∷ codes "None" ∷ codes "True" ∷ codes "and" ∷ codes "as" ∷ codes "assert"
    ∷ codes "async" ∷ codes "await" ∷ codes "break" ∷ codes "class" ∷ codes "continue"
    ∷ codes "def" ∷ codes "del" ∷ codes "elif" ∷ codes "else" ∷ codes "except"
    ∷ codes "finally" ∷ codes "for" ∷ codes "from" ∷ codes "global" ∷ codes "if"
    ∷ codes "import" ∷ codes "in" ∷ codes "is" ∷ codes "lambda" ∷ codes "nonlocal"
    ∷ codes "not" ∷ codes "or" ∷ codes "pass" ∷ codes "raise" ∷ codes "return" ∷ codes "try"
    ∷ codes "while" ∷ codes "with" ∷ codes "yield" ∷ codes "id" ∷ codes "rec" ∷ []

-- a word of formulas
unfoldable pub is_reserved : List ℕ → Bool
is_reserved text = list_any (λ word. bytes_eq word text) reserved_words

-- the first character may start an identifier, and each further one may continue it
abbrev pub has_name_characters : List ℕ → Bool
has_name_characters [] = false
has_name_characters (c ∷ cs) = is_xid_start c && list_all (λ d. is_xid_continue d) cs

-- at most 64 such characters, and no reserved word
unfoldable pub is_name : List ℕ → Bool
is_name text =
    has_name_characters (chars text) && (nat_le (length (chars text)) 64 && not (is_reserved text))
