-- Whole runs of the machine, over what the grammar sees and over tokens.
use Rattle.std.specs.Prelude.{ℕ, cond, List, [], ◌∷◌, Option, Some, None}
use Rattle.formula_lex.specs.declared.token.Token.{Token}
use Rattle.formula_lex.specs.declared.token.TokenKind.{TokenKind}
use Rattle.formula_lex.specs.declared.token.TokenKind.TheVariants as kind
use Rattle.formula_parse.specs.declared.operator.Dialect.{Dialect}
use Rattle.formula_parse.specs.declared.lexeme.Keyword.{Keyword}
use Rattle.formula_parse.specs.declared.lexeme.Lexeme.{Lexeme}
use Rattle.formula_parse.specs.declared.lexeme.Lexeme.TheVariants.{Number, Text, Name, Dollar, Keyword as Word, Sign as Mark}
use Rattle.formula_parse.specs.declared.frame.Frame.{Frame}
use Rattle.formula_parse.specs.declared.frame.Mode.{Mode}
use Rattle.formula_parse.specs.declared.frame.Mode.TheVariants.{Operand, FirstItem, Operator, AfterNot, AfterIs, AfterDot, AfterName, AfterPoint, AfterLookup, FirstKey, NextKey, AfterKey, AfterSubject, SubjectPoint, UserPoint}
use Rattle.formula_parse.specs.Lexemes.{keyword_of, is_field}
use Rattle.formula_parse.specs.Tree.{Tree}
use Rattle.formula_parse.specs.Machine.{◌>>=◌, State, reduce, no_frames}
use Rattle.formula_parse.specs.Operands.{operand_step, first_step}
use Rattle.formula_parse.specs.Steps.{after_step, not_step, is_step, dot_step, name_step, name_point_step, lookup_step, first_key_step, next_key_step, key_step, subject_step, subject_point_step, user_point_step}

-- the next lexeme
unfoldable pub step : Dialect → Lexeme → List Frame → Mode → Option State
step d k fs Operand = operand_step d k fs
step d k fs FirstItem = first_step d k fs
step d k fs (Operator t) = after_step d k fs t
step d k fs (AfterNot t) = not_step d k fs t
step d k fs (AfterIs t) = is_step d k fs t
step d k fs (AfterDot t) = dot_step k fs t
step d k fs (AfterName n) = name_step k fs n
step d k fs (AfterPoint n) = name_point_step k fs n
step d k fs (AfterLookup l n) = lookup_step k fs l n
step d k fs (FirstKey l n) = first_key_step k fs l n
step d k fs (NextKey l n ks) = next_key_step k fs l n ks
step d k fs (AfterKey l n ks m) = key_step k fs l n ks m
step d k fs (AfterSubject s) = subject_step k fs s
step d k fs (SubjectPoint s) = subject_point_step k fs s
step d k fs (UserPoint n) = user_point_step k fs n

-- the tree, where nothing is open
abbrev pub whole : List Frame × Tree → Option Tree
whole r = cond (no_frames r.0) (Some r.1) None

-- the tree that is left once all frames are closed
abbrev pub closed : List Frame → Tree → Option Tree
closed fs t = reduce 0 fs t >>= whole

-- the tree at the end
unfoldable pub finish : List Frame → Mode → Option Tree
finish fs (Operator t) = closed fs t
finish fs _ = None

-- the tree that the lexemes lead to
unfoldable pub run : Dialect → List Lexeme → List Frame → Mode → Option Tree
run d [] fs m = finish fs m
run d (k ∷ ks) fs m = step d k fs m >>= λ s. run d ks s.0 s.1

-- a name that is allowed
abbrev pub kept_name : List ℕ → Option (List ℕ)
kept_name n = cond (is_field n) (Some n) None

-- a word, and the keyword that it is
abbrev pub word_lexeme : List ℕ → Option Keyword → Option Lexeme
word_lexeme n (Some k) = Some (Word k)
word_lexeme n None = kept_name n >>= λ m. Some (Name m)

-- what the grammar sees in a token
unfoldable pub lexeme_of : TokenKind → Option Lexeme
lexeme_of (kind.Number n) = Some (Number n)
lexeme_of (kind.Text s) = Some (Text s)
lexeme_of (kind.Name n) = word_lexeme n (keyword_of n)
lexeme_of (kind.Dollar n) = kept_name n >>= λ m. Some (Dollar m)
lexeme_of (kind.Sign s) = Some (Mark s)

-- the next token
abbrev pub token_step : Dialect → Token → List Frame → Mode → Option State
token_step d token fs m = lexeme_of token.kind >>= λ k. step d k fs m

-- the tree that the tokens lead to
unfoldable pub read : Dialect → List Token → List Frame → Mode → Option Tree
read d [] fs m = finish fs m
read d (k ∷ ks) fs m = token_step d k fs m >>= λ s. read d ks s.0 s.1

-- the same from the start
unfoldable pub tree_from : Dialect → List Token → Option Tree
tree_from d ks = read d ks [] Operand
