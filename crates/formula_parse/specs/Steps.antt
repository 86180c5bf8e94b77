-- The steps of the machine behind a tree, behind a name, and in lookups and atoms.
use Rattle.std.specs.Prelude.{ℕ, cond, List, [], ◌∷◌, Option, Some, None, bytes_eq}
use Rattle.formula_lex.specs.declared.token.Sign.{Sign}
use Rattle.formula_lex.specs.declared.token.Sign.TheVariants as sign
use Rattle.formula_parse.specs.declared.operator.BinaryOp.TheVariants as op
use Rattle.formula_parse.specs.declared.operator.LookupKind.{LookupKind}
use Rattle.formula_parse.specs.declared.operator.LookupKind.TheVariants as look
use Rattle.formula_parse.specs.declared.operator.Dialect.{Dialect}
use Rattle.formula_parse.specs.declared.lexeme.Keyword.{Keyword}
use Rattle.formula_parse.specs.declared.lexeme.Keyword.TheVariants as word
use Rattle.formula_parse.specs.declared.lexeme.Lexeme.{Lexeme}
use Rattle.formula_parse.specs.declared.lexeme.Lexeme.TheVariants.{Name, Keyword as Word, Sign as Mark}
use Rattle.formula_parse.specs.declared.frame.Frame.{Frame}
use Rattle.formula_parse.specs.declared.frame.Frame.TheVariants.{Arguments, Key}
use Rattle.formula_parse.specs.declared.frame.Mode.TheVariants.{Operand, FirstItem, AfterNot, AfterIs, AfterPoint, AfterLookup, FirstKey, AfterKey, SubjectPoint}
use Rattle.formula_parse.specs.declared.rule.RuleAtom.TheVariants as rule
use Rattle.formula_parse.specs.RuleGrammar.{asked}
use Rattle.formula_parse.specs.Grammar.{all_word, lookup_word}
use Rattle.formula_parse.specs.Standing.{has_key}
use Rattle.formula_parse.specs.Tree.{Tree, attribute, every, lookup, atom, keys_from}
use Rattle.formula_parse.specs.declared.rule.Subject.{Subject}
use Rattle.formula_parse.specs.Machine.{◌>>=◌, State, reduce, after, infix_step, else_step, close_step, close_list_step, comma_step}
use Rattle.formula_parse.specs.Operands.{operand_step, point_step, if_step}

-- a keyword behind a tree
abbrev pub word_after : Dialect → Keyword → List Frame → Tree → Option State
word_after d word.Or fs t = infix_step d op.Or fs t
word_after d word.And fs t = infix_step d op.And fs t
word_after d word.In fs t = infix_step d op.In fs t
word_after d word.Not fs t = Some (fs, AfterNot t)
word_after d word.Is fs t = Some (fs, AfterIs t)
word_after d word.If fs t = if_step d fs t
word_after d word.Else fs t = reduce 0 fs t >>= λ r. else_step r.0 r.1
word_after d _ fs t = None

-- a sign behind a tree
abbrev pub sign_after : Dialect → Sign → List Frame → Tree → Option State
sign_after d sign.Equal fs t = infix_step d op.Equal fs t
sign_after d sign.NotEqual fs t = infix_step d op.NotEqual fs t
sign_after d sign.Less fs t = infix_step d op.Less fs t
sign_after d sign.AtMost fs t = infix_step d op.AtMost fs t
sign_after d sign.More fs t = infix_step d op.More fs t
sign_after d sign.AtLeast fs t = infix_step d op.AtLeast fs t
sign_after d sign.Plus fs t = infix_step d op.Add fs t
sign_after d sign.Minus fs t = infix_step d op.Subtract fs t
sign_after d sign.Star fs t = infix_step d op.Multiply fs t
sign_after d sign.DoubleSlash fs t = infix_step d op.Divide fs t
sign_after d sign.Percent fs t = infix_step d op.Remainder fs t
sign_after d sign.Point fs t = point_step d fs t
sign_after d sign.Close fs t = reduce 0 fs t >>= λ r. close_step r.0 r.1
sign_after d sign.CloseList fs t = reduce 0 fs t >>= λ r. close_list_step r.0 r.1
sign_after d sign.Comma fs t = reduce 0 fs t >>= λ r. comma_step r.0 r.1
sign_after d _ fs t = None

-- a lexeme behind a tree
abbrev pub after_step : Dialect → Lexeme → List Frame → Tree → Option State
after_step d (Word k) fs t = word_after d k fs t
after_step d (Mark s) fs t = sign_after d s fs t
after_step d _ fs t = None

-- a lexeme behind a tree and `not`
abbrev pub not_step : Dialect → Lexeme → List Frame → Tree → Option State
not_step d (Word word.In) fs t = infix_step d op.NotIn fs t
not_step d _ fs t = None

-- a lexeme that begins what a tree is compared with by `is`
abbrev pub compared_step : Dialect → Lexeme → List Frame → Tree → Option State
compared_step d k fs t = infix_step d op.Is fs t >>= λ s. operand_step d k s.0

-- a lexeme behind a tree and `is`
abbrev pub is_step : Dialect → Lexeme → List Frame → Tree → Option State
is_step d (Word word.Not) fs t = infix_step d op.IsNot fs t
is_step d k fs t = compared_step d k fs t

-- a lexeme behind a tree and a point
abbrev pub dot_step : Lexeme → List Frame → Tree → Option State
dot_step (Name n) fs t = after fs (attribute t n)
dot_step _ fs t = None

-- a lexeme behind a name
abbrev pub name_step : Lexeme → List Frame → List ℕ → Option State
name_step (Mark sign.Open) fs n = Some (Arguments n [] ∷ fs, FirstItem)
name_step (Mark sign.Point) fs n = Some (fs, AfterPoint n)
name_step _ fs n = None

-- a word behind a table's name and a point
abbrev pub table_step : List ℕ → List Frame → List ℕ → Option State
table_step m fs n =
    cond (bytes_eq m all_word) (after fs (every n))
    (cond (bytes_eq m (lookup_word look.Records)) (Some (fs, AfterLookup look.Records n))
    (cond (bytes_eq m (lookup_word look.One)) (Some (fs, AfterLookup look.One n)) None))

-- a lexeme behind a table's name and a point
abbrev pub name_point_step : Lexeme → List Frame → List ℕ → Option State
name_point_step (Name m) fs n = table_step m fs n
name_point_step _ fs n = None

-- a lexeme behind the word of a lookup
abbrev pub lookup_step : Lexeme → List Frame → LookupKind → List ℕ → Option State
lookup_step (Mark sign.Open) fs k n = Some (fs, FirstKey k n)
lookup_step _ fs k n = None

-- a lexeme where the first key is wanted, or the end
abbrev pub first_key_step : Lexeme → List Frame → LookupKind → List ℕ → Option State
first_key_step (Mark sign.Close) fs k n = after fs (lookup k n (keys_from []))
first_key_step (Name m) fs k n = Some (fs, AfterKey k n [] m)
first_key_step _ fs k n = None

-- a lexeme where a further key is wanted
abbrev pub next_key_step : Lexeme → List Frame → LookupKind → List ℕ → List (List ℕ × Tree)
    → Option State
next_key_step (Name m) fs k n ks = cond (has_key m ks) None (Some (fs, AfterKey k n ks m))
next_key_step _ fs k n ks = None

-- a lexeme behind the name of a key
abbrev pub key_step : Lexeme → List Frame → LookupKind → List ℕ → List (List ℕ × Tree) → List ℕ
    → Option State
key_step (Mark sign.Assign) fs k n ks m = Some (Key k n ks m ∷ fs, Operand)
key_step _ fs k n ks m = None

-- a lexeme behind what an atom asks
abbrev pub subject_step : Lexeme → List Frame → Subject → Option State
subject_step (Mark sign.Point) fs s = Some (fs, SubjectPoint s)
subject_step _ fs s = None

-- a lexeme behind what an atom asks and a point
abbrev pub subject_point_step : Lexeme → List Frame → Subject → Option State
subject_point_step (Name n) fs s = after fs (atom (asked s n))
subject_point_step _ fs s = None

-- a lexeme behind an attribute of the user and a point
abbrev pub user_point_step : Lexeme → List Frame → List ℕ → Option State
user_point_step (Name m) fs n = after fs (atom (rule.UserAttribute n m))
user_point_step _ fs n = None
