-- The grammar: how a tree is written, and which trees stand where.
use Rattle.std.specs.Prelude.{ℕ, List, [], ◌∷◌, ◌++◌, codes}
use Rattle.formula_lex.specs.declared.token.Sign.TheVariants as sign
use Rattle.formula_parse.specs.declared.operator.BinaryOp.{BinaryOp}
use Rattle.formula_parse.specs.declared.operator.BinaryOp.TheVariants as op
use Rattle.formula_parse.specs.declared.operator.PrefixOp.{PrefixOp}
use Rattle.formula_parse.specs.declared.operator.PrefixOp.TheVariants as pre
use Rattle.formula_parse.specs.declared.operator.Constant.{Constant}
use Rattle.formula_parse.specs.declared.operator.Constant.TheVariants as con
use Rattle.formula_parse.specs.declared.operator.LookupKind.{LookupKind}
use Rattle.formula_parse.specs.declared.operator.LookupKind.TheVariants as look
use Rattle.formula_parse.specs.declared.lexeme.Keyword.TheVariants as word
use Rattle.formula_parse.specs.declared.lexeme.Lexeme.{Lexeme}
use Rattle.formula_parse.specs.declared.lexeme.Lexeme.TheVariants.{Number, Text, Name, Dollar, Keyword as Word, Sign as Mark}
use Rattle.formula_parse.specs.Levels.{Group, or_group, and_group, comparison, sum_group, term_group}
use Rattle.formula_parse.specs.RuleGrammar.{atom_lexemes}
use Rattle.formula_parse.specs.Tree.{Tree, number, text, constant, dollar, binary, prefix, conditional, parentheses, list, call, attribute, every, lookup, atom, Trees, no_trees, one_more, Keys, no_keys, one_key}

-- the group of an operator
abbrev pub group_of : BinaryOp → Group
group_of op.Or = or_group
group_of op.And = and_group
group_of op.Add = sum_group
group_of op.Subtract = sum_group
group_of op.Multiply = term_group
group_of op.Divide = term_group
group_of op.Remainder = term_group
group_of _ = comparison

-- the level of a formula with the operator in front, and the least level of what stands behind it
abbrev pub prefix_level : PrefixOp → ℕ
prefix_level pre.Not = 3
prefix_level pre.Negate = 7

-- how an operator is written
abbrev pub op_lexemes : BinaryOp → List Lexeme
op_lexemes op.Or = Word word.Or ∷ []
op_lexemes op.And = Word word.And ∷ []
op_lexemes op.Equal = Mark sign.Equal ∷ []
op_lexemes op.NotEqual = Mark sign.NotEqual ∷ []
op_lexemes op.Less = Mark sign.Less ∷ []
op_lexemes op.AtMost = Mark sign.AtMost ∷ []
op_lexemes op.More = Mark sign.More ∷ []
op_lexemes op.AtLeast = Mark sign.AtLeast ∷ []
op_lexemes op.In = Word word.In ∷ []
op_lexemes op.NotIn = Word word.Not ∷ Word word.In ∷ []
op_lexemes op.Is = Word word.Is ∷ []
op_lexemes op.IsNot = Word word.Is ∷ Word word.Not ∷ []
op_lexemes op.Add = Mark sign.Plus ∷ []
op_lexemes op.Subtract = Mark sign.Minus ∷ []
op_lexemes op.Multiply = Mark sign.Star ∷ []
op_lexemes op.Divide = Mark sign.DoubleSlash ∷ []
op_lexemes op.Remainder = Mark sign.Percent ∷ []

-- how an operator in front is written
abbrev pub prefix_lexeme : PrefixOp → Lexeme
prefix_lexeme pre.Not = Word word.Not
prefix_lexeme pre.Negate = Mark sign.Minus

-- how a constant is written
abbrev pub constant_lexeme : Constant → Lexeme
constant_lexeme con.True = Word word.True
constant_lexeme con.False = Word word.False
constant_lexeme con.None = Word word.None
constant_lexeme con.Rec = Word word.Rec

-- the word behind a table's name that asks for all of its rows
unfoldable pub all_word : List ℕ
all_word = codes "all"

-- the word of a lookup
unfoldable pub lookup_word : LookupKind → List ℕ
lookup_word look.Records = codes "lookupRecords"
lookup_word look.One = codes "lookupOne"

-- how a lookup begins
abbrev pub lookup_lexemes : LookupKind → List ℕ → List Lexeme
lookup_lexemes k n = Name n ∷ (Mark sign.Point ∷ (Name (lookup_word k) ∷ (Mark sign.Open ∷ [])))

-- how a tree is written
abbrev mutual
  pub lexemes_of : Tree → List Lexeme
  lexemes_of (number n) = Number n ∷ []
  lexemes_of (text s) = Text s ∷ []
  lexemes_of (constant c) = constant_lexeme c ∷ []
  lexemes_of (dollar n) = Dollar n ∷ []
  lexemes_of (binary o a b) = lexemes_of a ++ (op_lexemes o ++ lexemes_of b)
  lexemes_of (prefix o a) = prefix_lexeme o ∷ lexemes_of a
  lexemes_of (conditional a c b) =
      lexemes_of a ++ (Word word.If ∷ (lexemes_of c ++ (Word word.Else ∷ lexemes_of b)))
  lexemes_of (parentheses a) = Mark sign.Open ∷ (lexemes_of a ++ Mark sign.Close ∷ [])
  lexemes_of (list ts) = Mark sign.OpenList ∷ (items_of ts ++ Mark sign.CloseList ∷ [])
  lexemes_of (call n ts) =
      Name n ∷ (Mark sign.Open ∷ (items_of ts ++ Mark sign.Close ∷ []))
  lexemes_of (attribute a n) = lexemes_of a ++ Mark sign.Point ∷ (Name n ∷ [])
  lexemes_of (every n) = Name n ∷ (Mark sign.Point ∷ (Name all_word ∷ []))
  lexemes_of (lookup k n ks) = lookup_lexemes k n ++ (keys_in ks ++ Mark sign.Close ∷ [])
  lexemes_of (atom a) = atom_lexemes a

  -- with commas between them
  pub items_of : Trees → List Lexeme
  items_of no_trees = []
  items_of (one_more t ts) = lexemes_of t ++ more_of ts

  -- with a comma in front of each
  pub more_of : Trees → List Lexeme
  more_of no_trees = []
  more_of (one_more t ts) = Mark sign.Comma ∷ (lexemes_of t ++ more_of ts)

  -- with commas between them
  pub keys_in : Keys → List Lexeme
  keys_in no_keys = []
  keys_in (one_key n t ks) = Name n ∷ (Mark sign.Assign ∷ (lexemes_of t ++ more_keys ks))

  -- with a comma in front of each
  pub more_keys : Keys → List Lexeme
  more_keys no_keys = []
  more_keys (one_key n t ks) =
      Mark sign.Comma ∷ (Name n ∷ (Mark sign.Assign ∷ (lexemes_of t ++ more_keys ks)))
