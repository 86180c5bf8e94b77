-- Which trees are of the grammar: each part stands at a level that its place takes.
use Rattle.std.specs.Prelude.{ℕ, ◌≤◌, List, [], ◌∷◌, ◌++◌, ◌≡◌, Bool, true, false, bytes_eq, map}
use Rattle.std.specs.List.{list_any}
use Rattle.formula_parse.specs.declared.lexeme.Lexeme.{Lexeme}
use Rattle.formula_parse.specs.declared.operator.BinaryOp.{BinaryOp}
use Rattle.formula_parse.specs.declared.operator.BinaryOp.TheVariants as op
use Rattle.formula_parse.specs.declared.operator.Constant.{Constant}
use Rattle.formula_parse.specs.declared.operator.Constant.TheVariants as con
use Rattle.formula_parse.specs.declared.operator.Dialect.{Dialect}
use Rattle.formula_parse.specs.declared.operator.Dialect.TheVariants as dialect
use Rattle.formula_parse.specs.Levels.{group_level, group_left, group_right}
use Rattle.formula_parse.specs.Lexemes.{is_id}
use Rattle.formula_parse.specs.Grammar.{group_of, prefix_level, lexemes_of}
use Rattle.formula_parse.specs.Tree.{Tree, number, text, constant, dollar, binary, prefix, conditional, parentheses, list, call, attribute, every, lookup, atom, Trees, no_trees, one_more, Keys, no_keys, one_key, height_of}

-- the level of a tree
abbrev pub level_of : Tree → ℕ
level_of (binary o a b) = group_level (group_of o)
level_of (prefix o a) = prefix_level o
level_of (conditional a c b) = 0
level_of _ = 8

-- whether the dialect has the operator
abbrev pub has_op : Dialect → BinaryOp → Bool
has_op dialect.Formula o = true
has_op dialect.Rule op.Divide = false
has_op dialect.Rule _ = true

-- the dialect is that of columns
abbrev pub OnlyFormula : Dialect → Type 0
OnlyFormula dialect.Formula = Unit {0}
OnlyFormula dialect.Rule = ⊥

-- the dialect is that of rules
abbrev pub OnlyRule : Dialect → Type 0
OnlyRule dialect.Formula = ⊥
OnlyRule dialect.Rule = Unit {0}

-- the dialect has the constant
abbrev pub HasConstant : Dialect → Constant → Type 0
HasConstant d con.Rec = OnlyFormula d
HasConstant d _ = Unit {0}

-- the name stands among the names
abbrev pub is_among : List ℕ → List (List ℕ) → Bool
is_among n names = list_any (λ m. bytes_eq m n) names

-- one of the keys has the name
abbrev pub has_key : List ℕ → List (List ℕ × Tree) → Bool
has_key m ks = is_among m (map (λ k. k.0) ks)

-- each part stands at a level that its place takes; no function and no table is named `id`
abbrev mutual
  pub Stands : Dialect → Tree → Type 0
  Stands d (number n) = Unit {0}
  Stands d (text s) = Unit {0}
  Stands d (constant c) = HasConstant d c
  Stands d (dollar n) = OnlyFormula d
  Stands d (binary o a b) =
      (has_op d o ≡ true) × (group_left (group_of o) ≤ level_of a) × Stands d a
      × (group_right (group_of o) ≤ level_of b) × Stands d b
  Stands d (prefix o a) = (prefix_level o ≤ level_of a) × Stands d a
  Stands d (conditional a c b) =
      OnlyFormula d × (1 ≤ level_of a) × Stands d a × (1 ≤ level_of c) × Stands d c × Stands d b
  Stands d (parentheses a) = Stands d a
  Stands d (list ts) = AllStand d ts
  Stands d (call n ts) = OnlyFormula d × AllStand d ts × (is_id n ≡ false)
  Stands d (attribute a n) = OnlyFormula d × (8 ≤ level_of a) × Stands d a
  Stands d (every n) = OnlyFormula d × (is_id n ≡ false)
  Stands d (lookup k n ks) = OnlyFormula d × AllKeysStand d [] ks × (is_id n ≡ false)
  Stands d (atom a) = OnlyRule d

  -- each of them stands
  pub AllStand : Dialect → Trees → Type 0
  AllStand d no_trees = Unit {0}
  AllStand d (one_more t ts) = Stands d t × AllStand d ts

  -- each value stands, and no key has one of those names or that of a key in front of it
  pub AllKeysStand : Dialect → List (List ℕ) → Keys → Type 0
  AllKeysStand d names no_keys = Unit {0}
  AllKeysStand d names (one_key n t ks) =
      (is_among n names ≡ false) × Stands d t × AllKeysStand d (names ++ n ∷ []) ks

-- the greatest height
unfoldable pub max_height : ℕ
max_height = 256

-- the lexemes are those of the tree, which is of the grammar
pub record IsWritten (d : Dialect) (t : Tree) (lexemes : List Lexeme) : Type 0 where
  pub written : lexemes ≡ lexemes_of t
  pub stands : Stands d t
  pub low : height_of t ≤ max_height
