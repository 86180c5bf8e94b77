-- Which texts spell a formula.
use Rattle.std.specs.Prelude.{ℕ, ◌≤◌, List, [], ◌≡◌, ◌⊎◌, Option, Some, None, length, map}
use Rattle.formula_lex.specs.declared.token.Token.{Token}
use Rattle.formula_lex.specs.Spelling.{SpellsText}
use Rattle.formula_parse.specs.declared.fault.ParseFault.{ParseFault}
use Rattle.formula_parse.specs.declared.fault.ParseFault.TheVariants as fault
use Rattle.formula_parse.specs.declared.operator.Constant.TheVariants as con
use Rattle.formula_parse.specs.declared.operator.Dialect.{Dialect}
use Rattle.formula_parse.specs.declared.operator.Dialect.TheVariants as dialect
use Rattle.formula_parse.specs.Lexemes.{kind_of, AllAllowed}
use Rattle.formula_parse.specs.Grammar.{lexemes_of}
use Rattle.formula_parse.specs.Standing.{Stands, max_height}
use Rattle.formula_parse.specs.Tree.{Tree, constant, height_of}

-- the tokens are those of the tree, its names are allowed, it is of the grammar and not too high
pub record SpellsTree (d : Dialect) (t : Tree) (tokens : List Token) : Type 0 where
  pub written : map (λ token. token.kind) tokens ≡ map (λ k. kind_of k) (lexemes_of t)
  pub allowed : AllAllowed (lexemes_of t)
  pub stands : Stands d t
  pub low : height_of t ≤ max_height

-- the tokens are none, or those of the tree
abbrev pub SpellsSome : Dialect → Option Tree → List Token → Type 0
SpellsSome d None tokens = tokens ≡ []
SpellsSome d (Some t) tokens = SpellsTree d t tokens

-- how many bytes a formula's text has at most
unfoldable pub max_bytes : ℕ
max_bytes = 4096

-- the text is short enough, and its tokens are none or those of the tree
pub record SpellsIn (d : Dialect) (text : List ℕ) (o : Option Tree) : Type 0 where
  pub short : length text ≤ max_bytes
  pub tokens : List Token
  pub spelled : SpellsText text tokens
  pub tree : SpellsSome d o tokens

-- the text spells the formula; a text without tokens is `None`
abbrev pub SpellsFormula : List ℕ → Tree → Type 0
SpellsFormula text t =
    SpellsIn dialect.Formula text (Some t)
    ⊎ ((t ≡ constant con.None) × SpellsIn dialect.Formula text None)

-- the fault is a syntax fault only where there is no tree, and its place lies in the text
abbrev pub FitsFault : List ℕ → Type 0 → ParseFault → Type 0
FitsFault text P (fault.Syntax at) = (at ≤ length text) × (P → ⊥)
FitsFault text P fault.NoMemory = Unit {0}
