-- The formula of a text, as a function: what the lexer and the parser as machines make of it.
use Rattle.std.specs.Prelude.{ℕ, nat_le, cond, List, [], ◌∷◌, ◌≡◌, ◌↔◌, length, Option, Some, None}
use Rattle.std.specs.Str.{chars}
use Rattle.formula_lex.specs.declared.token.Token.{Token}
use Rattle.formula_lex.specs.Machine.{tokens_in}
use Rattle.formula_parse.specs.declared.fault.ParseFault.{ParseFault}
use Rattle.formula_parse.specs.declared.fault.ParseFault.TheVariants as fault
use Rattle.formula_parse.specs.declared.operator.Constant.TheVariants as con
use Rattle.formula_parse.specs.declared.operator.Dialect.TheVariants as dialect
use Rattle.formula_parse.specs.Runs.{tree_from}
use Rattle.formula_parse.specs.Spelling.{SpellsFormula, max_bytes}
use Rattle.formula_parse.specs.Tree.{Tree, constant}

-- the formula of tokens, where there are any; no tokens are `None`
abbrev pub formula_in : Option (List Token) → Option Tree
formula_in None = None
formula_in (Some []) = Some (constant con.None)
formula_in (Some (k ∷ ks)) = tree_from dialect.Formula (k ∷ ks)

-- the formula of a text
unfoldable pub formula_of : List ℕ → Option Tree
formula_of text = cond (nat_le (length text) max_bytes) (formula_in (tokens_in (chars text))) None

-- a text spells a formula exactly where that is its formula
abbrev pub FormulaLaw : Type 0
FormulaLaw = (text : List ℕ) (t : Tree) → SpellsFormula text t ↔ (formula_of text ≡ Some t)

-- at a syntax fault there is no formula
abbrev pub IsNoneAt : ParseFault → Option Tree → Type 0
IsNoneAt (fault.Syntax at) o = o ≡ None
IsNoneAt fault.NoMemory o = Unit {0}
