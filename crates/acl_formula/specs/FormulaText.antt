-- The formula that a rule's text spells, as a function of the text.
use Rattle.std.specs.Prelude.{ℕ, ◌≡◌, cond, List, [], ◌∷◌, length, nat_le, Option, Some, None, option_map}
use Rattle.std.specs.Str.{chars}
use Rattle.formula_lex.specs.declared.token.Token.{Token}
use Rattle.formula_lex.specs.Machine.{tokens_in}
use Rattle.formula_parse.specs.declared.operator.Dialect.TheVariants as dialect
use Rattle.formula_parse.specs.declared.fault.ParseFault.{ParseFault}
use Rattle.formula_parse.specs.declared.fault.ParseFault.TheVariants as fault
use Rattle.formula_parse.specs.Runs.{tree_from}
use Rattle.formula_parse.specs.Spelling.{max_bytes}
use Rattle.formula_parse.specs.Tree.{Tree}

-- the tree of tokens, or nothing where there are none
abbrev pub tree_of_tokens : Option (List Token) → Option (Option Tree)
tree_of_tokens None = None
tree_of_tokens (Some []) = Some None
tree_of_tokens (Some (k ∷ ks)) = option_map Some (tree_from dialect.Rule (k ∷ ks))

-- the formula that a text spells, where it spells one
abbrev pub formula_of : List ℕ → Option (Option Tree)
formula_of text =
    cond (nat_le (length text) max_bytes) (tree_of_tokens (tokens_in (chars text))) None

-- a syntax fault comes only where there is no formula
abbrev pub LacksFormula : List ℕ → ParseFault → Type 0
LacksFormula text (fault.Syntax at) = formula_of text ≡ None
LacksFormula text fault.NoMemory = Unit {0}
