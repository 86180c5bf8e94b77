-- The steps of the machine where an operand is wanted, and where the dialect decides.
use Rattle.std.specs.Prelude.{ℕ, cond, List, [], ◌∷◌, Option, Some, None, bytes_eq}
use Rattle.formula_lex.specs.declared.token.Sign.{Sign}
use Rattle.formula_lex.specs.declared.token.Sign.TheVariants as sign
use Rattle.formula_parse.specs.declared.operator.PrefixOp.TheVariants as pre
use Rattle.formula_parse.specs.declared.operator.Constant.TheVariants as con
use Rattle.formula_parse.specs.declared.operator.Dialect.{Dialect}
use Rattle.formula_parse.specs.declared.operator.Dialect.TheVariants as dialect
use Rattle.formula_parse.specs.declared.lexeme.Keyword.{Keyword}
use Rattle.formula_parse.specs.declared.lexeme.Keyword.TheVariants as word
use Rattle.formula_parse.specs.declared.lexeme.Lexeme.{Lexeme}
use Rattle.formula_parse.specs.declared.lexeme.Lexeme.TheVariants.{Number, Text, Name, Dollar, Keyword as Word, Sign as Mark}
use Rattle.formula_parse.specs.declared.frame.Frame.{Frame}
use Rattle.formula_parse.specs.declared.frame.Frame.TheVariants.{Parentheses, Items, Arguments}
use Rattle.formula_parse.specs.declared.frame.Mode.TheVariants.{Operand, FirstItem, AfterDot, AfterName, AfterSubject, UserPoint}
use Rattle.formula_parse.specs.declared.rule.RuleAtom.TheVariants as rule
use Rattle.formula_parse.specs.declared.rule.Subject.TheVariants as subject
use Rattle.formula_parse.specs.RuleGrammar.{owner_word, editor_word, viewer_word, user_word, new_rec_word}
use Rattle.formula_parse.specs.Lexemes.{is_id}
use Rattle.formula_parse.specs.Tree.{Tree, number, text, constant, dollar, list, call, atom, from_list}
use Rattle.formula_parse.specs.Machine.{◌>>=◌, State, reduce, after, open_condition, prefix_step}

-- `rec` where an operand is wanted
abbrev pub rec_step : Dialect → List Frame → Option State
rec_step dialect.Formula fs = after fs (constant con.Rec)
rec_step dialect.Rule fs = Some (fs, AfterSubject subject.Rec)

-- `$` and a name where an operand is wanted
abbrev pub dollar_step : Dialect → List ℕ → List Frame → Option State
dollar_step dialect.Formula n fs = after fs (dollar n)
dollar_step dialect.Rule n fs = None

-- a keyword where an operand is wanted
abbrev pub word_operand : Dialect → Keyword → List Frame → Option State
word_operand d word.Not fs = prefix_step pre.Not fs
word_operand d word.True fs = after fs (constant con.True)
word_operand d word.False fs = after fs (constant con.False)
word_operand d word.None fs = after fs (constant con.None)
word_operand d word.Rec fs = rec_step d fs
word_operand d _ fs = None

-- a sign where an operand is wanted
abbrev pub sign_operand : Sign → List Frame → Option State
sign_operand sign.Minus fs = prefix_step pre.Negate fs
sign_operand sign.Open fs = Some (Parentheses ∷ fs, Operand)
sign_operand sign.OpenList fs = Some (Items [] ∷ fs, FirstItem)
sign_operand _ fs = None

-- a name where an operand of a rule is wanted
abbrev pub rule_name : List ℕ → List Frame → Option State
rule_name n fs =
    cond (bytes_eq n owner_word) (after fs (atom rule.Owner))
    (cond (bytes_eq n editor_word) (after fs (atom rule.Editor))
    (cond (bytes_eq n viewer_word) (after fs (atom rule.Viewer))
    (cond (bytes_eq n user_word) (Some (fs, AfterSubject subject.User))
    (cond (bytes_eq n new_rec_word) (Some (fs, AfterSubject subject.NewRec)) None))))

-- a name where an operand is wanted
abbrev pub name_operand : Dialect → List ℕ → List Frame → Option State
name_operand dialect.Formula n fs = cond (is_id n) None (Some (fs, AfterName n))
name_operand dialect.Rule n fs = rule_name n fs

-- a lexeme where an operand is wanted
abbrev pub operand_step : Dialect → Lexeme → List Frame → Option State
operand_step d (Number n) fs = after fs (number n)
operand_step d (Text s) fs = after fs (text s)
operand_step d (Dollar n) fs = dollar_step d n fs
operand_step d (Name n) fs = name_operand d n fs
operand_step d (Word k) fs = word_operand d k fs
operand_step d (Mark s) fs = sign_operand s fs

-- the end of arguments, where there are none
abbrev pub close_empty : List Frame → Option State
close_empty (Arguments n [] ∷ fs) = after fs (call n (from_list []))
close_empty _ = None

-- the end of a list, where it has no items
abbrev pub close_empty_list : List Frame → Option State
close_empty_list (Items [] ∷ fs) = after fs (list (from_list []))
close_empty_list _ = None

-- a lexeme where the first item is wanted, or the end
abbrev pub first_step : Dialect → Lexeme → List Frame → Option State
first_step d (Mark sign.Close) fs = close_empty fs
first_step d (Mark sign.CloseList) fs = close_empty_list fs
first_step d k fs = operand_step d k fs

-- a point behind a tree
abbrev pub point_step : Dialect → List Frame → Tree → Option State
point_step dialect.Formula fs t = Some (fs, AfterDot t)
point_step dialect.Rule fs (atom (rule.User n)) = Some (fs, UserPoint n)
point_step dialect.Rule fs _ = None

-- `if` behind a tree
abbrev pub if_step : Dialect → List Frame → Tree → Option State
if_step dialect.Formula fs t = reduce 1 fs t >>= open_condition
if_step dialect.Rule fs t = None
