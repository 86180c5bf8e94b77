-- What a formula asks for, and whether it asks about a row.
use Rattle.std.specs.Prelude.{Bool, true, false, cond, List, [], ◌∷◌, ◌++◌, Option, Some, None, bytes_eq}
use Rattle.std.specs.List.{list_any}
use Rattle.formula_parse.specs.declared.rule.RuleAtom.{RuleAtom}
use Rattle.formula_parse.specs.declared.rule.RuleAtom.TheVariants as rule
use Rattle.formula_parse.specs.Tree.{Tree, binary, prefix, parentheses, list, atom, Trees, no_trees, one_more}
use Rattle.acl_formula.specs.declared.mention.Mention.{Mention}
use Rattle.acl_formula.specs.declared.mention.Mention.TheVariants as mention

-- what an atom asks for; the second name after `user` is none of its own
abbrev pub atom_mention : RuleAtom → Option Mention
atom_mention rule.Owner = None
atom_mention rule.Editor = None
atom_mention rule.Viewer = None
atom_mention (rule.User n) = Some (mention.User n)
atom_mention (rule.UserAttribute n m) = Some (mention.User n)
atom_mention (rule.Rec n) = Some (mention.Rec n)
atom_mention (rule.NewRec n) = Some (mention.NewRec n)

-- the same as a list
abbrev pub as_list : Option Mention → List Mention
as_list None = []
as_list (Some m) = m ∷ []

abbrev mutual
  -- in the order of the text, also in parts that are never evaluated
  pub all_mentions : Tree → List Mention
  all_mentions (binary o a b) = all_mentions a ++ all_mentions b
  all_mentions (prefix o a) = all_mentions a
  all_mentions (parentheses a) = all_mentions a
  all_mentions (list ts) = items_mention ts
  all_mentions (atom a) = as_list (atom_mention a)
  all_mentions _ = []

  -- and in the items of a list
  pub items_mention : Trees → List Mention
  items_mention no_trees = []
  items_mention (one_more t ts) = all_mentions t ++ items_mention ts

-- whether both ask for the same
abbrev pub same_mention : Mention → Mention → Bool
same_mention (mention.Rec n) (mention.Rec m) = bytes_eq n m
same_mention (mention.NewRec n) (mention.NewRec m) = bytes_eq n m
same_mention (mention.User n) (mention.User m) = bytes_eq n m
same_mention _ _ = false

-- with one more at the end, where it is new
abbrev pub with_mention : List Mention → Mention → List Mention
with_mention seen m = cond (list_any (λ n. same_mention n m) seen) seen (seen ++ m ∷ [])

-- with those that are new, each once
abbrev pub gathered : List Mention → List Mention → List Mention
gathered seen [] = seen
gathered seen (m ∷ ms) = gathered (with_mention seen m) ms

-- by first occurrence, each once; a text without tokens asks for nothing
abbrev pub mentioned : Option Tree → List Mention
mentioned None = []
mentioned (Some t) = gathered [] (all_mentions t)

-- whether it is `rec` or `newRec` that is asked
abbrev pub is_about_row : Mention → Bool
is_about_row (mention.User n) = false
is_about_row _ = true

-- whether a formula uses `rec` or `newRec`
abbrev pub uses_row : Option Tree → Bool
uses_row o = list_any is_about_row (mentioned o)
