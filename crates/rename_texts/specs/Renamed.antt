-- A tree with a column's name replaced.
use Rattle.std.specs.Prelude.{ℕ, Bool, ◌&&◌, cond, List, bytes_eq}
use Rattle.formula_parse.specs.declared.rule.RuleAtom.{RuleAtom}
use Rattle.formula_parse.specs.declared.rule.RuleAtom.TheVariants as rule
use Rattle.formula_parse.specs.Tree.{Tree, number, text, constant, dollar, binary, prefix, conditional, parentheses, list, call, attribute, every, lookup, atom, Trees, no_trees, one_more, Keys, no_keys, one_key}

-- the old name and the new one, and where it is replaced: behind `$`, as an attribute of a tree, as
-- a key of a lookup in a table, behind `rec.` and `newRec.`, and as a field of an attribute of the
-- user
pub record Rename : Type 0 where
  pub old : List ℕ
  pub new : List ℕ
  pub own : Bool
  pub attribute : Tree → Bool
  pub table : List ℕ → Bool
  pub row : Bool
  pub field : List ℕ → Bool

-- whether the name is replaced where names are
abbrev pub is_hit : Rename → Bool → List ℕ → Bool
is_hit x here n = here && bytes_eq n x.old

-- the name, or the new one
abbrev pub named : Rename → Bool → List ℕ → List ℕ
named x here n = cond (is_hit x here n) x.new n

-- an atom of a rule with the name replaced
abbrev pub renamed_atom : Rename → RuleAtom → RuleAtom
renamed_atom x rule.Owner = rule.Owner
renamed_atom x rule.Editor = rule.Editor
renamed_atom x rule.Viewer = rule.Viewer
renamed_atom x (rule.User n) = rule.User n
renamed_atom x (rule.UserAttribute n m) = rule.UserAttribute n (named x (x.field n) m)
renamed_atom x (rule.Rec n) = rule.Rec (named x x.row n)
renamed_atom x (rule.NewRec n) = rule.NewRec (named x x.row n)

abbrev mutual
  -- a tree with the name replaced
  pub renamed : Rename → Tree → Tree
  renamed x (number n) = number n
  renamed x (text s) = text s
  renamed x (constant c) = constant c
  renamed x (dollar n) = dollar (named x x.own n)
  renamed x (binary o a b) = binary o (renamed x a) (renamed x b)
  renamed x (prefix o a) = prefix o (renamed x a)
  renamed x (conditional a c b) = conditional (renamed x a) (renamed x c) (renamed x b)
  renamed x (parentheses a) = parentheses (renamed x a)
  renamed x (list ts) = list (all_renamed x ts)
  renamed x (call n ts) = call n (all_renamed x ts)
  renamed x (attribute a n) = attribute (renamed x a) (named x (x.attribute a) n)
  renamed x (every n) = every n
  renamed x (lookup k n ks) = lookup k n (keys_renamed x (x.table n) ks)
  renamed x (atom a) = atom (renamed_atom x a)

  -- each of them
  pub all_renamed : Rename → Trees → Trees
  all_renamed x no_trees = no_trees
  all_renamed x (one_more t ts) = one_more (renamed x t) (all_renamed x ts)

  -- each value, and each key where those of the lookup's table are replaced
  pub keys_renamed : Rename → Bool → Keys → Keys
  keys_renamed x here no_keys = no_keys
  keys_renamed x here (one_key n t ks) =
      one_key (named x here n) (renamed x t) (keys_renamed x here ks)
