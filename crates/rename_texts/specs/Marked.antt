-- The lexemes of a tree, each with whether its name is replaced.
use Rattle.std.specs.Prelude.{ℕ, Bool, false, cond, List, [], ◌∷◌, ◌++◌, map}
use Rattle.formula_lex.specs.declared.token.Sign.TheVariants as sign
use Rattle.formula_parse.specs.declared.lexeme.Keyword.TheVariants as word
use Rattle.formula_parse.specs.declared.lexeme.Lexeme.{Lexeme}
use Rattle.formula_parse.specs.declared.lexeme.Lexeme.TheVariants.{Number, Text, Name, Dollar, Keyword as Word, Sign as Mark}
use Rattle.formula_parse.specs.declared.rule.RuleAtom.{RuleAtom}
use Rattle.formula_parse.specs.declared.rule.RuleAtom.TheVariants as rule
use Rattle.formula_parse.specs.Grammar.{all_word, constant_lexeme, lookup_lexemes, op_lexemes, prefix_lexeme}
use Rattle.formula_parse.specs.RuleGrammar.{atom_lexemes, new_rec_word, user_word}
use Rattle.formula_parse.specs.Tree.{Tree, number, text, constant, dollar, binary, prefix, conditional, parentheses, list, call, attribute, every, lookup, atom, Trees, no_trees, one_more, Keys, no_keys, one_key}
use Rattle.rename_texts.specs.Renamed.{Rename, is_hit}

-- lexemes that stay
abbrev pub plain : List Lexeme → List (Lexeme × Bool)
plain ks = map (λ k. (k, false)) ks

-- those of an atom of a rule
abbrev pub marked_atom : Rename → RuleAtom → List (Lexeme × Bool)
marked_atom x (rule.UserAttribute n m) =
    plain (Name user_word ∷ (Mark sign.Point ∷ (Name n ∷ (Mark sign.Point ∷ []))))
    ++ (Name m, is_hit x (x.field n) m) ∷ []
marked_atom x (rule.Rec n) =
    plain (Word word.Rec ∷ (Mark sign.Point ∷ [])) ++ (Name n, is_hit x x.row n) ∷ []
marked_atom x (rule.NewRec n) =
    plain (Name new_rec_word ∷ (Mark sign.Point ∷ [])) ++ (Name n, is_hit x x.row n) ∷ []
marked_atom x a = plain (atom_lexemes a)

abbrev mutual
  -- those of a tree
  pub marked : Rename → Tree → List (Lexeme × Bool)
  marked x (number n) = plain (Number n ∷ [])
  marked x (text s) = plain (Text s ∷ [])
  marked x (constant c) = plain (constant_lexeme c ∷ [])
  marked x (dollar n) = (Dollar n, is_hit x x.own n) ∷ []
  marked x (binary o a b) = marked x a ++ (plain (op_lexemes o) ++ marked x b)
  marked x (prefix o a) = plain (prefix_lexeme o ∷ []) ++ marked x a
  marked x (conditional a c b) =
      marked x a ++ ((Word word.If, false)
      ∷ (marked x c ++ ((Word word.Else, false) ∷ marked x b)))
  marked x (parentheses a) = (Mark sign.Open, false) ∷ (marked x a ++ (Mark sign.Close, false) ∷ [])
  marked x (list ts) =
      (Mark sign.OpenList, false) ∷ (items_marked x ts ++ (Mark sign.CloseList, false) ∷ [])
  marked x (call n ts) =
      (Name n, false)
      ∷ ((Mark sign.Open, false) ∷ (items_marked x ts ++ (Mark sign.Close, false) ∷ []))
  marked x (attribute a n) =
      marked x a ++ (Mark sign.Point, false) ∷ ((Name n, is_hit x (x.attribute a) n) ∷ [])
  marked x (every n) = plain (Name n ∷ (Mark sign.Point ∷ (Name all_word ∷ [])))
  marked x (lookup k n ks) =
      plain (lookup_lexemes k n) ++ (keys_marked x (x.table n) ks ++ (Mark sign.Close, false) ∷ [])
  marked x (atom a) = marked_atom x a

  -- with commas between them
  pub items_marked : Rename → Trees → List (Lexeme × Bool)
  items_marked x no_trees = []
  items_marked x (one_more t ts) = marked x t ++ more_marked x ts

  -- with a comma in front of each
  pub more_marked : Rename → Trees → List (Lexeme × Bool)
  more_marked x no_trees = []
  more_marked x (one_more t ts) = (Mark sign.Comma, false) ∷ (marked x t ++ more_marked x ts)

  -- with commas between them
  pub keys_marked : Rename → Bool → Keys → List (Lexeme × Bool)
  keys_marked x here no_keys = []
  keys_marked x here (one_key n t ks) =
      (Name n, is_hit x here n)
      ∷ ((Mark sign.Assign, false) ∷ (marked x t ++ more_keys_marked x here ks))

  -- with a comma in front of each
  pub more_keys_marked : Rename → Bool → Keys → List (Lexeme × Bool)
  more_keys_marked x here no_keys = []
  more_keys_marked x here (one_key n t ks) =
      (Mark sign.Comma, false) ∷ ((Name n, is_hit x here n)
      ∷ ((Mark sign.Assign, false) ∷ (marked x t ++ more_keys_marked x here ks)))

-- the lexeme with the new name in the place of its own
abbrev pub with_name : List ℕ → Lexeme → Lexeme
with_name new (Name n) = Name new
with_name new (Dollar n) = Dollar new
with_name new (Word k) = Name new
with_name new k = k

-- what a marked lexeme is written as after the rename
abbrev pub rewritten : List ℕ → Lexeme × Bool → Lexeme
rewritten new k = cond k.1 (with_name new k.0) k.0

-- which of the lexemes are replaced
abbrev pub marks : Rename → Tree → List Bool
marks x t = map (λ (k : Lexeme × Bool). k.1) (marked x t)
