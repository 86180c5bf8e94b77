-- What the texts of renamed formulas rest on.
use Rattle.std.specs.Prelude.{Bool, true, false, cond, map, ◌≡◌, ⊤}
use Rattle.formula_parse.specs.declared.lexeme.Lexeme.{Lexeme}
use Rattle.formula_parse.specs.declared.operator.Dialect.{Dialect}
use Rattle.formula_parse.specs.Grammar.{lexemes_of}
use Rattle.formula_parse.specs.Lexemes.{AllAllowed, is_field}
use Rattle.formula_parse.specs.Standing.{Stands}
use Rattle.formula_parse.specs.Tree.{Tree, binary, prefix, conditional, parentheses, list, call, attribute, lookup, Trees, no_trees, one_more, Keys, no_keys, one_key, height_of}
use Rattle.std.specs.Str.{bytes_eq}
use Rattle.rename_texts.specs.Renamed.{Rename, renamed}
use Rattle.rename_texts.specs.Marked.{marked, rewritten}

-- the marked lexemes are those of the tree
abbrev pub WrittenLaw : Type 0
WrittenLaw = (x : Rename) (t : Tree) → map (λ (k : Lexeme × Bool). k.0) (marked x t) ≡ lexemes_of t

-- and with the marked names replaced they are those of the renamed tree
abbrev pub LexemeLaw : Type 0
LexemeLaw = (x : Rename) (t : Tree) → map (rewritten x.new) (marked x t) ≡ lexemes_of (renamed x t)

-- a renamed tree is as high
abbrev pub HeightLaw : Type 0
HeightLaw = (x : Rename) (t : Tree) → height_of (renamed x t) ≡ height_of t

abbrev mutual
  -- in a lookup in which keys are replaced none has the new name
  pub IsFree : Rename → Tree → Type 0
  IsFree x (binary o a b) = IsFree x a × IsFree x b
  IsFree x (prefix o a) = IsFree x a
  IsFree x (conditional a c b) = IsFree x a × IsFree x c × IsFree x b
  IsFree x (parentheses a) = IsFree x a
  IsFree x (list ts) = AllFree x ts
  IsFree x (call n ts) = AllFree x ts
  IsFree x (attribute a n) = IsFree x a
  IsFree x (lookup k n ks) = KeysFree x (x.table n) ks
  IsFree x _ = ⊤

  -- in each of them
  pub AllFree : Rename → Trees → Type 0
  AllFree x no_trees = ⊤
  AllFree x (one_more t ts) = IsFree x t × AllFree x ts

  -- in each value, and among the keys where they are replaced
  pub KeysFree : Rename → Bool → Keys → Type 0
  KeysFree x here no_keys = ⊤
  KeysFree x here (one_key n t ks) =
      cond here (bytes_eq n x.new ≡ false) ⊤ × IsFree x t × KeysFree x here ks

-- a renamed tree is of the grammar
abbrev pub StandsLaw : Type 0
StandsLaw = (x : Rename) (d : Dialect) (t : Tree) → IsFree x t → Stands d t → Stands d (renamed x t)

-- its names are allowed
abbrev pub AllowedLaw : Type 0
AllowedLaw = (x : Rename) (t : Tree) → is_field x.new ≡ true → AllAllowed (lexemes_of t)
    → AllAllowed (lexemes_of (renamed x t))
