-- Formulas and types that name no metadata table.
use Rattle.std.specs.Prelude.{ℕ, List, Some, ◌≡◌, ⊤}
use Rattle.cell_types.specs.declared.column_type.ColType.{ColType}
use Rattle.cell_types.specs.declared.column_type.ColType.TheVariants as ty
use Rattle.formula_parse.specs.FormulaOf.{formula_of}
use Rattle.formula_parse.specs.Tree.{Tree, binary, prefix, conditional, parentheses, list, call, attribute, every, lookup, Trees, no_trees, one_more, Keys, no_keys, one_key}
use Rattle.renamed_values.specs.HeldRecords.{IsPlain}

-- what the type refers to is no metadata table
abbrev pub IsPlainType : ColType → Type 0
IsPlainType (ty.Ref t) = IsPlain t
IsPlainType (ty.RefList t) = IsPlain t
IsPlainType k = ⊤

-- no table that the formula names is one
abbrev mutual
  pub NamesPlain : Tree → Type 0
  NamesPlain (binary o a b) = NamesPlain a × NamesPlain b
  NamesPlain (prefix o a) = NamesPlain a
  NamesPlain (conditional a c b) = NamesPlain a × NamesPlain c × NamesPlain b
  NamesPlain (parentheses a) = NamesPlain a
  NamesPlain (list ts) = AllNamePlain ts
  NamesPlain (call n ts) = AllNamePlain ts
  NamesPlain (attribute a n) = NamesPlain a
  NamesPlain (every t) = IsPlain t
  NamesPlain (lookup l t ks) = IsPlain t × KeysNamePlain ks
  NamesPlain _ = ⊤

  pub AllNamePlain : Trees → Type 0
  AllNamePlain no_trees = ⊤
  AllNamePlain (one_more t ts) = NamesPlain t × AllNamePlain ts

  pub KeysNamePlain : Keys → Type 0
  KeysNamePlain no_keys = ⊤
  KeysNamePlain (one_key n t ks) = NamesPlain t × KeysNamePlain ks

-- so it is of each formula that a text spells
abbrev pub PlainNamesLaw : Type 0
PlainNamesLaw = (f : List ℕ) (t : Tree) → formula_of f ≡ Some t → NamesPlain t
