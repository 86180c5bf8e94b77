-- The marks of the parts of a formula.
use Rattle.std.specs.Prelude.{ℕ, Bool, List, map}
use Rattle.formula_parse.specs.declared.lexeme.Lexeme.{Lexeme}
use Rattle.formula_parse.specs.Tree.{Keys, Trees}
use Rattle.rename_texts.specs.Marked.{items_marked, keys_marked, more_keys_marked, more_marked}
use Rattle.rename_texts.specs.Renamed.{Rename}

-- whether each is replaced
abbrev pub marks_among : List (Lexeme × Bool) → List Bool
marks_among ks = map (λ (k : Lexeme × Bool). k.1) ks

-- those of items with commas between them or in front of each, and of keys so
abbrev pub item_marks : Rename → Trees → List Bool
item_marks x ts = marks_among (items_marked x ts)

abbrev pub more_item_marks : Rename → Trees → List Bool
more_item_marks x ts = marks_among (more_marked x ts)

abbrev pub key_marks : Rename → List ℕ → Keys → List Bool
key_marks x t ks = marks_among (keys_marked x (x.table t) ks)

abbrev pub more_key_marks : Rename → List ℕ → Keys → List Bool
more_key_marks x t ks = marks_among (more_keys_marked x (x.table t) ks)
