-- The last lookup by one data column, and the rows that it finds.
use Rattle.std.specs.Prelude.{ℕ, List, [], ◌∷◌, Option, Some, None, false, ◌≡◌, ⊤}
use Rattle.cell_types.specs.declared.cell.KeyItem.{KeyItem}
use Rattle.formula_eval.specs.Lookup.{matched}
use Rattle.formula_eval.specs.Run.{gives}
use Rattle.recalc.specs.declared.remembering.LastLookup.{LastLookup}
use Rattle.recalc.specs.Sheet.{Sheet, Values, over}

-- the key that is looked up
abbrev pub key_of : LastLookup → KeyItem
key_of l = record { column = l.column; value = l.value; contains = false }

-- these rows are found by the key, whatever is known of formula cells
abbrev pub AreFound : Sheet → List ℕ → KeyItem → Option (List ℕ) → Type 0
AreFound s t key None = ⊤
AreFound s t key (Some rows) = (k : Values) → matched (over s k) t (key ∷ []) ≡ gives rows

-- the rows are found, where there is such a lookup
abbrev pub IsRemembered : Sheet → Option LastLookup → Type 0
IsRemembered s None = ⊤
IsRemembered s (Some l) = AreFound s l.table (key_of l) l.rows
