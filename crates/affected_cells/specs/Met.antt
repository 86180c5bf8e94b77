-- When the same rows of a table meet keys before and after a change of the sheet.
use Rattle.std.specs.Prelude.{ℕ, Bool, true, false, ◌≡◌, ◌⊎◌, List, [], ◌∷◌, Some}
use Rattle.std.specs.List.{AllByRecursion}
use Rattle.cell_types.specs.declared.cell.CellId.{CellId}
use Rattle.cell_types.specs.declared.cell.KeyItem.{KeyItem}
use Rattle.doc_model.specs.Rows.{has, insert_rows, without}
use Rattle.formula_parse.specs.Lexemes.{is_id}
use Rattle.formula_eval.specs.Lookup.{key_met}
use Rattle.formula_eval.specs.Run.{gives}
use Rattle.recalc.specs.Cells.{cell_of}
use Rattle.recalc.specs.Sheet.{Sheet, Values, over}
use Rattle.affected_cells.specs.Noted.{IsUntouchedMet}
use Rattle.affected_cells.specs.Untouched.{IsUntouchedCell}

-- the row of a table does not meet the key, whatever formula cells hold
abbrev pub IsUnmet : Sheet → List ℕ → ℕ → KeyItem → Type 0
IsUnmet s u r k = (v : Values) → key_met (over s v) u r k ≡ gives false

-- the row meets none of the keys, of which there are some
abbrev pub IsUnmetRow : Sheet → List ℕ → ℕ → List KeyItem → Type 0
IsUnmetRow s u r [] = ⊥
IsUnmetRow s u r (k ∷ ks) = AllByRecursion (IsUnmet s u r) (k ∷ ks)

-- s is the sheet before, t the sheet after, and affected says which formula cells may change
module _ (s t : Sheet) (affected : CellId → Bool) (u : List ℕ) where
  -- a key's column has the same type
  abbrev pub IsSameKind : KeyItem → Type 0
  IsSameKind k = s.kind u k.column ≡ t.kind u k.column

  -- the row and the key: it is the row itself that is looked at, or an untouched cell, or the row
  -- meets the key neither before nor after
  abbrev pub IsSameKey : ℕ → KeyItem → Type 0
  IsSameKey r k =
      (is_id k.column ≡ true)
      ⊎ (IsUntouchedCell s t affected (cell_of u k.column r)
      ⊎ (IsUnmet s u r k × IsUnmet t u r k))

  -- rows that stay are the same to the keys; those that go and those that come meet none
  pub record AreMetAlike (ks : List KeyItem) : Type 0 where
    pub rows : List ℕ
    pub gone : List ℕ
    pub new : List ℕ
    pub before : s.rows u ≡ Some rows
    pub after : t.rows u ≡ Some (insert_rows new (without gone rows))
    pub kinds : AllByRecursion IsSameKind ks
    pub stays : (r : ℕ) → has rows r ≡ true → has gone r ≡ false
        → AllByRecursion (IsSameKey r) ks
    pub goes : (r : ℕ) → has rows r ≡ true → has gone r ≡ true → IsUnmetRow s u r ks
    pub comes : (r : ℕ) → has new r ≡ true → IsUnmetRow t u r ks

-- then the same rows meet the keys
abbrev pub MetLaw : Type 0
MetLaw =
    (s t : Sheet) (affected : CellId → Bool) (u : List ℕ) (ks : List KeyItem)
    → AreMetAlike s t affected u ks → IsUntouchedMet s t affected u ks
