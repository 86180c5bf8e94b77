-- A schema action: the cells that it alters itself, and what is kept over it.
use Rattle.std.specs.Prelude.{ℕ, Bool, true, false, ◌&&◌, ◌||◌, List, ◌≡◌}
use Rattle.std.specs.Option.{is_some}
use Rattle.std.specs.Str.{bytes_eq}
use Rattle.cell_types.specs.declared.cell.CellId.{CellId}
use Rattle.doc_model.specs.declared.action.DocAction.{DocAction}
use Rattle.doc_model.specs.declared.action.DocAction.TheVariants.{AddColumn, AddTable, ModifyColumn, RemoveColumn, RemoveTable, RenameColumn, RenameTable}
use Rattle.doc_model.specs.Apply.{apply}
use Rattle.doc_model.specs.Document.{Document}
use Rattle.doc_model.specs.DocumentLaws.{IsWhole}
use Rattle.doc_model.specs.Valid.{valid}
use Rattle.recalc.specs.declared.kept.KeptTable.{KeptTable}
use Rattle.recalc.specs.Evaluated.{formula_at}
use Rattle.recalc.specs.Kept.{IsKeptOf, held_at}
use Rattle.recalc.specs.MayLose.{is_record}
use Rattle.recalc.specs.Stack.{on}
use Rattle.affected_cells.specs.Affected.{is_fresh_cell}

-- whether the cell stands in the column that the action adds, removes, renames or modifies, or in
-- such a table, under the id before it or after it
abbrev pub is_altered : DocAction → CellId → Bool
is_altered (AddTable t row ds) c = bytes_eq c.table t
is_altered (RemoveTable t) c = bytes_eq c.table t
is_altered (RenameTable t new) c = bytes_eq c.table t || bytes_eq c.table new
is_altered (AddColumn t d) c = bytes_eq c.table t && bytes_eq c.column d.id
is_altered (RemoveColumn t k) c = bytes_eq c.table t && bytes_eq c.column k
is_altered (RenameColumn t k new) c =
    bytes_eq c.table t && (bytes_eq c.column k || bytes_eq c.column new)
is_altered (ModifyColumn t k info) c = bytes_eq c.table t && bytes_eq c.column k
is_altered _ c = false

-- the second document is the first one after a valid action on no records
pub record IsAlteredFrom (s now : Document) (a : DocAction) : Type 0 where
  pub whole : IsWhole s
  pub schema : is_record a ≡ false
  pub ok : valid s a ≡ true
  pub done : now ≡ apply s a

-- the formula cells that the action alters are among the cells
abbrev pub HasAltered : Document → DocAction → List CellId → Type 0
HasAltered s a cells = (c : CellId) → is_altered a c ≡ true → is_some (formula_at s c) ≡ true
    → on cells c ≡ true

-- the value of each formula cell that the action does not alter stands in its place
pub record IsCarried (s now : Document) (a : DocAction) (old new : List KeptTable) : Type 0 where
  pub of_document : IsKeptOf now new
  pub held : (c : CellId) → is_some (formula_at now c) ≡ true → is_altered a c ≡ false
      → held_at now new c ≡ held_at s old c

-- a cell that the action does not alter has the formula that it had; a formula cell that it alters
-- is new, or its column is modified
pub record IsAlteredRight (s now : Document) (a : DocAction) : Type 0 where
  pub stays : (c : CellId) → is_altered a c ≡ false → formula_at now c ≡ formula_at s c
  pub fresh : (c : CellId) → is_altered a c ≡ true → is_some (formula_at now c) ≡ true
      → is_fresh_cell s a c ≡ true

abbrev pub AlteredLaw : Type 0
AlteredLaw = (s now : Document) (a : DocAction) → IsAlteredFrom s now a → IsAlteredRight s now a
