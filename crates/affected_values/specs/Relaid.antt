-- The values of one table laid beside other rows.
use Rattle.std.specs.Prelude.{ℕ, Bool, true, cond, not, ◌&&◌, List, [], ◌∷◌, map, length, slice_get, slice_set, Option, Some, None, Vec, ◌≡◌, ⊤}
use Rattle.std.specs.Global.{Global}
use Rattle.std.specs.List.{AllByRecursion, position}
use Rattle.std.specs.Option.{is_some}
use Rattle.std.specs.Str.{bytes_eq}
use Rattle.cell_types.specs.declared.cell.CellId.{CellId}
use Rattle.cell_types.specs.declared.value.CellValue.{CellValue}
use Rattle.doc_model.specs.declared.action.DocAction.{DocAction}
use Rattle.doc_model.specs.Apply.{apply}
use Rattle.doc_model.specs.ByIds.{find_id}
use Rattle.doc_model.specs.Column.{column_id}
use Rattle.doc_model.specs.Document.{Document}
use Rattle.doc_model.specs.DocumentLaws.{IsWhole}
use Rattle.doc_model.specs.Rows.{IsAscending, has}
use Rattle.doc_model.specs.Valid.{valid}
use Rattle.doc_readers.specs.Parts.{grid_at}
use Rattle.recalc.specs.declared.kept.KeptColumn.{KeptColumn}
use Rattle.recalc.specs.declared.kept.KeptTable.{KeptTable}
use Rattle.recalc.specs.Evaluated.{formula_at}
use Rattle.recalc.specs.Kept.{IsKeptOf, held_at, held_in, kept_table_id}
use Rattle.affected_values.specs.declared.relaying.LaidAside.{LaidAside}
use Rattle.affected_values.specs.Carried.{moved_table}

-- values with a place for each of so many rows
abbrev pub ColumnValues : Type 0
ColumnValues = Vec (Option CellValue) Global

-- a column of which nothing is known
abbrev pub blank_of : List ℕ → KeptColumn → List (Option CellValue)
blank_of rows e = map (λ _. None) (cond e.is_formula rows [])

-- of so many rows a formula column has a place for each, a data column none
abbrev pub places_in : ℕ → Bool → ℕ
places_in n is_formula = cond is_formula n 0

abbrev pub HasPlaces : ℕ → KeptColumn → Type 0
HasPlaces n e = length e.values.items ≡ places_in n e.is_formula

-- what stood at these places changed places
pub record IsTraded (vs : List (Option CellValue)) (i : ℕ) (ws : List (Option CellValue)) (j : ℕ)
    (new left : List (Option CellValue)) : Type 0 where
  pub one : Option CellValue
  pub other : Option CellValue
  pub here : slice_get vs i ≡ Some one
  pub there : slice_get ws j ≡ Some other
  pub now : new ≡ slice_set vs i other
  pub others : left ≡ slice_set ws j one

-- a column that stood beside rows stands beside others, and values beside these stand beside those:
-- of a row in both lists each has what it had
pub record IsExchanged (rows others : List ℕ) (old : KeptColumn) (aside : ColumnValues)
    (new : KeptColumn) (left : ColumnValues) : Type 0 where
  pub named : new.id ≡ old.id
  pub ty : new.ty ≡ old.ty
  pub kind : new.is_formula ≡ old.is_formula
  pub tree : new.tree ≡ old.tree
  pub places : length new.values.items ≡ places_in (length others) old.is_formula
  pub left_places : length left.items ≡ places_in (length rows) old.is_formula
  pub held : (r : ℕ) → has others r ≡ true → held_in others new.values.items r
      ≡ cond (has rows r) (held_in rows old.values.items r) (held_in others aside.items r)
  pub left_held : (r : ℕ) → has rows r ≡ true → held_in rows left.items r
      ≡ cond (has others r) (held_in others aside.items r) (held_in rows old.values.items r)

-- so do columns in their order
abbrev pub AreExchanged : (rows others : List ℕ) → List KeptColumn → List ColumnValues
    → List KeptColumn → List ColumnValues → Type 0
AreExchanged rows others [] [] [] [] = ⊤
AreExchanged rows others (e ∷ es) (v ∷ vs) (f ∷ fs) (w ∷ ws) =
    IsExchanged rows others e v f w × AreExchanged rows others es vs fs ws
AreExchanged rows others es vs fs ws = ⊥

-- the first table of this id stands beside the rows, and the values beside the others
pub record CanBeLaid (id rows others : List ℕ) (ks : List KeptTable) (vs : List ColumnValues) :
    Type 0 where
  pub table : KeptTable
  pub here : find_id kept_table_id id ks ≡ Some table
  pub places : AllByRecursion (HasPlaces (length rows)) table.columns.items
  pub aside : map (λ v. length v.items) vs
      ≡ map (λ e. places_in (length others) e.is_formula) table.columns.items

-- its columns and the values were exchanged
pub record IsTableExchanged (id rows others : List ℕ) (old : List KeptTable)
    (vs : List ColumnValues) (new : List KeptTable) (ws : List ColumnValues) : Type 0 where
  pub index : ℕ
  pub was : KeptTable
  pub is : KeptTable
  pub first : position (λ k. bytes_eq (kept_table_id k) id) old ≡ Some index
  pub here : slice_get old index ≡ Some was
  pub named : is.id ≡ was.id
  pub columns : AreExchanged rows others was.columns.items vs is.columns.items ws
  pub tables : new ≡ slice_set old index is

-- ---- over a document

-- what stands beside the row in a column of this id, where the columns have these
abbrev pub aside_in : List (List ℕ) → List ℕ → List ColumnValues → List ℕ → ℕ → Option CellValue
aside_in [] rows vs c r = None
aside_in (id ∷ ids) rows [] c r = None
aside_in (id ∷ ids) rows (v ∷ vs) c r =
    cond (bytes_eq id c) (held_in rows v.items r) (aside_in ids rows vs c r)

-- what was laid aside of a cell, where the document has the columns of the table
abbrev pub aside_at : Document → LaidAside → CellId → Option CellValue
aside_at s aside c =
    aside_in (map column_id (grid_at s aside.table).columns) aside.rows.items aside.columns.items
    c.column c.row

-- values of a table of this document were laid aside, beside its rows
pub record HasAside (s : Document) (aside : LaidAside) : Type 0 where
  pub ascending : IsAscending aside.rows.items
  pub rows : aside.rows.items ≡ (grid_at s aside.table).rows
  pub places : map (λ v. length v.items) aside.columns.items
      ≡ map (λ d. places_in (length aside.rows.items) d.info.is_formula)
      (grid_at s aside.table).columns

-- rows of the table of this id came or went after the first document
pub record IsMovedFrom (s next : Document) (id : List ℕ) : Type 0 where
  pub whole : IsWhole s
  pub action : DocAction
  pub moved : moved_table action ≡ Some id
  pub ok : valid s action ≡ true
  pub done : next ≡ apply s action

-- whether the cell is in a row that the table of this id does not have
abbrev pub is_beyond : Document → List ℕ → CellId → Bool
is_beyond s id c = bytes_eq c.table id && not (has (grid_at s id).rows c.row)

-- the values of rows that stay were moved, of rows that come nothing is known, and those of rows
-- that go were laid aside
pub record IsLaidAnew (s next : Document) (id : List ℕ) (old new : List KeptTable)
    (aside : LaidAside) : Type 0 where
  pub of_document : IsKeptOf next new
  pub held : (c : CellId) → is_some (formula_at next c) ≡ true
      → held_at next new c ≡ cond (is_beyond s id c) None (held_at s old c)
  pub table : aside.table ≡ id
  pub has_aside : HasAside s aside
  pub left : (c : CellId) → is_some (formula_at s c) ≡ true → is_beyond next id c ≡ true
      → aside_at s aside c ≡ held_at s old c

-- the values of rows that stayed were moved back, beside those that were laid aside
pub record IsLaidBack (s next : Document) (old new : List KeptTable) (aside : LaidAside) :
    Type 0 where
  pub of_document : IsKeptOf s new
  pub held : (c : CellId) → is_some (formula_at s c) ≡ true → held_at s new c
      ≡ cond (is_beyond next aside.table c) (aside_at s aside c) (held_at next old c)
