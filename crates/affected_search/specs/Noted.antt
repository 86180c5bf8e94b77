-- What a graph holds of what formula cells note, and what a search over it tells of a change of
-- records: a lookup is left alone by rows whose values are in no bucket that it looks up.
use Rattle.std.specs.Prelude.{ℕ, Bool, true, false, ◌≡◌, ◌⊎◌, List, Some, is_some}
use Rattle.std.specs.List.{AllByRecursion}
use Rattle.cell_types.specs.declared.cell.CellId.{CellId}
use Rattle.cell_types.specs.declared.cell.KeyItem.{KeyItem}
use Rattle.cell_types.specs.declared.cell.Read.TheVariants.{Cell, Key}
use Rattle.doc_model.specs.Rows.{has, insert_rows, without}
use Rattle.formula_parse.specs.Lexemes.{is_id}
use Rattle.recalc.specs.Cells.{cell_of}
use Rattle.recalc.specs.Sheet.{Sheet, IsListed, evaluated}
use Rattle.affected_cells.specs.Met.{IsUnmet}
use Rattle.affected_cells.specs.Noted.{notes}
use Rattle.affected_cells.specs.TouchedRight.{IsSameCell}
use Rattle.dep_graph.specs.declared.numbers.CellNumber.{CellNumber}
use Rattle.dep_graph.specs.declared.numbers.ReadNumber.{ReadNumber}
use Rattle.dep_graph.specs.Graph.{Graph}
use Rattle.dep_graph.specs.Records.{holds, reads_under}
use Rattle.dep_graph.specs.Sources.{Source, all_source, cell_in, read_source, source_in, source_of_key, sources}
use Rattle.affected_search.specs.Reached.{IsClosed}
use Rattle.affected_search.specs.Sheets.{is_found}

-- what is read has a number, which is one of these
abbrev pub IsHeldSource : List (List ℕ) → List ReadNumber → Source → Type 0
IsHeldSource names numbers x = (n : ReadNumber)
    × (source_in names x ≡ Some n) × (holds numbers n ≡ true)

-- the graph has all that the notes of the cell's run read
abbrev pub HoldsNotesOf : Graph → Sheet → CellId → Type 0
HoldsNotesOf graph s c = (k : CellNumber) × (cell_in graph.names c ≡ Some k)
    × AllByRecursion (IsHeldSource graph.names (reads_under graph.reads k)) (sources (notes s c))

-- and that of each formula cell
abbrev pub HoldsNotes : Graph → Sheet → Type 0
HoldsNotes graph s = (c : CellId) (f : List ℕ) → s.formula c ≡ Some f → HoldsNotesOf graph s c

-- what is read has a number, which is none of these
abbrev pub IsFree : List (List ℕ) → List ReadNumber → Source → Type 0
IsFree names numbers x = (n : ReadNumber)
    × (source_in names x ≡ Some n) × (holds numbers n ≡ false)

-- neither a key's column nor its value in it is listed
abbrev pub IsFreeKey : List (List ℕ) → List ReadNumber → List ℕ → KeyItem → Type 0
IsFreeKey names numbers u k = IsFree names numbers (source_of_key u k)
    × IsFree names numbers (read_source (Key u k.column))

-- s is the sheet before, t the sheet after
module _ (names : List (List ℕ)) (numbers : List ReadNumber) (s t : Sheet) where
  -- rows that stay tell the same to each key that is not listed, or do not meet it; those that go
  -- and those that come do not meet it
  pub record ListsRows (u : List ℕ) : Type 0 where
    pub rows : List ℕ
    pub gone : List ℕ
    pub new : List ℕ
    pub before : s.rows u ≡ Some rows
    pub after : t.rows u ≡ Some (insert_rows new (without gone rows))
    pub stays : (r : ℕ) → has rows r ≡ true → has gone r ≡ false → (k : KeyItem)
        → IsFreeKey names numbers u k
        → (is_id k.column ≡ true)
        ⊎ (IsSameCell s t (λ d. false) (λ q. false) (cell_of u k.column r)
        ⊎ (IsUnmet s u r k × IsUnmet t u r k))
    pub goes : (r : ℕ) → has rows r ≡ true → has gone r ≡ true → (k : KeyItem)
        → IsFreeKey names numbers u k → IsUnmet s u r k
    pub comes : (r : ℕ) → has new r ≡ true → (k : KeyItem) → IsFreeKey names numbers u k
        → IsUnmet t u r k

  -- what is not listed tells the same before and after
  pub record ListsChanges : Type 0 where
    pub kind : (u c : List ℕ) → s.kind u c ≡ t.kind u c
    pub there : (u : List ℕ) → is_some (s.rows u) ≡ is_some (t.rows u)
    pub cell : (d : CellId) → IsFree names numbers (read_source (Cell d))
        → IsSameCell s t (λ c. false) (λ q. false) d
    -- all rows of a table: where they are free, they are the same
    pub all : (u : List ℕ) → IsFree names numbers (all_source u) → s.rows u ≡ t.rows u
    pub met : (u rows : List ℕ) → s.rows u ≡ Some rows → ListsRows u

-- a formula cell that is not fresh and not found keeps its value and what its run notes
abbrev pub KeepsNotes : Sheet → Sheet → (CellId → Bool) → Graph → List CellNumber → Type 0
KeepsNotes s t fresh graph cells = (c : CellId) (f : List ℕ) → t.formula c ≡ Some f
    → fresh c ≡ false → is_found graph cells c ≡ false
    → (evaluated t c ≡ evaluated s c) × (notes t c ≡ notes s c)

-- so it is where the search went by what is listed, and the cells that are not fresh were there
abbrev pub FoundNotesLaw : Type 0
FoundNotesLaw = (s t : Sheet) (graph : Graph) (numbers : List ReadNumber) (cells : List CellNumber)
    (fresh : CellId → Bool) → IsListed s → IsListed t
    → ((c : CellId) (f : List ℕ) → s.formula c ≡ Some f → fresh c ≡ false)
    → ((c : CellId) (f : List ℕ) → t.formula c ≡ Some f → fresh c ≡ false → s.formula c ≡ Some f)
    → HoldsNotes graph s → ListsChanges graph.names numbers s t
    → IsClosed graph.reads numbers cells → KeepsNotes s t fresh graph cells
