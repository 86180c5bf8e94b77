-- What may be relied on of changes after steps of records.
use Rattle.std.specs.Prelude.{ℕ, Bool, true, List, [], ◌∷◌, ◌≡◌, Some, ⊤}
use Rattle.doc_model.specs.declared.column.ColDef.{ColDef}
use Rattle.doc_model.specs.ByIds.{find_id}
use Rattle.doc_model.specs.Changes.{changes}
use Rattle.doc_model.specs.Column.{column_id}
use Rattle.doc_model.specs.Document.{Document, Table}
use Rattle.doc_model.specs.Grid.{Grid, IsGrid, cell}
use Rattle.doc_model.specs.LaidOut.{IsLaidOut}
use Rattle.doc_model.specs.MetadataIds.{is_schema_id}
use Rattle.doc_model.specs.Rows.{has}
use Rattle.censored_view.specs.Parts.{part}
use Rattle.censored_view.specs.Readable.{Readable, hidden}
use Rattle.censored_view.specs.View.{view}
use Rattle.action_censor.specs.Back.{AreStepsOf, back, grid_back}
use Rattle.action_censor.specs.Step.{Step, is_row_of, is_table_of}

-- nothing is shown of the schema tables
abbrev pub HidesSchema : (List ℕ → Readable) → Type 0
HidesSchema x = (c : List ℕ) → is_schema_id c ≡ true → x c ≡ hidden

-- the rows that steps of records are about tell all changes of a view
abbrev pub NarrowLaw : Type 0
NarrowLaw =
    (ks : List Step) (x : List ℕ → Readable) (s : Document) → IsLaidOut s → HidesSchema x
    → changes (part (is_table_of ks) (is_row_of ks) x (back ks s))
    (part (is_table_of ks) (is_row_of ks) x s)
    ≡ changes (view x (back ks s)) (view x s)

-- what steps tell of a table is what it was before them
abbrev pub StepsLaw : Type 0
StepsLaw =
    (ks : List Step) (t : List ℕ) (g h : Grid ColDef) → IsGrid column_id g → IsGrid column_id h
    → AreStepsOf ks t g h → g ≡ grid_back ks t h

-- two tables have the same columns and rows, and hold the same in the rows that pass
pub record IsToldIn (test : ℕ → Bool) (t u : Table) : Type 0 where
  pub id : t.id ≡ u.id
  pub columns : t.grid.columns ≡ u.grid.columns
  pub rows : t.grid.rows ≡ u.grid.rows
  pub cells : (d : ColDef) (r : ℕ) → test r ≡ true
      → find_id column_id d.id t.grid.columns ≡ Some d → has t.grid.rows r ≡ true
      → cell column_id t.grid d.id r ≡ cell column_id u.grid d.id r

-- table by table
abbrev pub AreToldIn : (List ℕ → ℕ → Bool) → Document → Document → Type 0
AreToldIn test [] [] = ⊤
AreToldIn test [] (u ∷ e) = ⊥
AreToldIn test (t ∷ s) [] = ⊥
AreToldIn test (t ∷ s) (u ∷ e) = IsToldIn (test t.id) t u × AreToldIn test s e

-- a document that is told of in the touched rows alone tells all changes
abbrev pub ToldLaw : Type 0
ToldLaw =
    (ks : List Step) (x : List ℕ → Readable) (d s : Document) → IsLaidOut d → IsLaidOut s
    → HidesSchema x → AreToldIn (is_row_of ks) d s
    → changes (view x (back ks d)) (view x d) ≡ changes (view x (back ks s)) (view x s)
