-- Rows that come or go in a document of which values are kept.
use Rattle.std.specs.Prelude.{ℕ, true, List, ◌≡◌}
use Rattle.cell_types.specs.declared.cell.CellId.{CellId}
use Rattle.doc_model.specs.declared.action.DocAction.{DocAction}
use Rattle.doc_model.specs.Document.{Document}
use Rattle.doc_model.specs.Rows.{IsAscending}
use Rattle.doc_readers.specs.Parts.{grid_at}
use Rattle.dep_graph.specs.Graph.{Graph}
use Rattle.dep_graph.specs.Named.{Were}
use Rattle.recalc.specs.declared.kept.KeptTable.{KeptTable}
use Rattle.recalc.specs.Kept.{IsEvaluated}
use Rattle.recalc.specs.Stack.{on}
use Rattle.affected_search.specs.Actions.{KeepsOthers}
use Rattle.affected_search.specs.Sheets.{is_found}
use Rattle.affected_values.specs.declared.relaying.LaidAside.{LaidAside}
use Rattle.affected_values.specs.declared.taking.HeldValue.{HeldValue}
use Rattle.affected_values.specs.Carried.{moved_rows}
use Rattle.affected_values.specs.Relaid.{HasAside, IsMovedFrom}
use Rattle.affected_values.specs.RowsOver.{LeadsOverRows}
use Rattle.known_reads.specs.Beside.{Beside, KnowsExact, LeadsReads}
use Rattle.evaluated_doc.specs.declared.moving.Moved.{Moved}
use Rattle.evaluated_doc.specs.Spent.{AreAffected}

-- the found cells of a search, by which all others keep values and notes, also by name, and no
-- others but those that the action may affect; and the rows that the table has, which ascend
pub record IsMoved (graph : Graph) (a : DocAction) (s : Document) (t : List ℕ) (x : Moved) :
    Type 0 where
  pub keeps : KeepsOthers s graph a x.found
  pub noted : (c : CellId) → is_found graph x.found c ≡ true → on x.noted.items c ≡ true
  pub only : AreAffected s a x.noted.items
  pub were : x.rows.items ≡ (grid_at s t).rows
  pub ascending : IsAscending x.rows.items

-- these rows of this table came or went after the first document, of which these values are kept
-- beside a graph that is right of each cell, and of which this was found
pub record IsMoving (s now : Document) (t rows : List ℕ) (kept : List KeptTable) (known : Beside)
    (x : Moved) : Type 0 where
  pub moved : IsMovedFrom s now t
  pub these : moved_rows moved.action ≡ rows
  pub found : IsMoved known.graph moved.action s t x
  pub right : IsEvaluated s kept
  pub reads : KnowsExact s known

-- rows led from the first document to the second; what was taken and what was laid aside lead back
-- over them, and so does what was noted of what cells read
pub record LeadsFromRows (s now : Document) (taken : List HeldValue) (aside : LaidAside)
    (log : List Were) : Type 0 where
  pub moved : IsMovedFrom s now aside.table
  pub has_aside : HasAside s aside
  pub leads : LeadsOverRows s now taken aside
  pub reads : LeadsReads now s log
