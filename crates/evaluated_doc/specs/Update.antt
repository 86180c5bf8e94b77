-- An update of a document of which values are kept.
use Rattle.std.specs.Prelude.{ℕ, Bool, true, false, List, ◌≡◌}
use Rattle.cell_types.specs.declared.cell.CellId.{CellId}
use Rattle.doc_model.specs.declared.action.DocAction.{DocAction}
use Rattle.doc_model.specs.declared.action.DocAction.TheVariants.{BulkUpdate}
use Rattle.doc_model.specs.declared.column.CellColumn.{CellColumn}
use Rattle.doc_model.specs.Apply.{apply}
use Rattle.doc_model.specs.Document.{Document}
use Rattle.doc_model.specs.Valid.{valid}
use Rattle.dep_graph.specs.declared.numbers.CellNumber.{CellNumber}
use Rattle.dep_graph.specs.Graph.{Graph}
use Rattle.dep_graph.specs.Named.{Were}
use Rattle.recalc.specs.declared.kept.KeptTable.{KeptTable}
use Rattle.recalc.specs.Kept.{IsEvaluated}
use Rattle.recalc.specs.Stack.{on}
use Rattle.affected_search.specs.Actions.{KeepsOthers}
use Rattle.affected_search.specs.Sheets.{is_found}
use Rattle.affected_values.specs.declared.taking.HeldValue.{HeldValue}
use Rattle.affected_values.specs.WaysBack.{LeadsOver}
use Rattle.known_reads.specs.Beside.{Beside, KnowsExact, LeadsReads}
use Rattle.evaluated_doc.specs.declared.updating.Affected.{Affected}
use Rattle.evaluated_doc.specs.Spent.{AreAffected}

-- whether the action is an update
abbrev pub is_update : DocAction → Bool
is_update (BulkUpdate table rows ks) = true
is_update _ = false

-- among the cells are the found ones of a search, by which all others keep values and notes
pub record HasFound (s : Document) (graph : Graph) (a : DocAction) (cells : List CellId) :
    Type 0 where
  pub found : List CellNumber
  pub keeps : KeepsOthers s graph a found
  pub named : (c : CellId) → is_found graph found c ≡ true → on cells c ≡ true

-- the found cells, also by name, with no others but those that the action may affect
pub record IsAffected (s : Document) (graph : Graph) (a : DocAction) (x : Affected) : Type 0 where
  pub found : KeepsOthers s graph a x.found
  pub cells : HasFound s graph a x.cells.items
  pub only : AreAffected s a x.cells.items

-- the second document is the first one after an update; of the first these values are kept beside a
-- graph that is right of each cell, by which these cells were found
pub record IsUpdating (s now : Document) (a : DocAction) (kept : List KeptTable) (known : Beside)
    (cells : List CellId) : Type 0 where
  pub ok : valid s a ≡ true
  pub update : is_update a ≡ true
  pub done : now ≡ apply s a
  pub found : HasFound s known.graph a cells
  pub only : AreAffected s a cells
  pub right : IsEvaluated s kept
  pub reads : KnowsExact s known

-- an update led from the first document to the second; what was taken leads back over it, and so
-- does what was noted of what cells read
pub record LeadsFrom (s now : Document) (taken : List HeldValue) (log : List Were) :
    Type 0 where
  pub table : List ℕ
  pub rows : List ℕ
  pub columns : List CellColumn
  pub after : now ≡ apply s (BulkUpdate table rows columns)
  pub leads : LeadsOver s now taken
  pub reads : LeadsReads now s log
