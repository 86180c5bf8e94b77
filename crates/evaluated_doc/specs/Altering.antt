-- An action on no records in a document of which values are kept.
use Rattle.std.specs.Prelude.{List}
use Rattle.cell_types.specs.declared.cell.CellId.{CellId}
use Rattle.doc_model.specs.declared.action.DocAction.{DocAction}
use Rattle.doc_model.specs.Document.{Document}
use Rattle.dep_graph.specs.Graph.{Graph}
use Rattle.recalc.specs.declared.kept.KeptTable.{KeptTable}
use Rattle.recalc.specs.Kept.{IsEvaluated}
use Rattle.affected_values.specs.Altered.{HasAltered, IsAlteredFrom}
use Rattle.known_reads.specs.Beside.{Beside, KnowsExact}
use Rattle.evaluated_doc.specs.Spent.{AreAffected}
use Rattle.evaluated_doc.specs.Update.{HasFound}

-- among the cells are the found ones of a search, by which all others keep values and notes, and
-- the formula cells that the action alters
pub record HasFoundAltered (s : Document) (graph : Graph) (a : DocAction) (cells : List CellId) :
    Type 0 where
  pub found : HasFound s graph a cells
  pub altered : HasAltered s a cells

-- so it is of the cells, with no others but those that the action may affect
pub record IsAltered (s : Document) (graph : Graph) (a : DocAction) (found : List CellId) :
    Type 0 where
  pub cells : HasFoundAltered s graph a found
  pub only : AreAffected s a found

-- the second document is the first one after the action; of the first these values are kept beside
-- a graph that is right of each cell, and of it this was found
pub record IsAltering (s now : Document) (a : DocAction) (kept : List KeptTable) (known : Beside)
    (cells : List CellId) : Type 0 where
  pub altered : IsAlteredFrom s now a
  pub found : IsAltered s known.graph a cells
  pub right : IsEvaluated s kept
  pub reads : KnowsExact s known
