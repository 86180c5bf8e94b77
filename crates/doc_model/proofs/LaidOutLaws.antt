-- Documents that are laid out.
use Rattle.doc_model.specs.Column.{column_id}
use Rattle.doc_model.specs.Document.{Document}
use Rattle.doc_model.specs.DocumentLaws.{IsWhole}
use Rattle.doc_model.specs.Grid.{IsGrid}
use Rattle.doc_model.specs.LaidOut.{IsLaidOut}
use Rattle.doc_model.specs.Sound.{IsSoundGrid}
use Rattle.doc_model.proofs.Choices.{each_weaker}

-- a whole document is laid out
pub laid_out : (s : Document) → IsWhole s → IsLaidOut s
laid_out s whole = record {
  distinct = whole.sound.distinct;
  grids = each_weaker (λ t. IsSoundGrid t.grid) (λ t. IsGrid column_id t.grid) (λ t sound. sound.is_grid) s whole.sound.grids;
  names = whole.sound.names;
}
