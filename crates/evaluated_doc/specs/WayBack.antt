-- What a change did, and what leads back.
use Rattle.std.specs.Prelude.{Bool, true, false, List, Option}
use Rattle.std.specs.Option.{option_map}
use Rattle.cell_types.specs.declared.cell.CellOld.{CellOld}
use Rattle.doc_model.specs.Document.{Document}
use Rattle.doc_model.specs.DocumentLaws.{IsWhole}
use Rattle.recalc.specs.Current.{IsCurrent}
use Rattle.recalc.specs.Kept.{IsEvaluated}
use Rattle.known_reads.specs.Beside.{KnowsReads, LeadsReads}
use Rattle.evaluated_doc.specs.declared.indexing.GoneRows.{GoneRows}
use Rattle.evaluated_doc.specs.declared.trace.Before.{Before}
use Rattle.evaluated_doc.specs.declared.trace.Before.TheVariants.{Altered, Rows, Update, Whole}
use Rattle.evaluated_doc.specs.Gone.{IsGone}
use Rattle.evaluated_doc.specs.Moved.{LeadsFromRows}
use Rattle.evaluated_doc.specs.Update.{LeadsFrom}

-- the cells that a change lost, the store's way back, what leads to the values before, and the rows
-- that it wrote, brought or removed, where these are told
pub record Changed (Back : Type 0) : Type 0 where
  pub cells : List CellOld
  pub back : Back
  pub before : Before
  pub gone : Option GoneRows

-- of the document before: all values, and what cells read; or what was taken leads to its values,
-- with what was laid aside of rows that came or went, and what was noted to what cells read there
abbrev pub HasBefore : Document → Document → Before → Type 0
HasBefore s now (Whole kept reads) =
    IsCurrent s (option_map (λ v. v.items) kept) × KnowsReads s reads
HasBefore s now (Update taken log) = LeadsFrom s now taken.items log.were.items
HasBefore s now (Rows taken aside log) = LeadsFromRows s now taken.items aside log.were.items
HasBefore s now (Altered kept log) = IsEvaluated s kept.items × LeadsReads now s log.were.items

-- whether all values before are kept, since all cells were evaluated
abbrev pub is_whole : Before → Bool
is_whole (Whole kept reads) = true
is_whole _ = false

module _ {Back : Type 0} (fits : Back → Document → Type 0)
    (undone : Back → Document → Document) where
  -- the trace leads back from this document: to a whole one, of which it has what was kept
  pub record IsWayBack (trace : Changed Back) (now : Document) : Type 0 where
    pub fit : fits trace.back now
    pub whole : IsWhole (undone trace.back now)
    pub before : HasBefore (undone trace.back now) now trace.before
    pub gone : IsGone (undone trace.back now) now trace.gone
