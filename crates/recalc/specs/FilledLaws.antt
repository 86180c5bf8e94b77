-- Laws of documents with their values in place.
use Rattle.doc_model.specs.Document.{Document}
use Rattle.doc_model.specs.DocumentLaws.{IsWhole}
use Rattle.doc_model.specs.LaidOut.{HaveSameParts, IsLaidOut}
use Rattle.recalc.specs.Evaluated.{filled}

-- of a whole document it is laid out
abbrev pub LaidOutLaw : Type 0
LaidOutLaw = (s : Document) → IsWhole s → IsLaidOut (filled s)

-- only cells differ
abbrev pub SamePartsLaw : Type 0
SamePartsLaw = (s : Document) → HaveSameParts s (filled s)
