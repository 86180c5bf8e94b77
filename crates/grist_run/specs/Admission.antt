-- Which entries find room in a history.
use Rattle.std.specs.Prelude.{true, List, [], ◌∷◌, ◌++◌, map, if◌then◌else◌}
use Rattle.doc_model.specs.declared.entry.Entry.{Entry}
use Rattle.bundle_core.specs.Core.{is_full, marked}

-- an entry as it was asked for, whether it was kept or not
abbrev pub asked : Entry → Entry
asked e = marked e true

-- what a history was asked for
abbrev pub all_asked : List Entry → List Entry
all_asked history = map asked history

-- the history with all entries, or the history that is full for the next one
pub data Admission : Type 0 where
  takes_all : List Entry → Admission
  stops_at : List Entry → Admission

-- entries come to a history one after the other, up to one that it is full for
abbrev pub admitted : List Entry → List Entry → Admission
admitted history [] = takes_all history
admitted history (e ∷ es) =
    if is_full history e.request e.size then stops_at history else admitted (history ++ e ∷ []) es
