-- What the lines of an input ask for.
use Rattle.std.specs.Prelude.{ℕ, List, [], ◌∷◌, ◌++◌, codes, true, length, Option, Some, None, if◌then◌else◌}
use Rattle.io_edges.specs.Lines.{is_blank, is_long}
use Rattle.doc_model.specs.declared.entry.Entry.{Entry}
use Rattle.doc_model.specs.declared.request.Request.TheVariants.{Bad, TooLong}
use Rattle.grist_json.specs.declared.frames.Frame.{Frame}
use Rattle.grist_json.specs.Frames.{frame_at}
use Rattle.bundle_core.specs.Core.{entry_of}

-- the session of lines that are no frame; no frame can name it
abbrev pub nobody : List ℕ
nobody = codes "_"

-- the entry of a line of that size, by the frame that it spells
abbrev pub framed_entry : Option Frame → ℕ → Entry
framed_entry None size = entry_of nobody Bad size true
framed_entry (Some f) size = entry_of f.session f.request size true

-- the entries that a line makes: none, if it is white space alone, and else one
abbrev pub line_entries : List ℕ → List Entry
line_entries text =
    if is_long text then entry_of nobody TooLong 1048577 true ∷ []
    else if is_blank text then [] else framed_entry (frame_at text) (length text) ∷ []

-- the entries that lines make, in their order
abbrev pub entries_of : List (List ℕ) → List Entry
entries_of [] = []
entries_of (l ∷ ls) = line_entries l ++ entries_of ls
