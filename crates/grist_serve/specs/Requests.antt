-- What the lines of a connection ask for.
use Rattle.std.specs.Prelude.{ℕ, List, [], ◌∷◌, ◌++◌, true, length, Option, Some, None, if◌then◌else◌}
use Rattle.io_edges.specs.Lines.{is_blank, is_long}
use Rattle.doc_model.specs.declared.entry.Entry.{Entry}
use Rattle.doc_model.specs.declared.request.Request.{Request}
use Rattle.doc_model.specs.declared.request.Request.TheVariants.{Bad, TooLong}
use Rattle.grist_json.specs.Requests.{request_at}
use Rattle.bundle_core.specs.Core.{entry_of}
use Rattle.bundle_core.specs.Machine.{event_entry}
use Rattle.bundle_core.specs.declared.machine.Event.{Event}

-- what a line asks for, by the request that it spells
abbrev pub asked_by : Option Request → Request
asked_by None = Bad
asked_by (Some r) = r

-- the entries that a line of a session makes: none, if it is white space alone, and else one
abbrev pub line_entries : List ℕ → List ℕ → List Entry
line_entries name text =
    if is_long text then entry_of name TooLong 1048577 true ∷ []
    else if is_blank text then []
    else entry_of name (asked_by (request_at text)) (length text) true ∷ []

-- the entries that lines make, in their order
abbrev pub requests_of : List ℕ → List (List ℕ) → List Entry
requests_of name [] = []
requests_of name (l ∷ ls) = line_entries name l ++ requests_of name ls

-- the entries that what was read of a line makes
abbrev pub entries_asked : Option Event → List Entry
entries_asked None = []
entries_asked (Some e) = event_entry e true ∷ []
