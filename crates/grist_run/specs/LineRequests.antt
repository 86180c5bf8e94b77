-- The entries of what a line asks for.
use Rattle.std.specs.Prelude.{true, List, [], ◌∷◌, Option, Some, None}
use Rattle.doc_model.specs.declared.entry.Entry.{Entry}
use Rattle.bundle_core.specs.Core.{entry_of}
use Rattle.grist_run.specs.declared.line_request.LineRequest.{LineRequest}

abbrev pub entries_requested : Option LineRequest → List Entry
entries_requested None = []
entries_requested (Some a) = entry_of a.session a.request a.size true ∷ []
