-- The histories of cores that shots stand for.
use Rattle.std.specs.Prelude.{List}
use Rattle.doc_model.specs.declared.entry.Entry.{Entry}
use Rattle.snap_reads.specs.declared.past.Past.{Past}
use Rattle.bundle_core.specs.Core.{CoreState, state_after}
use Rattle.bundle_core.specs.State.{State}
use Rattle.document_shot.specs.declared.past.CoreStart.{CoreStart}

-- a core's history, from what it began with
abbrev pub past_of : CoreState → Past CoreStart Entry
past_of c = record {
  opening = record { users = c.users; document = c.start };
  entries = c.history;
}

-- the history of a core when these were its entries
abbrev pub past_before : CoreState → List Entry → Past CoreStart Entry
past_before c entries = record {
  opening = record { users = c.users; document = c.start };
  entries = entries;
}

-- the state that a history leads to
abbrev pub state_at : Past CoreStart Entry → State
state_at p = state_after p.opening.users p.opening.document p.entries
