-- Shots of a core's document, and what leads them on.
use Rattle.std.specs.Prelude.{◌≡◌, ℕ, List, [], map, length}
use Rattle.std.specs.List.{fold}
use Rattle.cell_types.specs.declared.value.CellValue.{CellValue}
use Rattle.doc_model.specs.Apply.{apply_all}
use Rattle.doc_model.specs.Document.{Document}
use Rattle.doc_model.specs.declared.entry.Entry.{Entry}
use Rattle.recalc.specs.Evaluated.{filled, filled_by}
use Rattle.shot_cells.specs.Changes.{nothing_seen, seen_after}
use Rattle.shot_cells.specs.Places.{ByCell}
use Rattle.shot_changes.specs.Leading.{LeadOn}
use Rattle.shot_documents.specs.declared.taking.DocumentChanges.{DocumentChanges}
use Rattle.snap_reads.specs.Past.{Continues}
use Rattle.snap_reads.specs.declared.past.Past.{Past}
use Rattle.bundle_core.specs.Core.{CoreState}
use Rattle.bundle_core.specs.KeptCore.{state_now}
use Rattle.bundle_core.specs.SessionState.{SessionState}
use Rattle.bundle_core.specs.State.{Open}
use Rattle.document_shot.specs.Pasts.{past_of, state_at}
use Rattle.document_shot.specs.declared.operation.DocumentOp.{DocumentOp}
use Rattle.document_shot.specs.declared.past.CoreStart.{CoreStart}
use Rattle.document_shot.specs.declared.sessions.ShotSession.{ShotSession}
use Rattle.document_shot.specs.declared.trail.DocumentStep.{DocumentStep}
use Rattle.document_shot.specs.declared.trail.DocumentStep.TheVariants.{First, Then}

-- what a shot shows: a document, what is seen of its formula cells, the open sessions, how many
-- entries there were, and the history
pub record Shown : Type 0 where
  pub document : Document
  pub seen : ByCell CellValue
  pub sessions : List ShotSession
  pub entries : ℕ
  pub past : CoreState

-- what a shot has of an open session
abbrev pub shown_session : Open → ShotSession
shown_session o =
    record { name = o.session; user = o.holder.user; lagging = o.mailbox.lagging }

-- the same of a session as the core keeps it
abbrev pub shown_as : SessionState → ShotSession
shown_as x = record { name = x.session; user = x.holder.user; lagging = x.lagging }

-- it is what the history leads to
pub record Stands (s : Shown) : Type 0 where
  pub document : s.document ≡ (state_now s.past).document
  pub values : filled_by s.seen s.document ≡ filled s.document
  pub sessions : s.sessions ≡ map shown_session (state_now s.past).open_sessions
  pub entries : s.entries ≡ length s.past.history

-- a shot after an operation
abbrev pub applied : Shown → DocumentOp → Shown
applied s op = record {
  document = apply_all s.document op.changes.actions;
  seen = seen_after op.changes.cells s.seen;
  sessions = op.sessions.items;
  entries = op.entries;
  past = op.past;
}

-- tables of which nothing else is known yet
abbrev pub begun : Document → Shown
begun tables = record {
  document = tables;
  seen = nothing_seen;
  sessions = [];
  entries = 0;
  past = record { users = []; start = tables; history = [] };
}

-- what is shown after a step of a trail
abbrev pub stepped : Shown → DocumentStep → Shown
stepped v (First tables op) = applied (begun tables) op
stepped v (Then op) = applied v op

-- what is shown after all steps
abbrev pub shown_after : List DocumentStep → Shown
shown_after steps = fold stepped (begun []) steps

-- the parts of a shot are what is shown
pub record Shows (document : Document) (seen : ByCell CellValue) (sessions : List ShotSession)
    (entries : ℕ) (v : Shown) : Type 0 where
  pub tables : document ≡ v.document
  pub values : seen ≡ v.seen
  pub open_sessions : sessions ≡ v.sessions
  pub count : entries ≡ v.entries

-- the operation leads from a history to the one that it carries
pub record Leads (p : Past CoreStart Entry) (op : DocumentOp) : Type 0 where
  pub continues : Continues p (past_of op.past)
  pub document : (state_now op.past).document ≡ apply_all (state_at p).document op.changes.actions
  pub values : LeadOn (state_at p).document (state_now op.past).document op.changes.cells
  pub sessions : op.sessions.items ≡ map shown_session (state_now op.past).open_sessions
  pub entries : op.entries ≡ length op.past.history

-- the actions lead from one document to the other, and so do the values of formula cells
pub record LeadTo (s t : Document) (c : DocumentChanges) : Type 0 where
  pub document : t ≡ apply_all s c.actions
  pub values : LeadOn s t c.cells
