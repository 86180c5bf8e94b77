-- How an accepted bundle is noted in its session's log.
use Rattle.std.specs.Prelude.{ℕ, ⊤, ◌<◌, Option, Some, None, IsOk}
use Rattle.doc_model.specs.Document.{Document}
use Rattle.undo_bundles.specs.BundleLog.{Log, noted, undo_of}
use Rattle.undo_bundles.specs.InverseSteps.{inverse_steps}
use Rattle.bundle_judge.specs.declared.judging.BundlePlan.{BundlePlan}
use Rattle.bundle_core.specs.declared.session.BundleNote.{BundleNote}
use Rattle.bundle_core.specs.SessionState.{SessionState}
use Rattle.bundle_core.specs.State.{with_undone}

-- the log after the note
abbrev pub log_after : BundleNote → Log → Log
log_after note log = noted note.inverse (with_undone note.undone log)

-- the bundle that is undone was not undone before
abbrev pub MayBeUndone : Option ℕ → Log → Type 0
MayBeUndone None log = ⊤
MayBeUndone (Some number) log = IsOk (undo_of log number)

-- there is room for the two lines of an own bundle, and for its note
pub record HasBundleRoom (x : SessionState) : Type 0 where
  pub lines : 1 < x.room
  pub note : 0 < x.note_room

-- what is noted of a plan that is done on this document
abbrev pub note_of : Document → BundlePlan → BundleNote
note_of s p = record { inverse = inverse_steps s p.steps; undone = p.undone }
