-- What a core with shots answers as the machine of a gate, by the histories before and after.
use Rattle.std.specs.Prelude.{◌≡◌, List, length, IfSome}
use Rattle.doc_model.specs.declared.entry.Entry.{Entry}
use Rattle.snap_reads.specs.Views.{WriterView}
use Rattle.bundle_core.specs.declared.machine.CoreOpening.{CoreOpening}
use Rattle.bundle_core.specs.declared.machine.Event.{Event}
use Rattle.bundle_core.specs.Machine.{IsGiven}
use Rattle.watched_core.specs.Watched.{WatchedState}
use Rattle.document_shot.specs.declared.past.CoreStart.{CoreStart}
use Rattle.shot_core.specs.declared.machine.ShotOut.{ShotOut}

-- a core with its watchers, and the writer of its shots
pub record ShotCoreState : Type 0 where
  pub watched : WatchedState
  pub writer : WriterView CoreStart Entry

-- what the core answers, and a mark of the history after it, where there is one
pub record IsShotGiven (o : CoreOpening) (old new : List Entry) (e : Event) (out : ShotOut)
    : Type 0 where
  pub given : IsGiven o old new e out.given
  pub marked : IfSome out.mark (λ mark. mark.entries ≡ length new)
