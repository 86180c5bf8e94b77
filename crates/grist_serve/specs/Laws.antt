-- Laws of what a connection is given.
use Rattle.std.specs.Prelude.{◌≡◌, ℕ, List, ◌++◌, Some}
use Rattle.doc_model.specs.declared.entry.Entry.{Entry}
use Rattle.bundle_core.specs.State.{opening}
use Rattle.bundle_core.specs.Told.{out}
use Rattle.bundle_core.specs.declared.machine.CoreOpening.{CoreOpening}
use Rattle.grist_serve.specs.Out.{IsPartOf}
use Rattle.grist_serve.specs.Turns.{Adds, CorePass, OwnTurn, bytes_of}
use Rattle.session_gate.specs.History.{entries_of}
use Rattle.session_gate.specs.declared.known.Made.{Made}

-- What a pass was given while it saw `more` is what the session is given in the whole history,
-- where the session's entries in that are the pass's own ones of that stretch
abbrev pub GivenLaw : Type 0
GivenLaw = (name : List ℕ) (o : CoreOpening) (old new : CorePass) (turns : List OwnTurn)
    (more all : List (Made Entry)) → Adds old new turns → old.opening ≡ Some o
    → new.seen ≡ old.seen ++ more → IsPartOf name old.number old.seen more all
    → bytes_of turns ≡ out o.users (opening o.document) name (entries_of all)
