-- What the end `Full` of a connection says of the whole history.
use Rattle.std.specs.Prelude.{ℕ, ◌+◌, ◌≡◌, ◌≤◌, ◌<◌, ◌⊎◌, List, length, sum_by}
use Rattle.doc_model.specs.declared.entry.Entry.{Entry}
use Rattle.io_edges.specs.declared.session_end.SessionEnd.TheVariants.{Full}
use Rattle.bundle_core.specs.Core.{size_of}
use Rattle.bundle_core.specs.declared.machine.CoreOpening.{CoreOpening}
use Rattle.grist_lanes.specs.InHistory.{IsInHistory}
use Rattle.grist_lanes.specs.Services.{IsServed, Service, Telling}

-- it has as many entries as a history may have, or one more line could pass what their sizes may be
abbrev pub IsNearlyFull : List Entry → Type 0
IsNearlyFull h = (1048576 ≤ length h) ⊎ (268435456 < sum_by size_of h + 1048577)

-- a connection of the history that ended so found it nearly full
abbrev pub FullLaw : {Conn : Type 0} → Telling Conn → Type 0
FullLaw {Conn} t = (o : CoreOpening) (history : List Entry) (name : List ℕ) (s : Service Conn)
    → IsServed t name s → IsInHistory t o history name s → s.end ≡ Full → IsNearlyFull history
