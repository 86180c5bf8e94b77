-- How the entries of a script are asked for.
use Rattle.std.specs.Prelude.{◌≡◌, ℕ, List, [], ◌∷◌, ◌++◌, Option, if◌then◌else◌}
use Rattle.std.specs.Io.KnownBytes.{Appends}
use Rattle.doc_model.specs.declared.entry.Entry.{Entry}
use Rattle.io_edges.specs.Sending.{SendsFront}
use Rattle.run_generator.specs.Script.{script}
use Rattle.bundle_core.specs.Core.{CoreState}
use Rattle.bundle_core.specs.MadeLines.{is_more}
use Rattle.bundle_core.specs.State.{opening}
use Rattle.grist_run.specs.declared.generating.Counts.{Counts}
use Rattle.grist_run.specs.declared.status.Status.{Status}
use Rattle.grist_run.specs.declared.status.Status.TheVariants.{Done, WriteFault, NoMemory, HistoryFull}
use Rattle.grist_run.specs.Admission.{admitted, all_asked, stops_at}
use Rattle.grist_run.specs.Generated.{all_made, denials}

-- these are counted of the core's history
pub record AreCounted (c : Counts) (core : CoreState) : Type 0 where
  pub denied : c.denied ≡ denials core.users (opening core.start) core.history
  pub lines : c.lines ≡ all_made core.users (opening core.start) core.history

-- one line more, where more were made
abbrev pub one_if_more : Option ℕ → Option ℕ → ℕ
one_if_more before after = if is_more before after then 1 else 0

-- the history is what of a script comes before these entries
pub record IsAsking (rows : ℕ) (h left : List Entry) : Type 0 where
  pub entries : script rows ≡ all_asked h ++ left
  pub took : admitted [] (script rows) ≡ admitted (all_asked h) left

-- an entry was not taken, and the history is as it was
abbrev pub StopsAt : Status → List Entry → List Entry → Entry → Type 0
StopsAt HistoryFull old new e =
    (admitted (all_asked old) (e ∷ []) ≡ stops_at (all_asked old)) × (new ≡ old)
StopsAt NoMemory old new e = new ≡ old
StopsAt _ old new e = ⊥

-- a script was not asked for to its end
abbrev pub StopsAsking : ℕ → Status → List Entry → Type 0
StopsAsking rows HistoryFull h =
    (more : List Entry) × (script rows ≡ all_asked h ++ more)
    × (admitted [] (script rows) ≡ stops_at (all_asked h))
StopsAsking rows NoMemory h = (more : List Entry) × (script rows ≡ all_asked h ++ more)
StopsAsking rows _ h = ⊥

-- a line was written, or a front of it
abbrev pub Tells : Status → List ℕ → Option (List ℕ) → Option (List ℕ) → Type 0
Tells Done text w w' = Appends w w' text
Tells WriteFault text w w' = SendsFront text w w'
Tells _ text w w' = ⊥
