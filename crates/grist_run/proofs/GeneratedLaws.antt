-- A generated run, by where it ended.
use Rattle.std.proofs.Common.{◌≡◌, ℕ, ◌≤◌, false, List, [], Option, refl, sym, subst}
use Rattle.doc_model.specs.Document.{Document}
use Rattle.doc_model.specs.NewDocument.{new_document}
use Rattle.doc_model.specs.declared.entry.Entry.{Entry}
use Rattle.doc_model.specs.declared.user.User.{User}
use Rattle.doc_opening.specs.declared.opening.StartCause.{StartCause}
use Rattle.doc_opening.specs.declared.opening.StartCause.TheVariants as cause
use Rattle.io_edges.specs.Causes.{Rose}
use Rattle.io_edges.proofs.SendingLemmas.{appends_none}
use Rattle.run_generator.specs.Script.{script, users}
use Rattle.bundle_core.specs.KeptCore.{IsStarted, KeptCore}
use Rattle.grist_run.specs.declared.status.Status.{Status}
use Rattle.grist_run.specs.declared.status.Status.TheVariants.{Done, Usage, BadUsers, ReadFault, WriteFault, StoreFault, NoMemory, BadStore, TurnsSpent, PortFault, HistoryFull}
use Rattle.grist_run.specs.Admission.{admitted, all_asked, takes_all}
use Rattle.grist_run.specs.Asking.{StopsAsking, Tells}
use Rattle.grist_run.specs.Generated.{Generates, IsGenerated, summary_of}
use Rattle.grist_run.specs.Replay.{KeepsRecords}
use Rattle.grist_run.specs.Starting.{start_status}
use Rattle.grist_run.specs.Words.{is_early}
use Rattle.grist_run.proofs.Admitting.{admitted-all}
use Rattle.grist_run.proofs.ReplayLaws.{opened_keeps, start_keeps}

module _ (us : List User) (start : Document) (rows : ℕ) (h : List Entry) (w : Option (List ℕ)) where
  -- the script was asked for to its end, and summed up
  pub tells_generated : (z : Option (List ℕ)) (s : Status) → admitted [] (script rows) ≡ takes_all (all_asked h) → Tells s (summary_of us start rows h) w z → Generates us start rows h w z s
  tells_generated z Done took told = record { took = took; all = sym (admitted-all [] (all_asked h) (script rows) took); told = told }
  tells_generated z Usage took told = absurd told
  tells_generated z (BadUsers line) took told = absurd told
  tells_generated z ReadFault took told = absurd told
  tells_generated z WriteFault took told = record { took = took; all = sym (admitted-all [] (all_asked h) (script rows) took); told = told }
  tells_generated z StoreFault took told = absurd told
  tells_generated z NoMemory took told = absurd told
  tells_generated z (BadStore number) took told = absurd told
  tells_generated z TurnsSpent took told = absurd told
  tells_generated z PortFault took told = absurd told
  tells_generated z HistoryFull took told = absurd told

  -- it was not asked for to its end
  pub stops_generated : (s : Status) → StopsAsking rows s h → Generates us start rows h w w s
  stops_generated Done stop = absurd stop
  stops_generated Usage stop = absurd stop
  stops_generated (BadUsers line) stop = absurd stop
  stops_generated ReadFault stop = absurd stop
  stops_generated WriteFault stop = absurd stop
  stops_generated StoreFault stop = absurd stop
  stops_generated NoMemory stop = record { more = stop.0; front = stop.1; untold = appends_none w }
  stops_generated (BadStore number) stop = absurd stop
  stops_generated TurnsSpent stop = absurd stop
  stops_generated PortFault stop = absurd stop
  stops_generated HistoryFull stop = record { stopped = stop.2; more = stop.0; front = stop.1; untold = appends_none w }

-- the statuses that come behind the opening of a document
pub tells_late : (s : Status) (text : List ℕ) (w z : Option (List ℕ)) → Tells s text w z → is_early s ≡ false
tells_late Done text w z told = refl
tells_late Usage text w z told = absurd told
tells_late (BadUsers line) text w z told = absurd told
tells_late ReadFault text w z told = refl
tells_late WriteFault text w z told = refl
tells_late StoreFault text w z told = absurd told
tells_late NoMemory text w z told = refl
tells_late (BadStore number) text w z told = absurd told
tells_late TurnsSpent text w z told = refl
tells_late PortFault text w z told = refl
tells_late HistoryFull text w z told = refl

pub stops_late : (rows : ℕ) (s : Status) (h : List Entry) → StopsAsking rows s h → is_early s ≡ false
stops_late rows Done h stop = refl
stops_late rows Usage h stop = absurd stop
stops_late rows (BadUsers line) h stop = absurd stop
stops_late rows ReadFault h stop = refl
stops_late rows WriteFault h stop = refl
stops_late rows StoreFault h stop = absurd stop
stops_late rows NoMemory h stop = refl
stops_late rows (BadStore number) h stop = absurd stop
stops_late rows TurnsSpent h stop = refl
stops_late rows PortFault h stop = refl
stops_late rows HistoryFull h stop = refl

-- the same, told by the core that was started and by an outcome
pub same_generated : (us vs : List User) (start began : Document) (rows : ℕ) (h k : List Entry) (w y z : Option (List ℕ)) (s t : Status) → us ≡ vs → start ≡ began → k ≡ h → z ≡ y → t ≡ s → Generates us start rows h w y s → Generates vs began rows k w z t
same_generated us vs start began rows h k w y z s t a b c d e done =
    subst (λ u. Generates u began rows k w z t) a
    (subst (λ x. Generates us x rows k w z t) b
    (subst (λ (l : List Entry). Generates us start rows l w z t) (sym c)
    (subst (λ x. Generates us start rows h w x t) (sym d)
    (subst (λ x. Generates us start rows h w y x) (sym e) done))))

-- no document was opened
pub start_generated : (rows : ℕ) (w : Option (List ℕ)) (told now : Option (List (List ℕ))) (same : now ≡ told) (before after : ℕ) (c : StartCause) → before ≤ after → (c ≡ cause.StoreFault → Rose before after) → IsGenerated rows (start_status c) [] w w told now before after
start_generated rows w told now same before after cause.StoreFault le rose = record {
  start = new_document;
  generates = record { none = refl; untold = appends_none w };
  keeper = start_keeps told now same before after users cause.StoreFault le rose;
}
start_generated rows w told now same before after (cause.BadStore number) le rose = record {
  start = new_document;
  generates = record { none = refl; untold = appends_none w };
  keeper = start_keeps told now same before after users (cause.BadStore number) le rose;
}
start_generated rows w told now same before after cause.NoMemory le rose = record {
  start = new_document;
  generates = record { more = script rows; front = refl; untold = appends_none w };
  keeper = start_keeps told now same before after users cause.NoMemory le rose;
}

no_fault : {P : Type 0} → cause.NoMemory ≡ cause.StoreFault → P
no_fault e = let never : ⊥ = cc e in absurd never

-- the same, told by an outcome
pub unopened_generated : (rows : ℕ) (w : Option (List ℕ)) (told now : Option (List (List ℕ))) (before after : ℕ) (c : StartCause) (s : Status) (h : List Entry) → now ≡ told → before ≤ after → (c ≡ cause.StoreFault → Rose before after) → s ≡ start_status c → h ≡ [] → IsGenerated rows s h w w told now before after
unopened_generated rows w told now before after c s h same le rose is none =
    subst (λ t. IsGenerated rows t h w w told now before after) (sym is)
    (subst (λ (l : List Entry). IsGenerated rows (start_status c) l w w told now before after) (sym none) (start_generated rows w told now same before after c le rose))

pub empty_generated : (rows : ℕ) (w : Option (List ℕ)) (told now : Option (List (List ℕ))) (before after : ℕ) (s : Status) (h : List Entry) → now ≡ told → before ≤ after → s ≡ NoMemory → h ≡ [] → IsGenerated rows s h w w told now before after
empty_generated rows w told now before after s h same le is none = unopened_generated rows w told now before after cause.NoMemory s h same le no_fault is none

-- a core was started
pub opened_generated : (core : KeptCore) (told : Option (List (List ℕ))) (before : ℕ) → IsStarted users told before core → (rows : ℕ) (s : Status) (h : List Entry) (w z : Option (List ℕ)) (now : Option (List (List ℕ))) (after : ℕ) → Generates core.state.users core.state.start rows h w z s → KeepsRecords core.state.users core.state.start s h core.kept.opening now core.kept.before after → IsGenerated rows s h w z told now before after
opened_generated core told before started rows s h w z now after done kept = record {
  start = core.state.start;
  generates = subst (λ us. Generates us core.state.start rows h w z s) started.users done;
  keeper = subst (λ us. KeepsRecords us core.state.start s h told now before after) started.users (opened_keeps core users told before started s h now after kept);
}
