-- A whole run, by where it ended, and what becomes of its keeper.
use Rattle.std.proofs.Common.{◌≡◌, ℕ, ◌+◌, ◌-◌, ◌^◌, ◌≤◌, min, true, false, List, [], ◌++◌, Option, Some, None, option_map, refl, sym, ap, ◌∙◌, subst, append-nil, arith}
use Rattle.std.specs.Io.KnownBytes.{Keeps}
use Rattle.doc_model.specs.NewDocument.{new_document}
use Rattle.doc_model.specs.declared.entry.Entry.{Entry}
use Rattle.doc_model.specs.declared.user.User.{User}
use Rattle.doc_opening.specs.declared.opening.StartCause.{StartCause}
use Rattle.doc_opening.specs.declared.opening.StartCause.TheVariants as cause
use Rattle.io_edges.specs.Causes.{Rose}
use Rattle.bundle_core.specs.KeptBundles.{not_kept}
use Rattle.bundle_core.specs.KeptCore.{IsKeeping, IsStarted, KeptCore}
use Rattle.grist_run.specs.declared.status.Status.{Status}
use Rattle.grist_run.specs.declared.status.Status.TheVariants.{Done, Usage, BadUsers, ReadFault, WriteFault, StoreFault, NoMemory, BadStore, TurnsSpent, PortFault, HistoryFull}
use Rattle.grist_run.specs.Hearing.{EndsHearing}
use Rattle.grist_run.specs.Replay.{KeepsRecords, Replays, failed_calls, is_opened}
use Rattle.grist_run.specs.Run.{IsRun}
use Rattle.grist_run.specs.Starting.{start_status}
use Rattle.grist_run.specs.Staying.{StaysStarted}
use Rattle.grist_run.specs.Words.{is_early}
use Rattle.grist_run.proofs.EndLaws.{run_heard, run_none, run_usage}
use Rattle.grist_run.proofs.ToldLaws.{run_follows}

abbrev last : ℕ
last = 2 ^ 64 - 1

least : (a b c : ℕ) → a ≤ c → min a b ≤ c
least a b c le = grind arith

lower : (a b n m c : ℕ) → a ≤ b → min (b + n) m ≤ c → min (a + n) m ≤ c
lower a b n m c le h = grind arith

-- ---- no document was opened

keeps_itself : (l : Option (List ℕ)) → Keeps l l
keeps_itself None = tt
keeps_itself (Some bytes) = refl

kept_nothing : (told : Option (List (List ℕ))) → told ≡ option_map (λ rs. rs ++ []) told
kept_nothing None = refl
kept_nothing (Some rs) = ap Some (sym (append-nil rs))

-- what is told of a keeper whose records opened no document
module _ (told now : Option (List (List ℕ))) (same : now ≡ told) (before after : ℕ) where
  unopened_keeps : (users : List User) (status : Status) → is_opened status [] ≡ false → min (before + failed_calls status []) last ≤ after → KeepsRecords users new_document status [] told now before after
  unopened_keeps users status none faults = record {
    records = same ∙ kept_nothing told;
    begins = λ is. let e : false ≡ true = sym none ∙ is in let never : ⊥ = cc e in absurd never;
    reopens = λ is. let e : false ≡ true = sym none ∙ is in let never : ⊥ = cc e in absurd never;
    faults = faults;
  }

  pub start_keeps : (users : List User) (c : StartCause) → before ≤ after → (c ≡ cause.StoreFault → Rose before after) → KeepsRecords users new_document (start_status c) [] told now before after
  start_keeps users cause.StoreFault le rose = unopened_keeps users StoreFault refl (rose refl)
  start_keeps users (cause.BadStore number) le rose = unopened_keeps users (BadStore number) refl (least (before + 0) last after (omega (arith, le)))
  start_keeps users cause.NoMemory le rose = unopened_keeps users NoMemory refl (least (before + 0) last after (omega (arith, le)))

module _ (l m w : Option (List ℕ)) (told now : Option (List (List ℕ))) (same : now ≡ told) (before after : ℕ) where
  unopened : (users : List User) (status : Status) → is_opened status [] ≡ false → IsRun users new_document status l m [] w w → min (before + failed_calls status []) last ≤ after → Replays status l m [] w w told now before after
  unopened users status none run faults = record {
    users = users;
    start = new_document;
    run = run;
    input = run_follows users new_document status l m w w [] run;
    keeper = unopened_keeps told now same before after users status none faults;
  }

  -- the users were not heard to their end
  pub heard_replays : (status : Status) → EndsHearing status l m → before ≤ after → Replays status l m [] w w told now before after
  heard_replays Done e le = absurd e
  heard_replays Usage e le = absurd e
  heard_replays (BadUsers number) e le = let r = run_heard l m w (BadUsers number) e in unopened r.0 (BadUsers number) refl r.1 (least (before + 0) last after (omega (arith, le)))
  heard_replays ReadFault e le = let r = run_heard l m w ReadFault e in unopened r.0 ReadFault refl r.1 (least (before + 0) last after (omega (arith, le)))
  heard_replays WriteFault e le = absurd e
  heard_replays StoreFault e le = absurd e
  heard_replays NoMemory e le = let r = run_heard l m w NoMemory e in unopened r.0 NoMemory refl r.1 (least (before + 0) last after (omega (arith, le)))
  heard_replays (BadStore number) e le = absurd e
  heard_replays TurnsSpent e le = let r = run_heard l m w TurnsSpent e in unopened r.0 TurnsSpent refl r.1 (least (before + 0) last after (omega (arith, le)))
  heard_replays PortFault e le = absurd e
  heard_replays HistoryFull e le = absurd e

  -- the core did not start
  pub start_replays : (users : List User) (c : StartCause) → IsRun users new_document (start_status c) l m [] w w → before ≤ after → (c ≡ cause.StoreFault → Rose before after) → Replays (start_status c) l m [] w w told now before after
  start_replays users cause.StoreFault run le rose = unopened users StoreFault refl run (rose refl)
  start_replays users (cause.BadStore number) run le rose = unopened users (BadStore number) refl run (least (before + 0) last after (omega (arith, le)))
  start_replays users cause.NoMemory run le rose = unopened users NoMemory refl run (least (before + 0) last after (omega (arith, le)))

-- nothing was read
module _ (l w : Option (List ℕ)) (told now : Option (List (List ℕ))) (same : now ≡ told) (before after : ℕ) (le : before ≤ after) where
  pub usage_replays : Replays Usage l l [] w w told now before after
  usage_replays = unopened l l w told now same before after [] Usage refl (run_usage l w (keeps_itself l)) (least (before + 0) last after (omega (arith, le)))

  pub none_replays : Replays NoMemory l l [] w w told now before after
  none_replays = unopened l l w told now same before after [] NoMemory refl (run_none l w) (least (before + 0) last after (omega (arith, le)))

-- ---- a core was started

late_calls : (status : Status) (h : List Entry) → is_early status ≡ false → failed_calls status h ≡ not_kept h
late_calls Done h late = refl
late_calls Usage h late = refl
late_calls (BadUsers number) h late = refl
late_calls ReadFault h late = refl
late_calls WriteFault h late = refl
late_calls StoreFault h late = let never : ⊥ = cc late in absurd never
late_calls NoMemory h late = refl
late_calls (BadStore number) h late = refl
late_calls TurnsSpent h late = refl
late_calls PortFault h late = refl
late_calls HistoryFull h late = refl

-- what a core that ended says of its keeper
module _ (core : KeptCore) (k : IsKeeping core) (status : Status) (late : is_early status ≡ false) where
  own : KeepsRecords core.state.users core.state.start status core.state.history core.kept.opening core.kept.records core.kept.before core.kept.faults
  own = record {
    records = k.records;
    begins = λ is. k.begins;
    reopens = λ is. k.reopens;
    faults = subst (λ n. min (core.kept.before + n) last ≤ core.kept.faults) (sym (late_calls status core.state.history late)) k.counted;
  }

  pub keeps_records : (old : KeptCore) → StaysStarted old core → (h : List Entry) → h ≡ core.state.history → (now : Option (List (List ℕ))) → now ≡ core.kept.records → (after : ℕ) → after ≡ core.kept.faults
      → KeepsRecords old.state.users old.state.start status h old.kept.opening now old.kept.before after
  keeps_records old s h is now records after faults =
      let a = subst (λ u. KeepsRecords u core.state.start status core.state.history core.kept.opening core.kept.records core.kept.before core.kept.faults) s.users own in
      let b = subst (λ d. KeepsRecords old.state.users d status core.state.history core.kept.opening core.kept.records core.kept.before core.kept.faults) s.start a in
      let d = subst (λ o. KeepsRecords old.state.users old.state.start status core.state.history o core.kept.records core.kept.before core.kept.faults) s.opening b in
      let e = subst (λ n. KeepsRecords old.state.users old.state.start status core.state.history old.kept.opening core.kept.records n core.kept.faults) s.before d in
      let f = subst (λ l. KeepsRecords old.state.users old.state.start status l old.kept.opening core.kept.records old.kept.before core.kept.faults) (sym is) e in
      let i = subst (λ r. KeepsRecords old.state.users old.state.start status h old.kept.opening r old.kept.before core.kept.faults) (sym records) f in
      subst (λ n. KeepsRecords old.state.users old.state.start status h old.kept.opening now old.kept.before n) (sym faults) i

-- what is told of a keeper since it was handed in
pub opened_keeps : (core : KeptCore) (users : List User) (told : Option (List (List ℕ))) (before : ℕ) → IsStarted users told before core → (status : Status) (h : List Entry) (now : Option (List (List ℕ))) (after : ℕ)
    → KeepsRecords core.state.users core.state.start status h core.kept.opening now core.kept.before after → KeepsRecords core.state.users core.state.start status h told now before after
opened_keeps core users told before s status h now after k =
    let d = subst (λ o. KeepsRecords core.state.users core.state.start status h o now core.kept.before after) s.opening k in
    record { records = d.records; begins = d.begins; reopens = d.reopens; faults = lower before core.kept.before (failed_calls status h) last after s.later d.faults }

-- the whole run
pub opened_replays : (core : KeptCore) (users : List User) (told : Option (List (List ℕ))) (before : ℕ) → IsStarted users told before core → (status : Status) (l m : Option (List ℕ)) (h : List Entry) (w z : Option (List ℕ)) (now : Option (List (List ℕ))) (after : ℕ)
    → IsRun core.state.users core.state.start status l m h w z → KeepsRecords core.state.users core.state.start status h core.kept.opening now core.kept.before after → Replays status l m h w z told now before after
opened_replays core users told before s status l m h w z now after run k = record {
  users = core.state.users;
  start = core.state.start;
  run = run;
  input = run_follows core.state.users core.state.start status l m w z h run;
  keeper = opened_keeps core users told before s status h now after k;
}

-- the same run, told by an outcome
module _ {l m w z : Option (List ℕ)} {told : Option (List (List ℕ))} {before : ℕ} where
  pub replays_told : (status as_told : Status) (h k : List Entry) (now : Option (List (List ℕ))) (after : ℕ) → as_told ≡ status → k ≡ h → Replays status l m h w z told now before after → Replays as_told l m k w z told now before after
  replays_told status as_told h k now after same is r =
      subst (λ (s : Status). Replays s l m k w z told now before after) (sym same) (subst (λ (es : List Entry). Replays status l m es w z told now before after) (sym is) r)
