-- Where nothing outside fails, all is answered or memory was wanting, whatever a run is asked for.
use Rattle.std.proofs.Common.{◌≡◌, ℕ, ◌+◌, ◌-◌, List, [], ◌∷◌, ◌++◌, length, Option, Some, refl, sym, ap, ◌∙◌, subst, arith, length-append}
use Rattle.doc_model.specs.NewDocument.{new_document}
use Rattle.doc_model.specs.declared.user.User.{User}
use Rattle.doc_opening.specs.Opening.{FirstBad}
use Rattle.io_edges.specs.Ports.{PortState}
use Rattle.bundle_core.specs.KeptBundles.{not_kept}
use Rattle.grist_lanes.specs.Handed.{SomeFailed}
use Rattle.grist_lanes.specs.Services.{Telling}
use Rattle.grist_run.specs.declared.status.Status.{Status}
use Rattle.grist_run.specs.declared.status.Status.TheVariants.{Done, Usage, BadUsers, ReadFault, WriteFault, StoreFault, NoMemory, BadStore, TurnsSpent, PortFault, HistoryFull}
use Rattle.grist_run.specs.Complete.{IsComplete}
use Rattle.grist_run.specs.Generated.{IsGenerated}
use Rattle.grist_run.specs.UserLines.{Script, bad_user, script, script_of}
use Rattle.grist_run.proofs.Complete.{bad≢opens, complete, few_came, none_failed, stops≢takes}
use Rattle.grist_run.proofs.Said.{script-asks, script-bad}
use Rattle.grist_run.proofs.ToldLaws.{came_first}
use Rattle.users_alone.specs.UsersAlone.{RefusesLine, StopsAlone, bad_line, said_alone, says, users_alone}
use Rattle.audit_run.specs.AuditRuns.{IsAudit}
use Rattle.grist_hosting.specs.Complete.{AreGood, CanHost, CompletenessLaws, Ended, Generated, HasCauses, NoneFailed, Replayed}
use Rattle.grist_hosting.specs.Hosting.{IsHosting}

bad≢says : {n : ℕ} {us : List User} → bad_line n ≡ says us → ⊥
bad≢says e = cc

-- ---- what lines say does not change with the lines behind a bad one

module _ (lines more : List (List ℕ)) (n : ℕ) where
  counted : length (lines ++ more) ≡ length lines + length more
  counted = length-append lines more

  still_bad : (s : Script) → script_of lines ≡ s → said_alone (length lines) s ≡ bad_line n → users_alone (lines ++ more) ≡ bad_line n
  still_bad (bad_user k) is said = ap (said_alone (length (lines ++ more))) (script-bad 1 k [] lines more is) ∙ said
  still_bad (script us []) is said = let never : ⊥ = bad≢says (sym said) in absurd never
  still_bad (script us (l ∷ ls)) is said =
      let place : length (lines ++ more) - length (ls ++ more) ≡ length lines - length ls = omega (arith, counted, length-append ls more) in
      ap (said_alone (length (lines ++ more))) (script-asks 1 [] us lines more l ls is) ∙ ap bad_line place ∙ said

  refused : users_alone lines ≡ bad_line n → users_alone (lines ++ more) ≡ bad_line n
  refused = still_bad (script_of lines) refl

-- ---- what has no place where an input can be served

module _ (input : List ℕ) (told : Option (List (List ℕ))) (can : CanHost input told) (left : Option (List ℕ)) where
  not_bad : (n : ℕ) → RefusesLine (Some input) left n → ⊥
  not_bad n r =
      let first = came_first input left r.lines r.came in
      bad≢says (sym (ap users_alone first.1 ∙ refused r.lines first.0 n r.bad) ∙ can.said)

  not_spent : StopsAlone TurnsSpent (Some input) left → ⊥
  not_spent s =
      let c = s.1.came in
      let n = few_came input left c.came c.consumed can.few in
      omega (arith, n, c.few)

not_bad_store : (told : Option (List (List ℕ))) (n : ℕ) → AreGood told → FirstBad told new_document n → ⊥
not_bad_store told n g b =
    let t = subst (λ o. FirstBad o new_document n) g.are_told b in bad≢opens (sym t.told_first ∙ g.good)

-- ---- by how a run ended

module _ (e : Ended) (c : HasCauses e) (f : NoneFailed e) where
  replayed : (input : List ℕ) → Replayed e input → IsComplete e.status e.history
  replayed input r =
      complete input e.told r.can e.left e.history e.written e.written_now e.told_now e.kept e.kept_now f.keeps f.reads f.writes e.status r.did c.usage c.bad_store c.read_fault c.write_fault c.store_fault

  module _ (good : AreGood e.told) where
    -- a status that has no place
    not_bad_document : (n : ℕ) → e.status ≡ BadStore n → ⊥
    not_bad_document n is = not_bad_store e.told n good (c.bad_store n is)

  module _ (rows : ℕ) (g : Generated e rows) where
    generated : (status : Status) → e.status ≡ status → IsGenerated rows status e.history e.written e.written_now e.told e.told_now e.kept e.kept_now → IsComplete status e.history
    generated Done is d = none_failed e.kept (not_kept e.history) e.kept_now d.keeper.faults f.keeps
    generated Usage is d = absurd d.generates
    generated (BadUsers n) is d = absurd d.generates
    generated ReadFault is d = absurd d.generates
    generated WriteFault is d = let never : ⊥ = f.writes (c.write_fault is) in absurd never
    generated StoreFault is d = let never : ⊥ = f.keeps (c.store_fault is) in absurd never
    generated NoMemory is d = tt
    generated (BadStore n) is d = let never : ⊥ = not_bad_document g.good n is in absurd never
    generated TurnsSpent is d = absurd d.generates
    generated PortFault is d = absurd d.generates
    generated HistoryFull is d = let never : ⊥ = stops≢takes (sym d.generates.stopped ∙ g.fits) in absurd never

  module _ (input : List ℕ) (can : CanHost input e.told) where
    audited : (status : Status) → e.status ≡ status → IsAudit status (Some input) e.left e.history e.written e.written_now e.told e.told_now e.kept e.kept_now → IsComplete status e.history
    audited Done is d = ap not_kept d.history
    audited Usage is d = absurd d.audits
    audited (BadUsers n) is d = let never : ⊥ = not_bad input e.told can e.left n d.audits.0 in absurd never
    audited ReadFault is d = let never : ⊥ = f.reads (c.read_fault is) in absurd never
    audited WriteFault is d = let never : ⊥ = f.writes (c.write_fault is) in absurd never
    audited StoreFault is d = let never : ⊥ = f.keeps (c.store_fault is) in absurd never
    audited NoMemory is d = tt
    audited (BadStore n) is d = let never : ⊥ = not_bad_document can.good n is in absurd never
    audited TurnsSpent is d = let never : ⊥ = not_spent input e.told can e.left d.audits.0 in absurd never
    audited PortFault is d = absurd d.audits
    audited HistoryFull is d = absurd d.audits

    module _ {Conn : Type 0} (t : Telling Conn) (ports ports_now : List (PortState Conn)) (stood : SomeFailed ports ports_now → ⊥) where
      hosted : (status : Status) → e.status ≡ status → IsHosting t status (Some input) e.left e.history e.written e.written_now e.wrote e.wrote_now e.told e.told_now e.kept e.kept_now ports ports_now → IsComplete status e.history
      hosted Done is d = none_failed e.kept (not_kept e.history) e.kept_now d.keeper.faults f.keeps
      hosted Usage is d = let never : ⊥ = c.usage is in absurd never
      hosted (BadUsers n) is d = let never : ⊥ = not_bad input e.told can e.left n d.hosts.1 in absurd never
      hosted ReadFault is d = let never : ⊥ = f.reads (c.read_fault is) in absurd never
      hosted WriteFault is d = let never : ⊥ = f.writes (c.write_fault is) in absurd never
      hosted StoreFault is d = let never : ⊥ = f.keeps (c.store_fault is) in absurd never
      hosted NoMemory is d = tt
      hosted (BadStore n) is d = let never : ⊥ = not_bad_document can.good n is in absurd never
      hosted TurnsSpent is d = let never : ⊥ = not_spent input e.told can e.left d.hosts.1 in absurd never
      hosted PortFault is d = let never : ⊥ = stood d.hosts.hosted.ended in absurd never
      hosted HistoryFull is d = absurd d.hosts

pub completeness-laws : {Conn : Type 0} (t : Telling Conn) → CompletenessLaws t
completeness-laws t = record {
  replay = λ e input r c f. replayed e c f input r;
  generated = λ e rows g c f. generated e c f rows g e.status refl g.did;
  audit = λ e input a c f. audited e c f input a.can e.status refl a.did;
  serve = λ e input ports ports_now h c f. hosted e c f input h.can t ports ports_now h.ports_stood e.status refl h.did;
}
