-- Where nothing outside fails, all is answered or memory was wanting.
use Rattle.std.proofs.Common.{◌≡◌, ℕ, zero, suc, ◌+◌, ◌-◌, ◌^◌, ◌<◌, ◌≤◌, min, List, [], length, Option, Some, None, refl, sym, ap, ◌∙◌, subst, arith, length-append}
use Rattle.std.specs.Io.KnownBytes.{Consumes}
use Rattle.doc_model.specs.Document.{Document}
use Rattle.doc_model.specs.NewDocument.{new_document}
use Rattle.doc_model.specs.declared.entry.Entry.{Entry}
use Rattle.doc_model.specs.declared.user.User.{User}
use Rattle.doc_opening.specs.Opening.{FirstBad, bad, opens}
use Rattle.io_edges.specs.Causes.{Rose}
use Rattle.bundle_core.specs.KeptBundles.{not_kept}
use Rattle.grist_run.specs.declared.status.Status.{Status}
use Rattle.grist_run.specs.declared.status.Status.TheVariants.{Done, Usage, BadUsers, ReadFault, WriteFault, StoreFault, NoMemory, BadStore, TurnsSpent, PortFault, HistoryFull}
use Rattle.grist_run.specs.Admission.{admitted, all_asked, stops_at, takes_all}
use Rattle.grist_run.specs.Complete.{CanAnswer, CompletenessLaw, IsComplete, Stood}
use Rattle.grist_run.specs.Replay.{Replays}
use Rattle.grist_run.specs.Script.{entries_of}
use Rattle.grist_run.specs.Told.{entries_in, script_in}
use Rattle.grist_run.specs.UserLines.{asking_lines, bad_user, script}

bad≢script : {n : ℕ} {us : List User} {ls : List (List ℕ)} → bad_user n ≡ script us ls → ⊥
bad≢script e = cc

pub stops≢takes : {hs es : List Entry} → stops_at hs ≡ takes_all es → ⊥
stops≢takes e = cc

pub bad≢opens : {n : ℕ} {s : Document} → bad n ≡ opens s → ⊥
bad≢opens e = cc

-- no more bytes came than the input has
pub few_came : (input : List ℕ) (left : Option (List ℕ)) (came : List ℕ) → Consumes (Some input) left came → length input < 4294967296 → length came < 4294967296
few_came input None came c few = absurd c
few_came input (Some rest) came c few = omega (arith, few, ap length c, length-append came rest)

-- a count that stood counted nothing
pub none_failed : (before n after : ℕ) → min (before + n) (2 ^ 64 - 1) ≤ after → Stood before after → n ≡ 0
none_failed before zero after le stood = refl
none_failed before (suc n) after le stood = let rose : Rose before after = grind (arith, le) in absurd (stood rose)

module _ (input : List ℕ) (told : Option (List (List ℕ))) (can : CanAnswer input told) where
  room_for : admitted [] (entries_in input) ≡ takes_all can.history
  room_for = ap (λ s. admitted [] (entries_of (asking_lines s))) can.said ∙ can.room

  not_bad_users : (n : ℕ) → script_in input ≡ bad_user n → ⊥
  not_bad_users n e = bad≢script (sym e ∙ can.said)

  not_full : (h : List Entry) → admitted [] (entries_in input) ≡ stops_at h → ⊥
  not_full h e = stops≢takes (sym e ∙ room_for)

  not_bad_store : (n : ℕ) → FirstBad told new_document n → ⊥
  not_bad_store n b =
      let t = subst (λ o. FirstBad o new_document n) can.are_told b in bad≢opens (sym t.told_first ∙ can.good)

  -- how a replay ends whose input can be answered whole
  module _ (left : Option (List ℕ)) (h : List Entry) (w w' : Option (List ℕ)) (now : Option (List (List ℕ))) (before after : ℕ) (stood : Stood before after) {Read Written : Type 0} (read : Read → ⊥) (written : Written → ⊥) where
    pub complete : (status : Status) → Replays status (Some input) left h w w' told now before after
        → (status ≡ Usage → ⊥) → ((n : ℕ) → status ≡ BadStore n → FirstBad told new_document n)
        → (status ≡ ReadFault → Read) → (status ≡ WriteFault → Written) → (status ≡ StoreFault → Rose before after) → IsComplete status h
    complete Done r u b rf wf sf = none_failed before (not_kept h) after r.keeper.faults stood
    complete Usage r u b rf wf sf = absurd (u refl)
    complete (BadUsers n) r u b rf wf sf = let f = r.input input refl in absurd (not_bad_users n f.bad)
    complete ReadFault r u b rf wf sf = absurd (read (rf refl))
    complete WriteFault r u b rf wf sf = absurd (written (wf refl))
    complete StoreFault r u b rf wf sf = absurd (stood (sf refl))
    complete NoMemory r u b rf wf sf = tt
    complete (BadStore n) r u b rf wf sf = absurd (not_bad_store n (b n refl))
    complete TurnsSpent r u b rf wf sf = let c = r.run.came in let n = few_came input left c.came c.consumed can.few in absurd (omega (arith, n, c.few))
    complete PortFault r u b rf wf sf = absurd (r.input input refl)
    complete HistoryFull r u b rf wf sf = let f = r.input input refl in absurd (not_full (all_asked h) f.stopped)

pub completeness : CompletenessLaw
completeness status input left h w w' told now read read' wrote wrote' kept kept' can reads writes keeps did u b rf wf sf =
    complete input told can left h w w' now kept kept' keeps reads writes status did u b rf wf sf
