-- How an entry is answered, with what is told of the keeper.
use Rattle.std.specs.Prelude.{ℕ, ◌+◌, ◌≡◌, List, map, IfSome, ⊤}
use Rattle.io_edges.specs.Causes.{Rose}
use Rattle.doc_model.specs.declared.entry.Entry.{Entry}
use Rattle.doc_model.specs.declared.refusal.Refusal.TheVariants.{StoreFault}
use Rattle.doc_model.specs.declared.user.User.{User}
use Rattle.doc_model.specs.Document.{Document}
use Rattle.bundle_records.specs.Ledger.{AddsNext, IsNextRecord, Ledger, OpensTo}
use Rattle.user_actions.specs.StepLaws.{action_of}
use Rattle.bundle_core.specs.Replies.{reply_of}
use Rattle.bundle_core.specs.declared.bundle.Acceptance.{Acceptance}
use Rattle.bundle_core.specs.declared.bundle.Acceptance.TheVariants as acceptance
use Rattle.bundle_judge.specs.declared.judging.BundlePlan.{BundlePlan}
use Rattle.bundle_core.specs.Dispatch.{AreSame, Answers, Bundles, Stays, bundle_reply, state_of}
use Rattle.bundle_judge.specs.JudgedBundles.{after_steps, told_changes}
use Rattle.bundle_judge.specs.Losses.{all_lost}
use Rattle.bundle_core.specs.KeptCore.{Keeps}
use Rattle.bundle_core.specs.Noting.{note_of}
use Rattle.bundle_core.specs.SessionState.{SessionState}
use Rattle.bundle_core.specs.State.{refusal}

-- the entry is answered with these lines, and leads to this document, these sessions and this
-- ledger, whose records lead to the document where they did before
pub record IsTurn (users : List User) (s s' : Document) (sessions sessions' : List SessionState)
    (old new : Ledger) (e : Entry) (lines : List (List ℕ)) : Type 0 where
  pub answers : Answers users s s' sessions sessions' e lines
  pub keeps : Keeps users (state_of s sessions) e old new
  pub reopens : OpensTo old.told s → OpensTo new.told s'

-- the session of that index was given what waited and the reply, though lines had been made ready
pub record Refuses (old new : List SessionState) (index : ℕ) (reply : List ℕ)
    (lines : List (List ℕ)) : Type 0 where
  pub prepared : List SessionState
  pub same : AreSame old prepared
  pub stays : Stays prepared new index reply lines

-- an accepted bundle is done and kept
pub record IsDone (s s' : Document) (old new : List SessionState) (was now : Ledger) (index : ℕ)
    (p : BundlePlan) (lines : List (List ℕ)) : Type 0 where
  pub document : s' ≡ after_steps s p.steps
  pub sessions : Bundles old new index (told_changes s (map action_of p.steps)) (note_of s p)
      (bundle_reply old index p.undone (after_steps s p.steps) p.created.items) lines
  pub line : List ℕ
  pub next : IsNextRecord was.told (map action_of p.steps) line
  pub adds : AddsNext was.told now.told line
  pub count : now.count ≡ was.count + 1

-- an accepted bundle is not done, since the keeper failed
pub record IsUnkept (s s' : Document) (old new : List SessionState) (was now : Ledger) (index : ℕ)
    (lines : List (List ℕ)) : Type 0 where
  pub document : s' ≡ s
  pub sessions : Refuses old new index (reply_of (refusal StoreFault)) lines
  pub told : now.told ≡ was.told
  pub count : now.count ≡ was.count
  pub failed : Rose was.faults now.faults

-- what becomes of an accepted bundle
abbrev pub IsAcceptance : Document → Document → List SessionState → List SessionState → Ledger
    → Ledger → ℕ → BundlePlan → Acceptance → Type 0
IsAcceptance s s' old new was now index p (acceptance.Done lines lost) =
    IsDone s s' old new was now index p lines.items
IsAcceptance s s' old new was now index p (acceptance.Unkept lines) =
    IsUnkept s s' old new was now index lines.items

-- where it is told what the steps of an accepted bundle lost, it is what they did
abbrev pub TellsLost : Document → BundlePlan → Acceptance → Type 0
TellsLost s p (acceptance.Done lines lost) =
    IfSome lost (λ ls. map (λ cells. cells.items) ls.items ≡ all_lost s (map action_of p.steps))
TellsLost s p (acceptance.Unkept lines) = ⊤
