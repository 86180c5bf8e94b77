-- What the gate of a core with shots tells of a call.
use Rattle.session_gate.specs.Call.{IsCall}
use Rattle.bundle_core.specs.declared.machine.Event.{Event}
use Rattle.shot_core.specs.Machine.{IsShotGiven}
use Rattle.shot_core.specs.declared.machine.ShotOut.{ShotOut}
use Rattle.grist_serve.specs.Turns.{CorePass}
use Rattle.grist_serve.proofs.CallLemmas.{Called}

module _ (old new : CorePass) (event : Event) (out : ShotOut) (c : IsCall (λ o before after e out. IsShotGiven o before after e out) old new event out) where
  -- the core's answer
  pub call_given : Called old new event out.given
  call_given = record { opening = c.opening; opening_is = c.opening_is; between = c.between; apart = c.apart; ends = c.ends; answer = c.answer.given }
