use Rattle.std.proofs.Common.{subst, sym}
use Rattle.session_gate.specs.Views.{PassView}
use Rattle.session_gate.specs.Call.{IsSureAt}
use Rattle.session_gate.proofs.gate.Gate.call.Goals as goal

pub returns-clause-sure : goal.returns-clause-sure
returns-clause-sure g c sure =
    c.take_turn.ensures.sure (subst (λ (p : PassView g.row.M-Entry.Denot g.row.M-Opening.Denot). IsSureAt g.M.Machine.takes g.M.Machine.answers g.M.Machine.is_sure p c.args.event) (sym c.pass.view_is) sure)
