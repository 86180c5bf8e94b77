use Rattle.std.proofs.Common.{Some, None, sym, ◌∙◌}
use Rattle.bundle_core.proofs.FrontLemmas.{front_beside, front_missing}
use Rattle.bundle_core.proofs.fronts.front_to.Goals as goal

pub returns-in_default : goal.returns-in_default
returns-in_default c told are = front_missing c.args.contexts.now told c.args.user.now (sym c.in_default.ensures.value)

pub returns-in-Some-get : goal.returns-in-Some-get
returns-in-Some-get c told are =
    c.as_ref.ensures.value
    ∙ front_beside c.args.contexts.now told c.args.fronts.now c.args.user.now c.in-Some.place (Some c.in-Some-get.front) are (sym c.in-Some.ensures.value) c.in-Some-get.ensures.lookup.0 c.in-Some-get.ensures.lookup.1

pub returns-in-None : goal.returns-in-None
returns-in-None c told are =
    front_beside c.args.contexts.now told c.args.fronts.now c.args.user.now c.in-Some.place None are (sym c.in-Some.ensures.value) c.in-None.ensures.lookup.0 c.in-None.ensures.lookup.1
