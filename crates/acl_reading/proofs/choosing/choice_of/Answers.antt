use Rattle.std.proofs.Common.{◌∙◌, ap, refl, sym}
use Rattle.acl_reading.specs.Choosing.{choice_says}
use Rattle.acl_reading.proofs.ChoosingLemmas.{asked, for_all}
use Rattle.acl_reading.proofs.choosing.choice_of.Goals as goal

pub returns-in-Some : goal.returns-in-Some
returns-in-Some c = λ row.
    asked c.args.user.now row c.args.rule.now c.has-denies.result (sym c.tells_of_reading.ensures ∙ c.if-not-tells_of_reading.false) (sym c.has-denies.ensures)
    (record { formula = c.in-Some.formula; denies = c.has-denies.result }) c.in-Some.ensures refl

pub returns-in-None : goal.returns-in-None
returns-in-None c = λ row.
    ap (choice_says c.args.user.now row) c.choice_for_all.ensures
    ∙ for_all c.args.user.now row c.args.rule.now c.has-denies.result (sym c.tells_of_reading.ensures ∙ c.if-not-tells_of_reading.false) (sym c.has-denies.ensures) c.in-None.ensures
