use Rattle.std.proofs.Common.{◌≤◌, subst, sym}
use Rattle.std.proofs.lemmas.Result.{err_from_is_err_and}
use Rattle.acl_formula.specs.Room.{whole_room, most_room}
use Rattle.acl_formula.proofs.FormulaTexts.{spelled_formula, lacks_formula}
use Rattle.acl_formula.proofs.RoomLemmas.{some_room}
use Rattle.acl_formula.proofs.rule_tree.parse_rule.Goals as goal

pub returns-in_err-formula-clause-none : goal.returns-in_err-formula-clause-none
returns-in_err-formula-clause-none c =
    let p = err_from_is_err_and c.from_residual.result c.from_residual.ensures.1 in
    rw (p.1, p.2) (lacks_formula c.args.text.now c.in_err-formula.field-0.0 c.in_err-formula.ensures.fault)

pub whole_room-room-requires : goal.whole_room-room-requires
whole_room-room-requires c = some_room c.args.text.now c.utf8.text c.in_ok-formula.formula c.in_ok-formula.ensures.spells

pub invariant_of-result : goal.invariant_of-result
invariant_of-result c =
    let h : whole_room c.in_ok-formula.formula ≤ most_room = some_room c.args.text.now c.utf8.text c.in_ok-formula.formula c.in_ok-formula.ensures.spells in
    (c.in_ok-mentions.ensures, c.whole_room-room.ensures, subst (λ n. n ≤ most_room) (sym c.whole_room-room.ensures) h)

pub returns-clause-formula : goal.returns-clause-formula
returns-clause-formula c = spelled_formula c.args.text.now c.in_ok-formula.formula c.in_ok-formula.ensures.spells
