use Rattle.std.proofs.Common.{rules, ◌≡◌, true, false, ◌∙◌, ap, sym, arith}
use Rattle.name_rules.specs.FreeName.{is_taken, numbered, free_name}
use Rattle.name_rules.proofs.FreeNumbers.{not_all_taken, free_name_is}
use Rattle.name_rules.proofs.free_id.free_name.Goals as goal

pub returns-then-not-is_taken-clause-ok : goal.returns-then-not-is_taken-clause-ok
unfolding free_name
returns-then-not-is_taken-clause-ok c = search rules

pub returns-then-not-is_taken-2-clause-ok : goal.returns-then-not-is_taken-2-clause-ok
returns-then-not-is_taken-2-clause-ok c =
    let taken : is_taken c.args.taken.now c.args.wanted.now ≡ true = cc in
    let name = c.as_str-in-loop-number.ensures.value ∙ c.in_ok-name.ensures.spelled in
    let free : is_taken c.args.taken.now (numbered c.args.wanted.now c.loop-number.number) ≡ false =
    ap (λ text. is_taken c.args.taken.now text) (sym name) ∙ sym c.is_taken-in-loop-number.ensures ∙ c.if-not-is_taken-2.true in
    c.in_ok-name.ensures.spelled
    ∙ free_name_is c.args.taken.now c.args.wanted.now c.loop-number.number taken (omega arith) (omega arith) c.loop-number.invariant free

pub unreachable-requires : goal.unreachable-requires
unreachable-requires c = not_all_taken c.args.taken.now c.args.wanted.now (omega arith) (λ j from to. c.loop-number.invariant j from (omega arith))
