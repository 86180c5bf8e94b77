use Rattle.std.proofs.Common.{◌≡◌, ◌∙◌, ◌+◌, ◌-◌, sym, ap, false, length}
use Rattle.user_actions.specs.Given.{has_number}
use Rattle.user_objections.proofs.NumberLemmas.{have_no_duplicates-drop, seen_more, seen_before, new_one}
use Rattle.user_objections.proofs.rows.have_no_duplicates.Goals as goal

pub returns-then-not-branch : goal.returns-then-not-branch
returns-then-not-branch c =
    let e : c.in_ok-note.field-0 ≡ false = c.if-not-branch.true in
    sym (have_no_duplicates-drop (length c.args.numbers.now - (c.loop-taken.taken + 1)) c.args.numbers.now
    (seen_before _ _ _ c.number_before.ensures (c.loop-taken.invariant.seen c.number_before.result.now) (sym e ∙ (c.in_ok-note.ensures).new)))

pub loop-taken-preserved : goal.loop-taken-preserved
loop-taken-preserved c = record {
  once = new_one _ _ _ c.number_before.ensures c.loop-taken.invariant.once (c.loop-taken.invariant.seen c.number_before.result.now) (sym c.if-not-branch.false ∙ (c.in_ok-note.ensures).new);
  seen = λ q. seen_more c.number_before.result.now q _ _ _ (c.in_ok-note.ensures.noted q) (c.loop-taken.invariant.seen q) ∙ ap (λ l. has_number l q) (sym c.number_before.ensures);
}
