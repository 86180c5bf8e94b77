use Rattle.std.proofs.Common.{◌≡◌, ◌&&◌, not, true, false, sym, ◌∙◌}
use Rattle.recalc.specs.Evaluated.{filled}
use Rattle.acl_checks.specs.Unchecked.{are_unchecked}
use Rattle.bundle_judge.proofs.CheckLemmas.{checked_step, unchecked_step}
use Rattle.bundle_judge.proofs.checking.do_between.Goals as goal

pub returns-then-is_checked-clause-denied : goal.returns-then-is_checked-clause-denied
returns-then-is_checked-clause-denied g c =
    let s = g.D.DocReader.document c.args.doc.now in
    let is : (c.args.step.now.direct && not (are_unchecked c.args.ctx.now)) ≡ true = sym c.is_checked.ensures ∙ c.if-is_checked.true in
    checked_step c.args.ctx.now s (g.D.DocReader.document c.do_one.new.doc) c.args.step.now _ is c.in_ok-do_one.ensures.done
    (c.after_step.ensures (filled s) c.in_ok-before.ensures)

pub returns-clause-denied : goal.returns-clause-denied
returns-clause-denied g c =
    let isnt : (c.args.step.now.direct && not (are_unchecked c.args.ctx.now)) ≡ false = sym c.is_checked.ensures ∙ c.if-is_checked.false in
    sym (unchecked_step c.unchecked_law.ensures c.args.ctx.now (g.D.DocReader.document c.args.doc.now) c.args.step.now isnt)
