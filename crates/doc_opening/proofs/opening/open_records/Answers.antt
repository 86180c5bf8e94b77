use Rattle.std.proofs.Common.{◌≡◌, true, false, ◌∙◌, subst, ap, Err, arith}
use Rattle.doc_opening.specs.declared.opening.StartCause.TheVariants.{BadStore}
use Rattle.doc_opening.specs.Loading.{Leads, Takes}
use Rattle.doc_opening.proofs.OpeningLemmas.{bad_at, last_opens, next_leads}
use Rattle.doc_opening.proofs.opening.open_records.Goals as goal

pub returns-in-Err-clause-bad : goal.returns-in-Err-clause-bad
returns-in-Err-clause-bad g c = λ n e.
    let same : c.in-Err.cause ≡ BadStore n = cc e in
    let l = c.loop-number in
    bad_at (g.K.Keeper.records c.args.keeper.now) (g.K.Keeper.records l.keeper) l.invariant.0 (g.D.DocReader.document c.args.tables.now) (g.D.DocReader.document l.tables) (g.D.DocReader.document c.take_next.new.tables) l.number l.invariant.2 n (c.in-Err.ensures.bad n (ap (λ x. Err x) same))

pub loop-number-preserved : goal.loop-number-preserved
loop-number-preserved g c =
    let l = c.loop-number in
    let now = g.K.Keeper.records l.keeper in
    let s = g.D.DocReader.document l.tables in
    let new = g.D.DocReader.document c.take_next.new.tables in
    let t : Takes now s new l.number true = subst (λ b. Takes now s new l.number b) c.in-Ok-true.field-0-test c.in-Ok-true.ensures.ok in (
      c.in-Ok-true.ensures.same ∙ l.invariant.0,
      omega (arith, c.in-Ok-true.ensures.later, l.invariant.1),
      next_leads (g.K.Keeper.records c.args.keeper.now) now l.invariant.0 (g.D.DocReader.document c.args.tables.now) s new l.number l.invariant.2 t,
      c.in-Ok-true.ensures.whole,
    )

pub returns-in-Ok-false-take_next-clause-ok : goal.returns-in-Ok-false-take_next-clause-ok
returns-in-Ok-false-take_next-clause-ok g c =
    let l = c.loop-number in
    let z : l.number ≡ 4294967295 = omega (arith, c.loop-number-test.false, l.auto.number-end) in
    let told = g.K.Keeper.records c.args.keeper.now in
    let now = g.K.Keeper.records l.keeper in
    let first = g.D.DocReader.document c.args.tables.now in
    let s = g.D.DocReader.document l.tables in
    let new = g.D.DocReader.document c.take_next-2.new.tables in
    let t : Takes now s new 4294967295 false = subst (λ b. Takes now s new 4294967295 b) c.in-Ok-false-take_next.field-0-test c.in-Ok-false-take_next.ensures.ok in
    last_opens told now l.invariant.0 first s new 4294967295 (subst (λ n. Leads told first s n) z l.invariant.2) t

pub returns-in-Err-take_next-clause-bad : goal.returns-in-Err-take_next-clause-bad
returns-in-Err-take_next-clause-bad g c = λ n e.
    let l = c.loop-number in
    let same : c.in-Err-take_next.cause ≡ BadStore n = cc e in
    let z : l.number ≡ 4294967295 = omega (arith, c.loop-number-test.false, l.auto.number-end) in
    let told = g.K.Keeper.records c.args.keeper.now in
    let first = g.D.DocReader.document c.args.tables.now in
    let s = g.D.DocReader.document l.tables in
    bad_at told (g.K.Keeper.records l.keeper) l.invariant.0 first s (g.D.DocReader.document c.take_next-2.new.tables) 4294967295 (subst (λ m. Leads told first s m) z l.invariant.2) n (c.in-Err-take_next.ensures.bad n (ap (λ x. Err x) same))
