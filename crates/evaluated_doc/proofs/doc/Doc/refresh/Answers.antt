use Rattle.recalc.specs.Kept.{IsEvaluated}
use Rattle.evaluated_doc.proofs.RefreshedLemmas.{right_outside}
use Rattle.evaluated_doc.proofs.TouchedLemmas.{evaluated_still}
use Rattle.evaluated_doc.proofs.doc.Doc.refresh.Goals as goal

pub invariant_of-self : goal.invariant_of-self
invariant_of-self g c =
    let s = g.D.DocReader.document c.self.inside.tables in
    (c.self.invariant.0, c.self.invariant.1, c.put_owed.ensures.known s c.self.invariant.2, c.self.invariant.3)

pub invariant_of-self-in_default : goal.invariant_of-self-in_default
invariant_of-self-in_default g c =
    let s = g.D.DocReader.document c.self.inside.tables in
    (c.self.invariant.0, c.self.invariant.1, c.put_owed.ensures.known s c.self.invariant.2, c.self.invariant.3)

pub refresh_touched-requires-clause-known : goal.refresh_touched-requires-clause-known
refresh_touched-requires-clause-known g c = c.in_ok-put_owed.ensures.exact (g.D.DocReader.document c.self.inside.tables) c.self.invariant.2

pub refresh_touched-requires-clause-others : goal.refresh_touched-requires-clause-others
refresh_touched-requires-clause-others g c =
    let s = g.D.DocReader.document c.self.inside.tables in
    let before : IsEvaluated s c.in-Some.kept.items = rw c.in-Some.is at c.self.invariant.1 in
    right_outside s c.in-Some.kept.items c.args.touched.now.reads c.args.touched.now.cells before

pub invariant_of-self-2 : goal.invariant_of-self-2
invariant_of-self-2 g c =
    let s = g.D.DocReader.document c.self.inside.tables in
    let before : IsEvaluated s c.in-Some.kept.items = rw c.in-Some.is at c.self.invariant.1 in (
      c.self.invariant.0,
      evaluated_still s c.refresh_touched.new.kept.items c.in-Some.kept.items c.refresh_touched.result c.refresh_touched.ensures.evaluated c.refresh_touched.ensures.err before c.refresh_touched.ensures.of_document,
      c.refresh_touched.ensures.known,
      c.refresh_touched.ensures.indexed,
    )
