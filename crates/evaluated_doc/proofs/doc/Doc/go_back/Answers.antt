use Rattle.std.proofs.Common.{ap, sym, subst}
use Rattle.doc_model.specs.DocumentLaws.{IsWhole}
use Rattle.evaluated_doc.specs.WayBack.{Changed}
use Rattle.evaluated_doc.proofs.doc.Doc.go_back.Goals as goal

pub invariant_of-self : goal.invariant_of-self
invariant_of-self g c = (
  subst IsWhole (sym c.go_back_to.ensures.back)
      (subst (λ b. IsWhole (g.D.DocTables.undone b (g.D.DocReader.document c.self.inside.tables))) (sym (ap (λ (t : Changed _). t.back) c.trace.view_is))
      (subst (λ d. IsWhole (g.D.DocTables.undone c.args.trace.back (g.D.DocReader.document d))) (sym c.self.view_is) c.requires.whole)),
  c.go_back_to.ensures.current,
  c.go_back_to.ensures.known,
  c.enter_behind.ensures,
)
