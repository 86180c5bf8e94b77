use Rattle.std.proofs.Common.{◌∙◌, sym, ap, unwrap_or}
use Rattle.recalc.specs.Kept.{held_at}
use Rattle.affected_values.specs.Taken.{taken_of}
use Rattle.affected_values.proofs.TakenLemmas.{back_next}
use Rattle.affected_values.proofs.taking.put_values_back.Goals as goal

pub putting-preserved : goal.putting-preserved
putting-preserved g c =
    let s = g.D.DocReader.document c.args.tables.now in
    record {
      of_document = c.put_back.ensures.of_document;
      back = λ d there. back_next c.pop.new.self.items c.in-Some.held (held_at s c.putting.kept.items) (held_at s c.put_back.new.kept.items) d (c.put_back.ensures.put d there)
          ∙ ap (λ l. unwrap_or (taken_of l d) (held_at s c.putting.kept.items d)) (sym c.in-Some.ensures.items)
          ∙ c.putting.invariant.back d there;
    }
