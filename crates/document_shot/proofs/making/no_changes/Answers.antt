use Rattle.std.proofs.Common.{◌≡◌, false, refl, sym, ap}
use Rattle.doc_model.specs.Apply.{apply_all}
use Rattle.document_shot.proofs.MakingLemmas.{nothing_leads}
use Rattle.document_shot.proofs.making.no_changes.Goals as goal

pub returns-clause-leads : goal.returns-clause-leads
returns-clause-leads c = λ s. record {
  document = ap (λ l. apply_all s l) (sym c.new.ensures);
  values = nothing_leads s (record { anew = false; cells = c.new-2.result; values = c.new-3.result; gone = c.new-4.result }) refl c.new-2.ensures.items c.new-4.ensures.items;
}
