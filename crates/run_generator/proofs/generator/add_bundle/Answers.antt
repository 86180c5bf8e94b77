use Rattle.std.proofs.Common.{rules, ◌≡◌, ◌+◌, ◌++◌, ◌∷◌, sym, ap, ◌∙◌}
use Rattle.doc_model.specs.declared.entry.Entry.{Entry}
use Rattle.doc_model.specs.WellFormed.{asks_well_formed}
use Rattle.run_generator.specs.Left.{adds_from}
use Rattle.run_generator.specs.Script.{adds_rows, bundle, first_asks, pause_after}
use Rattle.run_generator.proofs.MakingLemmas.{stays, stays_there}
use Rattle.run_generator.proofs.ScriptLemmas.{adds_well_formed, left_adds}
use Rattle.run_generator.proofs.generator.add_bundle.Goals as goal

pub returns : goal.returns
returns c =
    let rows = c.args.rows in
    let number = c.args.bundle_number in
    let entry : Entry = c.in_ok-first_asks.field-0 in
    let is : entry ≡ first_asks (bundle (adds_rows rows number)) = search rules in
    record {
      left = left_adds rows number c.requires.stage.0
          ∙ ap (λ e. e ∷ (pause_after number ++ adds_from rows (number + 1))) (sym is)
          ∙ ap (λ l. entry ∷ l) (sym c.behind_bundle.ensures.left);
      number = search rules;
      next = c.behind_bundle.ensures.stage c.in_ok-action.field-0.number c.in_ok-action.ensures.drawn;
      well_formed = ap (λ (e : Entry). asks_well_formed e.request) is ∙ adds_well_formed rows number;
      kept = ap (λ (e : Entry). e.kept) is;
      stays = stays_there entry.request (ap (λ (e : Entry). stays e.request) is);
    }
