use Rattle.std.proofs.Common.{rules, ◌≡◌, ◌+◌, ◌∷◌, sym, ap, ◌∙◌}
use Rattle.doc_model.specs.declared.entry.Entry.{Entry}
use Rattle.doc_model.specs.WellFormed.{asks_well_formed}
use Rattle.run_generator.specs.Left.{updates_from}
use Rattle.run_generator.specs.Script.{updates_row, bundle, second_asks}
use Rattle.run_generator.proofs.MakingLemmas.{stays, stays_there}
use Rattle.run_generator.proofs.ScriptLemmas.{left_updates}
use Rattle.run_generator.proofs.generator.update_row.Goals as goal

pub returns : goal.returns
returns c =
    let rows = c.args.rows in
    let row = c.args.row in
    let entry : Entry = c.in_ok-second_asks.field-0 in
    let is : entry ≡ second_asks (bundle (updates_row rows row)) = search rules in
    record {
      left = left_updates rows row c.requires.stage.1
          ∙ ap (λ e. e ∷ updates_from rows (row + 1)) (sym is)
          ∙ ap (λ l. entry ∷ l) (sym c.behind_update.ensures.left);
      number = search rules;
      next = c.behind_update.ensures.stage c.in_ok-action.field-0.number c.in_ok-action.ensures.drawn;
      well_formed = ap (λ (e : Entry). asks_well_formed e.request) is;
      kept = ap (λ (e : Entry). e.kept) is;
      stays = stays_there entry.request (ap (λ (e : Entry). stays e.request) is);
    }
