use Rattle.std.proofs.Common.{ℕ, List, [], ◌≡◌, ◌∙◌, sym, ap, false, cond}
use Rattle.std.specs.Str.{bytes_eq}
use Rattle.doc_model.specs.declared.action.Step.{Step}
use Rattle.name_rules.specs.FreeName.{free_name}
use Rattle.user_actions.specs.Steps.{renaming, table_ids}
use Rattle.user_actions.proofs.schema_steps.rename_table_steps.Goals as goal

pub returns-clause-fresh : goal.returns-clause-fresh
returns-clause-fresh g c = λ _. c.in_ok-new.ensures.fresh

pub returns-clause-made : goal.returns-clause-made
returns-clause-made g c =
    let s = g.D.DocReader.document c.args.tables.now in
    let named : List ℕ → List Step = renaming s c.args.table.now in
    let differs : bytes_eq c.args.table.now c.args.new.now ≡ false = sym (ap (λ t. bytes_eq t c.args.new.now) c.as_str.ensures.value) ∙ sym c.if-eq.ensures in
    c.in_ok-steps.ensures ∙ ap named c.in_ok-new.ensures.made
    ∙ sym (ap (λ b. cond b [] (named (free_name (table_ids s) c.args.new.now))) differs)
