use Rattle.std.proofs.Common.{ℕ, List, [], ◌≡◌, ◌∙◌, sym, ap, false, cond}
use Rattle.std.specs.Str.{bytes_eq}
use Rattle.doc_model.specs.declared.action.Step.{Step}
use Rattle.name_rules.specs.FreeName.{free_name}
use Rattle.user_actions.specs.Steps.{column_ids, column_renaming}
use Rattle.user_actions.proofs.schema_steps.rename_column_steps.Goals as goal

pub returns-clause-fresh : goal.returns-clause-fresh
returns-clause-fresh g c = λ _. c.in_ok-new.ensures.fresh

pub returns-clause-made : goal.returns-clause-made
returns-clause-made g c =
    let s = g.D.DocReader.document c.args.tables.now in
    let named : List ℕ → List ℕ → List Step = column_renaming s c.args.table.now in
    let differs : bytes_eq c.args.column.now c.args.new.now ≡ false = sym c.if-eq.ensures in
    c.in_ok-steps.ensures ∙ ap (λ n. named n c.in_ok-new.new) c.in_ok-column.ensures ∙ ap (named c.args.column.now) c.in_ok-new.ensures.made
    ∙ sym (ap (λ b. cond b [] (named c.args.column.now (free_name (column_ids s c.args.table.now) c.args.new.now))) differs)
