use Rattle.std.proofs.Common.{sym, subst, Option}
use Rattle.formula_parse.specs.declared.fault.ParseFault.{ParseFault}
use Rattle.formula_parse.specs.declared.operator.Dialect.TheVariants as dialects
use Rattle.formula_parse.specs.Spelling.{FitsFault, SpellsIn}
use Rattle.formula_parse.specs.Tree.{Tree}
use Rattle.rename_flow.proofs.RuleTreeLemmas.{rule_lacks, spelled_rule}
use Rattle.rename_flow.proofs.text_change.rule_tree.Goals as goal

pub returns-in-Ok : goal.returns-in-Ok
returns-in-Ok c = sym (spelled_rule c.args.text.now c.in-Ok.formula c.in-Ok.ensures.spells)

pub returns-in-Err-Syntax : goal.returns-in-Err-Syntax
returns-in-Err-Syntax c =
    let fits = subst (λ (f : ParseFault). FitsFault c.args.text.now ((o : Option Tree) × SpellsIn dialects.Rule c.args.text.now o) f) c.in-Err-Syntax.field-0-is c.in-Err-Syntax.ensures.fault in
    sym (rule_lacks c.args.text.now fits.1)
