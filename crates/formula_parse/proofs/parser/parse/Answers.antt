use Rattle.std.proofs.lemmas.Result.{err_from_is_err_and}
use Rattle.formula_parse.proofs.Clauses.{tree_only, nothing_only}
use Rattle.formula_parse.proofs.FormulaOfLemmas.{formula_none, formula_read, formula_empty}
use Rattle.formula_parse.proofs.parser.parse.Goals as goal

pub returns-in-Some-clause-only : goal.returns-in-Some-clause-only
returns-in-Some-clause-only c = tree_only c.args.text.now c.in_ok-tree.field-0 c.in_ok-tree.ensures.only c.in-Some.tree c.in-Some.is

pub returns-in_ok-of-in-None-clause-only : goal.returns-in_ok-of-in-None-clause-only
returns-in_ok-of-in-None-clause-only c = nothing_only c.args.text.now c.in_ok-tree.field-0 c.in_ok-tree.ensures.only c.in-None.is c.in_ok-of-in-None.field-0 c.in_ok-of-in-None.ensures

pub returns-in_err-tree-clause-none : goal.returns-in_err-tree-clause-none
returns-in_err-tree-clause-none c =
    let p = err_from_is_err_and c.from_residual.result c.from_residual.ensures.1 in
    rw (p.1, p.2) (formula_none c.args.text.now c.in_err-tree.field-0.0 c.in_err-tree.ensures.fault)

pub returns-in-Some-clause-formula : goal.returns-in-Some-clause-formula
returns-in-Some-clause-formula c = formula_read c.args.text.now c.in_ok-tree.field-0 c.in_ok-tree.ensures.spells c.in-Some.tree c.in-Some.is

pub returns-in_ok-of-in-None-clause-formula : goal.returns-in_ok-of-in-None-clause-formula
returns-in_ok-of-in-None-clause-formula c = formula_empty c.args.text.now c.in_ok-tree.field-0 c.in_ok-tree.ensures.spells c.in-None.is c.in_ok-of-in-None.field-0 c.in_ok-of-in-None.ensures
