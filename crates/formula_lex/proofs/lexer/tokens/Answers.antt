use Rattle.formula_lex.proofs.Clauses.{spells, only, in_order, slices, faulty}
use Rattle.formula_lex.proofs.lexer.tokens.Goals as goal

pub returns-clause-spells : goal.returns-clause-spells
returns-clause-spells c = spells c.args.text.now c.run.result c.run.ensures

pub returns-clause-only : goal.returns-clause-only
returns-clause-only c = only c.args.text.now c.run.result c.run.ensures

pub returns-clause-in_order : goal.returns-clause-in_order
returns-clause-in_order c = in_order c.args.text.now c.utf8.text c.run.result c.run.ensures

pub returns-clause-slices : goal.returns-clause-slices
returns-clause-slices c = slices c.args.text.now c.utf8.text c.run.result c.run.ensures

pub returns-clause-fault : goal.returns-clause-fault
returns-clause-fault c = faulty c.args.text.now c.run.result c.run.ensures
