use Rattle.std.proofs.Common.{ap}
use Rattle.user_objections.specs.RuleRows.{given_or, row_named}
use Rattle.user_objections.proofs.RuleRowLemmas.{kept_before}
use Rattle.user_objections.proofs.rule_rows.row_after.Goals as goal

pub returns : goal.returns
returns c =
    ap (given_or c.args.table.now c.args.given.now c.args.index)
    (kept_before c.args.table.now c.cells_before-before.result (row_named c.args.rows.now c.args.index) c.cells_before-before.ensures)
