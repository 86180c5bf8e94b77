use Rattle.std.proofs.Common.{rules}
use Rattle.acl_checks.specs.BeforeStep.{row_of}
use Rattle.acl_checks.proofs.DenialLemmas.{update_denied, update_passed}
use Rattle.acl_checks.proofs.denials.updates_denied.Goals as goal

pub returns-in-Some : goal.returns-in-Some
returns-in-Some g c =
    update_denied c.args.ctx.now (g.D.DocReader.document c.args.tables.now) c.args.table.now c.args.columns.now c.args.kept.now c.loop-row.row-index c.row-item.result c.loop-row-test.true c.row-item.is (row_of c.in-Some.rule) c.in-Some.ensures c.loop-row.invariant

pub loop-row-preserved : goal.loop-row-preserved
loop-row-preserved g c =
    update_passed c.args.ctx.now (g.D.DocReader.document c.args.tables.now) c.args.table.now c.args.columns.now c.args.kept.now c.loop-row.row-index c.row-item.result c.loop-row-test.true c.row-item.is c.in_default.ensures c.loop-row.invariant
