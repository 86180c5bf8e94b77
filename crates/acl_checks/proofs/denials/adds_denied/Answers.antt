use Rattle.std.proofs.Common.{rules}
use Rattle.acl_checks.specs.BeforeStep.{row_of}
use Rattle.acl_checks.proofs.DenialLemmas.{add_denied, add_passed}
use Rattle.acl_checks.proofs.denials.adds_denied.Goals as goal

pub returns-in-Some : goal.returns-in-Some
returns-in-Some g c =
    add_denied c.args.ctx.now (g.D.DocReader.document c.args.tables.now) c.args.table.now c.args.columns.now c.args.rows.now c.loop-row.row-index _ c.loop-row-test.true (search rules) (row_of c.in-Some.rule) c.in-Some.ensures c.loop-row.invariant

pub loop-row-preserved : goal.loop-row-preserved
loop-row-preserved g c =
    add_passed c.args.ctx.now (g.D.DocReader.document c.args.tables.now) c.args.table.now c.args.columns.now c.args.rows.now c.loop-row.row-index _ c.loop-row-test.true (search rules) c.in_default.ensures c.loop-row.invariant
