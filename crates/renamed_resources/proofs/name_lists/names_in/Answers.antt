use Rattle.std.proofs.Common.{arith}
use Rattle.renamed_resources.proofs.TextLemmas.{passed_over}
use Rattle.renamed_resources.proofs.name_lists.names_in.Goals as goal

pub returns : goal.returns
returns c =
    passed_over c.args.text.now c.loop-count.names c.loop-count.rest.now c.loop-count.invariant.0
    (omega (arith, c.loop-count-test.false, c.loop-count.invariant.2))
