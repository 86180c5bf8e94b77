use Rattle.std.proofs.Common.{◌∙◌, rules}
use Rattle.agreeing_contexts.proofs.LoadedLemmas.{fields_next}
use Rattle.agreeing_contexts.proofs.loading.fields_in.Goals as goal

pub loop-row-preserved : goal.loop-row-preserved
loop-row-preserved g c =
    fields_next (g.D.DocReader.document c.args.tables.now) c.args.rows.now c.loop-row.row-index _ c.loop-row.fields c.note_rule.new.fields c.loop-row-test.true (search rules) c.in_ok-note_rule.ensures
    ∙ c.loop-row.invariant
