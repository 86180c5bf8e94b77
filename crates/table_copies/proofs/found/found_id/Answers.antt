use Rattle.std.proofs.Common.{sym, ap, ◌∙◌}
use Rattle.std.specs.Str.{bytes_eq}
use Rattle.table_copies.proofs.FoundLemmas.{table_absent, table_passed}
use Rattle.table_copies.proofs.found.found_id.Goals as goal

pub loop-id-preserved : goal.loop-id-preserved
loop-id-preserved g c =
    table_passed (g.D.DocReader.document c.args.tables.now) c.args.table.now c.loop-id.index c.in-Some.id.now c.in-Some.ensures.told
    (sym (ap (λ n. bytes_eq n c.args.table.now) c.as_str.ensures.value) ∙ sym c.eq.ensures ∙ c.if-eq.false) c.loop-id.invariant

pub returns : goal.returns
returns g c =
    table_absent (g.D.DocReader.document c.args.tables.now) c.args.table.now c.loop-id.index c.in_default.ensures.told c.loop-id.invariant
