use Rattle.std.proofs.Common.{◌<◌, ◌∙◌, ◌+◌, ap, length, refl, sym, arith}
use Rattle.std.proofs.lemmas.Option.{slice_get_within}
use Rattle.std.specs.Str.{bytes_eq}
use Rattle.recalc.proofs.WalkLemmas.{table_read}
use Rattle.affected_search.proofs.DescribedTables.{row_found, table_absent, table_passed}
use Rattle.affected_search.proofs.described.table_described.Goals as goal

pub returns-then-eq : goal.returns-then-eq
returns-then-eq g c whole =
    c.in_ok-vec.ensures.items
    ∙ row_found (g.R.DocReader.document c.args.tables.now) c.args.table.now c.loop-id.index c.loop-id.invariant c.in-Some.id.now c.in-Some.ensures.told
    (sym (ap (λ n. bytes_eq n c.args.table.now) c.as_str.ensures.value) ∙ sym (ap (bytes_eq c.as_str.result.now) c.as_str-in-Some.ensures.value) ∙ sym c.eq.ensures ∙ c.if-eq.true)
    c.row_at.result (c.row_at.ensures whole)

pub loop-id-smaller : goal.loop-id-smaller
loop-id-smaller g c =
    let s = g.R.DocReader.document c.args.tables.now in
    let t = table_read s c.loop-id.index c.in-Some.id.now c.in-Some.ensures.told in
    let within : c.loop-id.index < length s = slice_get_within s c.loop-id.index t.0 t.1 in
    omega (arith, within)

pub loop-id-preserved : goal.loop-id-preserved
loop-id-preserved g c =
    table_passed (g.R.DocReader.document c.args.tables.now) c.args.table.now c.loop-id.index c.loop-id.invariant c.in-Some.id.now c.in-Some.ensures.told
    (sym (ap (λ n. bytes_eq n c.args.table.now) c.as_str.ensures.value) ∙ sym (ap (bytes_eq c.as_str.result.now) c.as_str-in-Some.ensures.value) ∙ sym c.eq.ensures ∙ c.if-eq.false)
    (c.loop-id.index + 1) refl

pub returns : goal.returns
returns g c whole =
    c.new.ensures.items ∙ table_absent (g.R.DocReader.document c.args.tables.now) c.args.table.now c.loop-id.index c.loop-id.invariant c.in_default.ensures.told
