use Rattle.std.proofs.Common.{◌≡◌, ◌∙◌, length, rules}
use Rattle.recalc.specs.Kept.{blank_table, table_part}
use Rattle.recalc.proofs.WalkLemmas.{mapped_step, mapped_fewer, mapped_end, table_read, table_past}
use Rattle.recalc.proofs.WholeLemmas.{table_made}
use Rattle.recalc.proofs.blank.blank_tables.Goals as goal

pub loop-id-smaller : goal.loop-id-smaller
loop-id-smaller g c =
    let s = g.D.DocReader.document c.args.tables.now in
    let counts : c.len.result ≡ length c.loop-id.kept.items = search rules in
    let t = table_read s c.len.result c.in-Some.id.now c.in-Some.ensures.told in
    mapped_fewer table_part blank_table s c.loop-id.kept.items c.push.new.self.items c.len.result t.0 c.in_ok-blank_table.field-0 counts t.1
    (c.in_ok-blank_table.ensures ∙ table_made s c.requires c.len.result t.0 t.1 c.in-Some.id.now t.2) c.in_ok-push.ensures.items

pub loop-id-preserved : goal.loop-id-preserved
loop-id-preserved g c =
    let s = g.D.DocReader.document c.args.tables.now in
    let counts : c.len.result ≡ length c.loop-id.kept.items = search rules in
    let t = table_read s c.len.result c.in-Some.id.now c.in-Some.ensures.told in
    mapped_step table_part blank_table s c.loop-id.kept.items c.push.new.self.items c.len.result t.0 c.in_ok-blank_table.field-0 counts t.1
    (c.in_ok-blank_table.ensures ∙ table_made s c.requires c.len.result t.0 t.1 c.in-Some.id.now t.2) c.in_ok-push.ensures.items c.loop-id.invariant

pub returns : goal.returns
returns g c =
    let s = g.D.DocReader.document c.args.tables.now in
    let counts : c.len.result ≡ length c.loop-id.kept.items = search rules in
    mapped_end table_part blank_table s c.loop-id.kept.items c.len.result counts c.loop-id.invariant (table_past s c.len.result c.in_default.ensures.told)
