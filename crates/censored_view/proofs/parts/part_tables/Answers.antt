use Rattle.std.proofs.Common.{◌+◌, refl}
use Rattle.censored_view.proofs.ColumnWalk.{columns_fewer}
use Rattle.censored_view.proofs.TableWalk.{part_end, part_next, table_new, table_past, table_read}
use Rattle.censored_view.proofs.parts.part_tables.Goals as goal

pub put_taken-requires-clause-new : goal.put_taken-requires-clause-new
put_taken-requires-clause-new g c =
    let s = g.D.DocReader.document c.args.tables.now in
    let t = table_read s c.loop-id.index c.in-Some.id.now c.in-Some.ensures.told in
    table_new (g.S.Selection.takes c.args.selection.now) (g.S.Selection.takes_row c.args.selection.now) (g.X.Lets.lets c.args.ctx.now) s c.requires c.loop-id.index t.0 t.1
    c.in-Some.id.now t.2 c.loop-id.shown.items c.loop-id.invariant

pub loop-id-smaller : goal.loop-id-smaller
loop-id-smaller g c =
    let s = g.D.DocReader.document c.args.tables.now in
    let t = table_read s c.loop-id.index c.in-Some.id.now c.in-Some.ensures.told in
    columns_fewer s c.loop-id.index (c.loop-id.index + 1) t.0 t.1 refl

pub loop-id-preserved : goal.loop-id-preserved
loop-id-preserved g c =
    let s = g.D.DocReader.document c.args.tables.now in
    let t = table_read s c.loop-id.index c.in-Some.id.now c.in-Some.ensures.told in
    part_next (g.S.Selection.takes c.args.selection.now) (g.S.Selection.takes_row c.args.selection.now) (g.X.Lets.lets c.args.ctx.now) s c.requires c.loop-id.index t.0 t.1
    c.in-Some.id.now t.2 c.loop-id.shown.items c.loop-id.invariant c.put_taken.new.shown.items c.in_ok-put_taken.ensures.put

pub returns : goal.returns
returns g c =
    let s = g.D.DocReader.document c.args.tables.now in
    part_end (g.S.Selection.takes c.args.selection.now) (g.S.Selection.takes_row c.args.selection.now) (g.X.Lets.lets c.args.ctx.now) s c.loop-id.index c.loop-id.shown.items
    (table_past s c.loop-id.index c.in_default.ensures.told) c.loop-id.invariant
