use Rattle.std.proofs.Common.{◌<◌, ◌∙◌, sym, ap, arith, length, Vec, Global}
use Rattle.std.proofs.lemmas.Option.{slice_get_within}
use Rattle.doc_readers.specs.Parts.{grid_at}
use Rattle.doc_readers.proofs.ColumnLemmas.{column_past, column_read}
use Rattle.user_actions.specs.declared.referrers.Referrer.{Referrer}
use Rattle.user_actions.specs.References.{is_referrer, put_referrer, put_referrers, referrers_among}
use Rattle.user_actions.proofs.ReferrerLemmas.{column_taken, column_left, columns_done}
use Rattle.user_actions.proofs.referrers.add_columns.Goals as goal
use Rattle.user_actions.proofs.referrers.add_columns.Goals.{then-is_referrer+in_ok-referrer_to+in_ok-put, else-is_referrer}

pub loop-column-smaller : goal.loop-column-smaller
loop-column-smaller g c =
    let cs = (grid_at (g.D.DocReader.document c.args.tables.now) c.args.table.now).columns in
    let within : c.loop-column.index < length cs = slice_get_within cs c.loop-column.index c.in-Some.column.now (column_read (g.D.DocReader.document c.args.tables.now) c.args.table.now c.loop-column.index c.in-Some.column.now c.in-Some.ensures.told) in
    omega (arith, within)

pub loop-column-preserved : goal.loop-column-preserved
loop-column-preserved g c =
    let s = g.D.DocReader.document c.args.tables.now in
    let cs = (grid_at s c.args.table.now).columns in
    let test = is_referrer c.args.old.now c.args.retypes in
    let i = c.loop-column.index in
    let d = c.in-Some.column.now in
    let at = column_read s c.args.table.now i d c.in-Some.ensures.told in
    let all = put_referrers (referrers_among c.args.id.now test cs) c.args.found.now.items in
    elim c.if-is_referrer.branch [
      | then-is_referrer+in_ok-referrer_to+in_ok-put w ↦
          column_taken c.args.id.now test cs i d at c.loop-column.found.items all c.loop-column.invariant c.if-is_referrer.found.items (sym c.is_referrer.ensures ∙ w.if-is_referrer.true)
          (ap (λ (v : Vec Referrer Global). v.items) w.found-is ∙ w.in_ok-put.ensures ∙ ap (λ k. put_referrer k c.loop-column.found.items) w.in_ok-referrer_to.ensures)
      | else-is_referrer w ↦
          column_left c.args.id.now test cs i d at c.loop-column.found.items all c.loop-column.invariant c.if-is_referrer.found.items (sym c.is_referrer.ensures ∙ w.if-is_referrer.false)
          (ap (λ (v : Vec Referrer Global). v.items) w.found-is)
    ]

pub returns : goal.returns
returns g c =
    let s = g.D.DocReader.document c.args.tables.now in
    columns_done c.args.id.now (is_referrer c.args.old.now c.args.retypes) (grid_at s c.args.table.now).columns c.loop-column.index c.loop-column.found.items _
    (column_past s c.args.table.now c.loop-column.index c.in_default.ensures.told) c.loop-column.invariant
