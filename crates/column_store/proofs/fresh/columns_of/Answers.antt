use Rattle.std.proofs.Common.{◌≡◌, length, rules, sym, ◌∙◌}
use Rattle.column_store.specs.New.{columns_in}
use Rattle.column_store.proofs.FreshLaws.{column_told, column_next, columns_left, columns_whole}
use Rattle.column_store.proofs.fresh.columns_of.Goals as goal

pub loop-column-smaller : goal.loop-column-smaller
loop-column-smaller c =
    let s = c.args.like.now in
    let id = c.args.table.now in
    let counts : c.len.result ≡ length c.loop-column.columns.items = search rules in
    columns_left (columns_in s id) c.loop-column.columns.items c.push.new.self.items c.in-Some.column.now c.len.result counts
    (sym (column_told s id c.len.result) ∙ c.in-Some.ensures.told) (search rules)

pub loop-column-preserved : goal.loop-column-preserved
loop-column-preserved c =
    let s = c.args.like.now in
    let id = c.args.table.now in
    let counts : c.len.result ≡ length c.loop-column.columns.items = search rules in
    column_next (columns_in s id) c.loop-column.columns.items c.push.new.self.items c.in-Some.column.now c.len.result counts
    (sym (column_told s id c.len.result) ∙ c.in-Some.ensures.told) (search rules) c.loop-column.invariant

pub returns : goal.returns
returns c =
    let s = c.args.like.now in
    let id = c.args.table.now in
    let counts : c.len.result ≡ length c.loop-column.columns.items = search rules in
    columns_whole (columns_in s id) c.loop-column.columns.items c.len.result counts c.loop-column.invariant
    (sym (column_told s id c.len.result) ∙ c.in_default.ensures.told)
