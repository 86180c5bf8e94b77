use Rattle.std.proofs.Common.{◌≡◌, ◌+◌, ◌≤◌, ◌∙◌, [], length}
use Rattle.user_actions.specs.Steps.{new_columns}
use Rattle.user_actions.proofs.LoopLemmas.{next_row, fits_next, columns_more, fresh_more, columns_done, fresh_done}
use Rattle.user_actions.proofs.schema_steps.new_columns.Goals as goal

pub loop-column-preserved : goal.loop-column-preserved
loop-column-preserved c =
    let cs = c.args.columns.now in
    let i = c.loop-column.column-index in
    let item = c.column-item.result in
    let taken = c.loop-column.taken.items in
    let taken' = c.add_column.new.taken.items in
    let invariant = c.loop-column.invariant in
    let at : c.args.last + (i + 1) ≤ 4294967295 → c.saturating_add-row.result ≡ c.args.last + (i + 1) = next_row c.args.last i c.loop-column.row c.saturating_add-row.result c.saturating_add-row.ensures invariant.row in
    record {
      row = at;
      made = λ fits.
          columns_more cs i item taken taken' c.loop-column-test.true c.column-item.is c.in_ok-add_column.ensures.taken
          c.args.last c.saturating_add-row.result c.loop-column.made.items c.add_column.new.made.items (new_columns [] c.args.last cs) (at (fits_next c.args.last i (length cs) c.loop-column-test.true fits)) c.in_ok-add_column.ensures.made (invariant.made fits);
      fresh = λ rest. invariant.fresh (fresh_more cs i item taken taken' c.loop-column-test.true c.column-item.is c.in_ok-add_column.ensures.taken c.in_ok-add_column.ensures.fresh rest);
    }

pub returns : goal.returns
returns c = record {
  made = λ fits. c.from.ensures ∙ columns_done c.args.columns.now c.loop-column.column-index _ c.loop-column.taken.items c.loop-column.made.items _ c.loop-column-test.false (c.loop-column.invariant.made fits);
  fresh = c.loop-column.invariant.fresh (fresh_done c.args.columns.now c.loop-column.column-index c.loop-column.taken.items c.loop-column-test.false);
}
