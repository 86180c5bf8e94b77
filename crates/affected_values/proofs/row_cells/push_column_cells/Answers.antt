use Rattle.std.proofs.Common.{◌≡◌, ◌∙◌, ◌+◌, ◌-◌, ◌++◌, ◌∷◌, [], ap, arith, map, reverse, take}
use Rattle.recalc.specs.Cells.{cell_of}
use Rattle.affected_values.proofs.RowCellLemmas.{pushed_back}
use Rattle.affected_values.proofs.row_cells.push_column_cells.Goals as goal

pub loop-index-preserved : goal.loop-index-preserved
loop-index-preserved c =
    let t = c.args.table.now in
    let column = c.args.column.now in
    let rows = c.args.rows.now in
    let back : c.loop-index.index - 1 + 1 ≡ c.loop-index.index = omega arith in (
      pushed_back t column c.loop-index.cells.items c.push.new.self.items rows (c.loop-index.index - 1) 0 (omega arith)
          (c.in_ok-push.ensures.items ∙ ap (λ cell. c.loop-index.cells.items ++ cell ∷ []) c.in_ok-cell_id.ensures)
          ∙ ap (λ i. c.loop-index.cells.items ++ map (cell_of t column) (reverse (take i rows))) back
          ∙ c.loop-index.invariant.0,
      omega arith,
    )
