use Rattle.std.proofs.Common.{ℕ, ◌≡◌, ◌+◌, ◌<◌, List, drop, take, set, length, ◌∙◌, arith}
use Rattle.std.proofs.lemmas.List.{length-set}
use Rattle.row_tables.specs.InPlace.{written, written_back}
use Rattle.column_store.specs.declared.written.Write.{Write}
use Rattle.row_tables.proofs.WrittenLaws.{swap_step}
use Rattle.column_store.proofs.written.swap_cells.Goals as goal

pub loop-index-preserved : goal.loop-index-preserved
loop-index-preserved c =
    let i : ℕ = c.loop-index.index in
    let all : List Write = c.args.writes.now.items in
    let ws : List Write = c.loop-index.writes.items in
    let kept = c.args.writes.now.ok.0 in
    let end = c.len-index-end.ensures in
    let before = c.loop-index-test.true in
    let len = c.loop-index.invariant.1 in
    let within : i < length ws = omega arith in
    let h : (drop (i + 1) (set ws i c.swap_cell.new.write) ≡ drop (i + 1) all) × (written (drop (i + 1) all) c.swap_cell.new.cells.rows ≡ written all c.args.cells.now.rows)
    × (written_back (take (i + 1) (set ws i c.swap_cell.new.write)) c.swap_cell.new.cells.rows ≡ c.args.cells.now.rows)
    = swap_step all ws c.args.cells.now.rows c.loop-index.cells.rows c.swap_cell.new.cells.rows i c.index_mut.result.now c.swap_cell.new.write within c.index_mut.ensures.value
    c.swap_cell.ensures.cells c.swap_cell.ensures.row c.swap_cell.ensures.column c.swap_cell.ensures.value c.loop-index.invariant.0 c.loop-index.invariant.2 c.loop-index.invariant.3 in
    (h.0, length-set ws i c.swap_cell.new.write ∙ len, h.1, h.2, c.swap_cell.ensures.width ∙ c.loop-index.invariant.4)
