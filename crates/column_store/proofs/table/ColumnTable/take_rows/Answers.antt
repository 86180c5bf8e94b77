use Rattle.std.proofs.Common.{ℕ, ◌≡◌, ◌+◌, length, vec_len, sym, subst, arith}
use Rattle.column_store.specs.Changes.{AreWide}
use Rattle.column_store.specs.Crossed.{AreRooms}
use Rattle.column_store.proofs.table.ColumnTable.take_rows.Goals as goal

pub returns-clause-fit : goal.returns-clause-fit
returns-clause-fit c =
    let left = c.take_out.ensures.rows_len in
    let counted = c.take_out.new.rows.ok.0 in
    let all = c.self.inside.columns.ok.0 in
    let room = c.in_ok-rows.ensures.capacity in
    let high = c.len.ensures in
    let wide = c.len-2.ensures in
    let tall = c.len-3.ensures in
    let many = c.in_ok-cells.ensures.length in
    let most : c.len-3.result ≡ length c.take_out.new.rows.items + vec_len c.take_out.new.taken = omega arith in
    let beside = c.take_out.ensures.beside in (
      omega arith,
      omega arith,
      omega arith,
      subst (λ n. AreRooms n c.in_ok-cells.cells.items) most c.in_ok-cells.ensures.rooms,
      subst (λ n. AreWide n c.take_out.new.taken.items) c.self.invariant.0 c.take_out.ensures.wide,
    )
