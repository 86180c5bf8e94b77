use Rattle.std.proofs.Common.{ℕ, nat_eq, [], get_or, ◌∙◌}
use Rattle.std.proofs.lemmas.Bool.{ne_eqb}
use Rattle.std.proofs.lemmas.List.{get_or_default}
use Rattle.row_tables.proofs.Walks.{beside_skip}
use Rattle.row_tables.proofs.look.cells_of_row.Goals as goal

pub loop-index-preserved : goal.loop-index-preserved
loop-index-preserved c =
    let row : ℕ = get_or c.args.rows.now c.loop-index.index 0 in
    beside_skip (λ q. nat_eq q c.args.row) c.args.rows.now c.args.cells.now [] c.loop-index.index row c.loop-index-test.true
    (get_or_default c.args.rows.now c.loop-index.index 0 row c.loop-index-test.true) (ne_eqb row c.args.row c.if-other-row.false) ∙ c.loop-index.invariant
