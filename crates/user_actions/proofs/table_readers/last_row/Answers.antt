use Rattle.std.proofs.Common.{◌≡◌, ◌∙◌, ◌-◌, ◌+◌, sym, ap, length, arith}
use Rattle.doc_model.specs.Counts.{greatest}
use Rattle.user_actions.proofs.WalkLemmas.{greatest_last}
use Rattle.user_actions.proofs.table_readers.last_row.Goals as goal

pub returns : goal.returns
returns g c =
    let some : length c.rows_in-rows.result.now - 1 + 1 ≡ length c.rows_in-rows.result.now = grind arith in
    sym (greatest_last c.rows_in-rows.result.now c.rows_in-rows.ensures.ascending (length c.rows_in-rows.result.now - 1) some)
    ∙ ap greatest c.rows_in-rows.ensures.value
