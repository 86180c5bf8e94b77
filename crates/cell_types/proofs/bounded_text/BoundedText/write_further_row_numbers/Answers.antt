use Rattle.std.proofs.Common.{refl}
use Rattle.std.proofs.lemmas.Result.{err_from_is_err_and}
use Rattle.std.specs.Fmt.{decimal}
use Rattle.cell_types.proofs.TextBounds.{too_long_already}
use Rattle.cell_types.proofs.bounded_text.BoundedText.write_further_row_numbers.Goals as goal

pub returns-in_err-write_further_row_number : goal.returns-in_err-write_further_row_number
returns-in_err-write_further_row_number c =
    let p = err_from_is_err_and c.from_residual.result c.from_residual.ensures.1 in
    rw (p.1, p.2) (too_long_already decimal _ _ _ _ _ _ c.write_further_row_number.new.self c.write_further_row_number.new.self _ c.loop-row-test.true refl c.loop-row.invariant (c.in_err-write_further_row_number.ensures))
