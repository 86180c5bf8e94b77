use Rattle.std.proofs.lemmas.Result.{err_from_is_err_and}
use Rattle.cell_types.specs.ValueText.{item_text}
use Rattle.cell_types.proofs.TextBounds.{too_long_already}
use Rattle.cell_types.proofs.bounded_text.BoundedText.write_further_items.Goals as goal

pub returns-in_err-write_further_item : goal.returns-in_err-write_further_item
returns-in_err-write_further_item c =
    let p = err_from_is_err_and c.from_residual.result c.from_residual.ensures.1 in
    rw (p.1, p.2) (too_long_already item_text _ _ _ _ _ _ c.write_further_item.new.self c.write_further_item.new.self _ c.loop-item-test.true c.item-item.is c.loop-item.invariant (c.in_err-write_further_item.ensures))
