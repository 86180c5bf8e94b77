use Rattle.std.proofs.Common.{◌<◌, ◌-◌, ◌≡◌, length, refl, Some, slice_get, subst, sym, arith}
use Rattle.std.proofs.lemmas.Option.{get_or_from_slice_get, slice_get_within}
use Rattle.affected_search.proofs.DescribedTables.{plain_row}
use Rattle.affected_search.proofs.described.row_at.Goals as goal

pub returns-then-place-rows : goal.returns-then-place-rows
returns-then-place-rows g c whole t at =
    get_or_from_slice_get c.rows_in-rows.result.now (c.args.index - 4) t.row 0
    (subst (λ rows. slice_get rows (c.args.index - 4) ≡ Some t.row) (sym c.rows_in-rows.ensures.value)
    (plain_row (g.R.DocReader.document c.args.tables.now) whole c.in-Some.described.now c.args.index (c.args.index - 4) t c.in-Some.ensures.told c.if-index-lt-METADATA_TABLES.false refl at))

pub returns-else-place-rows : goal.returns-else-place-rows
returns-else-place-rows g c whole t at =
    let within : c.args.index - 4 < length c.rows_in-rows.result.now = slice_get_within c.rows_in-rows.result.now (c.args.index - 4) t.row
    (subst (λ rows. slice_get rows (c.args.index - 4) ≡ Some t.row) (sym c.rows_in-rows.ensures.value)
    (plain_row (g.R.DocReader.document c.args.tables.now) whole c.in-Some.described.now c.args.index (c.args.index - 4) t c.in-Some.ensures.told c.if-index-lt-METADATA_TABLES.false refl at)) in
    absurd (omega (arith, within, c.if-place-rows.false))
