use Rattle.std.proofs.lemmas.Bool.{both_ways}
use Rattle.action_inverse.proofs.MetadataLemmas.{first_there, rows_there, rows_are, never_past, row_found, row_past, row_absent}
use Rattle.action_inverse.proofs.metadata.metadata_row.Goals as goal

pub returns-in_err-described : goal.returns-in_err-described
returns-in_err-described g c =
    absurd (first_there (g.D.DocReader.document c.args.tables.now) c.requires c.in_err-described.ensures.told)

pub returns-in_err-rows : goal.returns-in_err-rows
returns-in_err-rows g c =
    absurd (rows_there (g.D.DocReader.document c.args.tables.now) c.requires c.in_ok-described.described.now c.in_ok-described.ensures.told c.in_err-rows.ensures.told)

pub returns-in_err-other : goal.returns-in_err-other
returns-in_err-other g c =
    let s = g.D.DocReader.document c.args.tables.now in
    let rows = c.in_ok-rows.rows.now in
    absurd (never_past s c.requires rows (rows_are s c.requires c.in_ok-described.described.now rows c.in_ok-described.ensures.told c.in_ok-rows.ensures.told)
    c.loop-index.index c.loop-index-test.true c.args.table.now c.loop-index.invariant c.in_err-other.ensures.told)

pub returns-then-same_as : goal.returns-then-same_as
returns-then-same_as g c =
    let s = g.D.DocReader.document c.args.tables.now in
    let rows = c.in_ok-rows.rows.now in
    row_found s c.requires rows (rows_are s c.requires c.in_ok-described.described.now rows c.in_ok-described.ensures.told c.in_ok-rows.ensures.told)
    c.loop-index.index c.loop-index-test.true c.args.table.now c.loop-index.invariant 0 c.in_ok-other.other.now c.in_ok-other.ensures.told
    (c.same_as.ensures.0 c.if-same_as.true)

pub loop-index-preserved : goal.loop-index-preserved
loop-index-preserved g c =
    let s = g.D.DocReader.document c.args.tables.now in
    let rows = c.in_ok-rows.rows.now in
    row_past s c.requires rows (rows_are s c.requires c.in_ok-described.described.now rows c.in_ok-described.ensures.told c.in_ok-rows.ensures.told)
    c.loop-index.index c.loop-index-test.true c.args.table.now c.loop-index.invariant c.in_ok-other.other.now c.in_ok-other.ensures.told
    (λ e. both_ways c.same_as.result c.if-same_as.false (c.same_as.ensures.1 e))

pub returns : goal.returns
returns g c =
    let s = g.D.DocReader.document c.args.tables.now in
    let rows = c.in_ok-rows.rows.now in
    row_absent s c.requires rows (rows_are s c.requires c.in_ok-described.described.now rows c.in_ok-described.ensures.told c.in_ok-rows.ensures.told)
    c.loop-index.index c.loop-index-test.false c.args.table.now c.loop-index.invariant
