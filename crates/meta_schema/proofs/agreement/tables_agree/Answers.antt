use Rattle.std.proofs.Common.{Bool, ◌≡◌, ◌&&◌, ◌+◌, nat_eq, List, ℕ, length, get_or, refl, sym, ap, ◌∙◌, arith}
use Rattle.std.specs.Option.{is_none}
use Rattle.doc_model.specs.MetadataIds.{tables_id, columns_id}
use Rattle.doc_model.specs.Document.{Document}
use Rattle.doc_model.specs.Readers.{table_at}
use Rattle.doc_readers.specs.Parts.{grid_at}
use Rattle.meta_schema.specs.Agreement.{has_text, cell_beside, tables_said, column_count, plain_ids}
use Rattle.meta_schema.proofs.AgreementWalks.{tables_short, table_unnamed, table_left_none, table_left_some, tables_end, told_end}
use Rattle.meta_schema.proofs.agreement.tables_agree.Goals as goal

-- whether there are as many rows as columns
abbrev counted : Document → Bool
counted s = nat_eq (length (grid_at s columns_id).rows) (column_count s (plain_ids s))

-- the rows are those of the table of tables
there : (s : Document) (id : List ℕ) (rows : List ℕ) (b : Bool) → rows ≡ (grid_at s id).rows → id ≡ tables_id → b ≡ (tables_said s rows (plain_ids s) && counted s) → b ≡ (tables_said s (grid_at s tables_id).rows (plain_ids s) && counted s)
there s id rows b read is e = e ∙ ap (λ xs. tables_said s xs (plain_ids s) && counted s) (read ∙ ap (λ t. (grid_at s t).rows) is)

named : (s : Document) (table text id : List ℕ) (row : ℕ) (b : Bool) → b ≡ has_text (cell_beside s table 0 row) text → table ≡ tables_id → text ≡ id → has_text (cell_beside s tables_id 0 row) id ≡ b
named s table text id row b told is same = sym (told ∙ ap (λ t. has_text (cell_beside s t 0 row) text) is ∙ ap (has_text (cell_beside s tables_id 0 row)) same)

pub returns-in_default : goal.returns-in_default
returns-in_default g c =
    let s = g.D.DocReader.document c.args.tables.now in
    let rows = c.rows_in-rows.result.now in
    there s c.args.said.now rows _ c.rows_in-rows.ensures.value c.requires.tables
    (tables_short s rows c.loop-index.index c.loop-index.left (tables_said s rows (plain_ids s)) (counted s) c.loop-index.invariant.said c.loop-index.invariant.count c.loop-index-test.true c.in_default.ensures.told)

pub returns-then-not-has_text : goal.returns-then-not-has_text
returns-then-not-has_text g c =
    let s = g.D.DocReader.document c.args.tables.now in
    let rows = c.rows_in-rows.result.now in
    there s c.args.said.now rows _ c.rows_in-rows.ensures.value c.requires.tables
    (table_unnamed s rows c.loop-index.index c.loop-index.left (tables_said s rows (plain_ids s)) (counted s) c.loop-index.invariant.said c.loop-index.invariant.count c.in-Some.table.now c.loop-index-test.true c.in-Some.ensures.told
    (named s c.args.said.now c.as_str.result.now c.in-Some.table.now (get_or rows c.loop-index.index 0) c.has_text.result c.has_text.ensures c.requires.tables c.as_str.ensures.value ∙ c.if-not-has_text.true))

pub returns-in_default-rows_left : goal.returns-in_default-rows_left
returns-in_default-rows_left g c =
    let s = g.D.DocReader.document c.args.tables.now in
    let rows = c.rows_in-rows.result.now in
    there s c.args.said.now rows _ c.rows_in-rows.ensures.value c.requires.tables
    (table_left_none s rows c.loop-index.index c.loop-index.left (tables_said s rows (plain_ids s)) (counted s) c.loop-index.invariant.said c.loop-index.invariant.count c.in-Some.table.now c.loop-index-test.true c.in-Some.ensures.told c.in_default-rows_left.ensures)

pub loop-index-preserved : goal.loop-index-preserved
loop-index-preserved g c =
    let s = g.D.DocReader.document c.args.tables.now in
    let rows = c.rows_in-rows.result.now in
    let both = table_left_some s rows c.loop-index.index c.loop-index.left (tables_said s rows (plain_ids s)) (counted s) c.loop-index.invariant.said c.loop-index.invariant.count c.in-Some.table.now c.rows_left.result c.in-Some-rows_left.rest c.loop-index-test.true c.in-Some.ensures.told
    (named s c.args.said.now c.as_str.result.now c.in-Some.table.now (get_or rows c.loop-index.index 0) c.has_text.result c.has_text.ensures c.requires.tables c.as_str.ensures.value ∙ c.if-not-has_text.false) c.rows_left.ensures c.in-Some-rows_left.is in
    record { said = both.0; count = both.1 }

pub returns-then-left-eq0 : goal.returns-then-left-eq0
returns-then-left-eq0 g c =
    let s = g.D.DocReader.document c.args.tables.now in
    let rows = c.rows_in-rows.result.now in
    let i = c.loop-index.index in
    let last : length rows + 4 ≡ i + 4 = omega arith in
    there s c.args.said.now rows _ c.rows_in-rows.ensures.value c.requires.tables
    (told_end s (length rows + 4) c.table-then-left-eq0.result c.is_none.result c.table-then-left-eq0.ensures.told c.is_none.ensures
    ∙ ap (λ n. is_none (table_at s n)) last
    ∙ tables_end s rows i c.loop-index.left (tables_said s rows (plain_ids s)) (counted s) c.loop-index.invariant.said c.loop-index.invariant.count (table_at s (i + 4)) c.loop-index-test.false refl c.if-left-eq0.true)
