use Rattle.std.proofs.Common.{◌≡◌, ◌∙◌, sym, ap, subst, slice_get, Some}
use Rattle.doc_model.specs.ByIds.{find_id}
use Rattle.doc_model.specs.Rows.{IsAscending, has}
use Rattle.recalc.specs.Kept.{kept_column_id}
use Rattle.recalc.specs.Seen.{joined, told_or_needed}
use Rattle.recalc.proofs.ToldCells.{table_absent, column_absent, data_told, row_absent, value_there}
use Rattle.recalc.proofs.reading.cell_told.Goals as goal

pub returns-in_default : goal.returns-in_default
returns-in_default g c = table_absent (g.D.DocReader.document c.args.tables.now) c.args.kept.now c.requires.of_document c.args.table.now c.args.column.now c.args.row c.in_default.ensures

pub returns-in_default-find_column : goal.returns-in_default-find_column
returns-in_default-find_column g c =
    column_absent (g.D.DocReader.document c.args.tables.now) c.args.kept.now c.requires.of_document c.args.table.now c.args.column.now c.args.row c.in-Some.found.now c.in-Some.ensures
    (c.in_default-find_column.ensures ∙ ap (find_id kept_column_id c.args.column.now) c.deref.ensures.value)

pub returns-then-not-held : goal.returns-then-not-held
returns-then-not-held g c =
    c.base_told.ensures
    ∙ data_told (g.D.DocReader.document c.args.tables.now) c.args.kept.now c.requires.of_document c.args.table.now c.args.column.now c.args.row c.in-Some.found.now c.in-Some.ensures
    c.in-Some-find_column.held.now (c.in-Some-find_column.ensures ∙ ap (find_id kept_column_id c.args.column.now) c.deref.ensures.value) (sym c.if-not-held.true)

pub returns-in-Some-row_index : goal.returns-in-Some-row_index
returns-in-Some-row_index g c =
    c.needed_or.ensures ∙ ap told_or_needed (c.value_at.ensures ∙ ap (λ vs. joined (slice_get vs c.in-Some-row_index.index)) c.deref-in-Some-row_index.ensures.value)
    ∙ value_there (g.D.DocReader.document c.args.tables.now) c.args.kept.now c.requires.of_document c.args.table.now c.args.column.now c.args.row c.in-Some.found.now c.in-Some.ensures
    c.in-Some-find_column.held.now (c.in-Some-find_column.ensures ∙ ap (find_id kept_column_id c.args.column.now) c.deref.ensures.value) (sym c.if-not-held.false)
    c.in-Some-row_index.index (subst IsAscending c.rows_in.ensures.value c.rows_in.ensures.ascending) (subst (λ l. slice_get l c.in-Some-row_index.index ≡ Some c.args.row) c.rows_in.ensures.value c.in-Some-row_index.ensures)

pub returns-in-None : goal.returns-in-None
returns-in-None g c =
    row_absent (g.D.DocReader.document c.args.tables.now) c.args.kept.now c.requires.of_document c.args.table.now c.args.column.now c.args.row c.in-Some.found.now c.in-Some.ensures
    c.in-Some-find_column.held.now (c.in-Some-find_column.ensures ∙ ap (find_id kept_column_id c.args.column.now) c.deref.ensures.value) (sym c.if-not-held.false)
    (ap (λ l. has l c.args.row) (sym c.rows_in.ensures.value) ∙ c.in-None.ensures)
