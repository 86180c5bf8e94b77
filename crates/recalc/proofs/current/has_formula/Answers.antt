use Rattle.std.proofs.Common.{◌+◌, sym, ◌∙◌, arith}
use Rattle.doc_model.specs.declared.column.ColDef.{ColDef}
use Rattle.doc_readers.specs.Parts.{grid_at}
use Rattle.doc_readers.proofs.ColumnLemmas.{column_read, column_past}
use Rattle.recalc.proofs.PlainLemmas.{any_here, any_next, any_past}
use Rattle.recalc.proofs.current.has_formula.Goals as goal

pub returns-then-column : goal.returns-then-column
returns-then-column g c =
    let s = g.R.DocReader.document c.args.doc.now in
    sym (any_here (λ (d : ColDef). d.info.is_formula) (grid_at s c.args.table.now).columns c.loop-column.index c.in-Some.column.now (column_read s c.args.table.now c.loop-column.index c.in-Some.column.now c.in-Some.ensures.told) c.if-column.true) ∙ c.loop-column.invariant

pub loop-column-preserved : goal.loop-column-preserved
loop-column-preserved g c =
    let s = g.R.DocReader.document c.args.doc.now in
    any_next (λ (d : ColDef). d.info.is_formula) (grid_at s c.args.table.now).columns c.loop-column.index (c.loop-column.index + 1) c.in-Some.column.now (omega arith) (column_read s c.args.table.now c.loop-column.index c.in-Some.column.now c.in-Some.ensures.told) c.if-column.false ∙ c.loop-column.invariant

pub returns : goal.returns
returns g c =
    let s = g.R.DocReader.document c.args.doc.now in
    sym (any_past (λ (d : ColDef). d.info.is_formula) (grid_at s c.args.table.now).columns c.loop-column.index (column_past s c.args.table.now c.loop-column.index c.in_default.ensures.told)) ∙ c.loop-column.invariant
