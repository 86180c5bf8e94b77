use Rattle.std.proofs.Common.{◌+◌, sym, ap, ◌∙◌, arith}
use Rattle.doc_model.specs.declared.column.ColDef.{ColDef}
use Rattle.doc_model.specs.Document.{Table}
use Rattle.doc_model.specs.Grid.{Grid}
use Rattle.doc_readers.specs.Parts.{grid_at}
use Rattle.recalc.specs.Current.{has_formula}
use Rattle.recalc.proofs.PlainLemmas.{any_here, any_next, any_past}
use Rattle.recalc.proofs.WalkLemmas.{table_read, table_past}
use Rattle.recalc.proofs.WholeLemmas.{grid_there}
use Rattle.recalc.proofs.current.has_formulas.Goals as goal

pub returns-then-has_formula : goal.returns-then-has_formula
returns-then-has_formula g c =
    let s = g.D.DocReader.document c.args.tables.now in
    let t = table_read s c.loop-table.index c.in-Some.table.now c.in-Some.ensures.told in
    let grid = ap (grid_at s) t.2 ∙ grid_there s c.requires c.loop-table.index t.0 t.1 in
    sym (any_here (λ (t : Table). has_formula t.grid.columns) s c.loop-table.index t.0 t.1 (ap (λ (g : Grid ColDef). has_formula g.columns) (sym grid) ∙ sym c.has_formula.ensures ∙ c.if-has_formula.true)) ∙ c.loop-table.invariant

pub loop-table-preserved : goal.loop-table-preserved
loop-table-preserved g c =
    let s = g.D.DocReader.document c.args.tables.now in
    let t = table_read s c.loop-table.index c.in-Some.table.now c.in-Some.ensures.told in
    let grid = ap (grid_at s) t.2 ∙ grid_there s c.requires c.loop-table.index t.0 t.1 in
    any_next (λ (t : Table). has_formula t.grid.columns) s c.loop-table.index (c.loop-table.index + 1) t.0 (omega arith) t.1 (ap (λ (g : Grid ColDef). has_formula g.columns) (sym grid) ∙ sym c.has_formula.ensures ∙ c.if-has_formula.false) ∙ c.loop-table.invariant

pub returns : goal.returns
returns g c =
    let s = g.D.DocReader.document c.args.tables.now in
    sym (any_past (λ (t : Table). has_formula t.grid.columns) s c.loop-table.index (table_past s c.loop-table.index c.in_default.ensures.told)) ∙ c.loop-table.invariant
