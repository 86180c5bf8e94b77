use Rattle.std.proofs.Common.{◌<◌, ◌≤◌, ◌∙◌, sym, subst, length, take, get_or, arith}
use Rattle.std.proofs.lemmas.List.{take_more, take_all}
use Rattle.doc_readers.specs.Parts.{grid_at}
use Rattle.recalc.specs.Evaluated.{sheet_of}
use Rattle.recalc.specs.Indexes.{AreUnder}
use Rattle.recalc.proofs.FilledIndexes.{filled_more, told_column}
use Rattle.recalc.proofs.indexes.index_of.Goals as goal

pub loop-row-preserved : goal.loop-row-preserved
loop-row-preserved g c =
    let s = sheet_of (g.D.DocReader.document c.args.tables.now) in
    let t = c.args.table.now in
    let d = c.args.column.now in
    let rows = c.rows_in-row-items.result.now in
    let i = c.loop-row.row-index in
    let within : i < length rows = omega arith in
    subst (λ l. AreUnder s t d.id d.info.ty c.insert.new.self l) (sym (take_more rows i 0 within))
    (filled_more s t d.id d.info.ty c.loop-row.index c.insert.new.self (take i rows) (get_or rows i 0) c.in-Some.bucket c.loop-row.invariant (rw c.in-Some.is at c.in_ok-bucket.ensures) c.in_ok-insert.ensures.ok)

pub returns : goal.returns
returns g c =
    let s = g.D.DocReader.document c.args.tables.now in
    let t = c.args.table.now in
    let d = c.args.column.now in
    let rows = c.rows_in-row-items.result.now in
    let all : length rows ≤ c.loop-row.row-index = omega arith in
    let told = told_column s t d c.requires.there c.requires.plain in
    record {
      ty = d.info.ty;
      kind = told.0;
      no_formula = told.1;
      rows = (grid_at s t).rows;
      listed = told.2;
      filled = subst (λ l. AreUnder (sheet_of s) t d.id d.info.ty c.loop-row.index l) (take_all c.loop-row.row-index rows all ∙ c.rows_in-row-items.ensures.value) c.loop-row.invariant;
    }
