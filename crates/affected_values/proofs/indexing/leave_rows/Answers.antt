use Rattle.std.proofs.Common.{◌<◌, ◌≡◌, ◌∙◌, ◌++◌, ◌∷◌, [], false, sym, ap, subst, length, take, get_or, arith}
use Rattle.std.proofs.lemmas.List.{take_more}
use Rattle.doc_model.specs.Rows.{has}
use Rattle.doc_readers.specs.Parts.{grid_at}
use Rattle.recalc.specs.Evaluated.{sheet_of}
use Rattle.recalc.proofs.FilledIndexes.{told_column}
use Rattle.affected_values.specs.Indexing.{IsIndexBut}
use Rattle.affected_values.proofs.LeftIndexes.{none_out, none_there, one_out}
use Rattle.affected_values.proofs.indexing.leave_rows.Goals.{in-Some, in-None+else-holds_row}
use Rattle.affected_values.proofs.indexing.leave_rows.Goals as goal

pub loop-row-init : goal.loop-row-init
loop-row-init g c = none_out (sheet_of (g.D.DocReader.document c.args.tables.now)) c.args.table.now c.args.column.now.id c.args.index.now c.requires.right

pub loop-row-preserved : goal.loop-row-preserved
loop-row-preserved g c =
    let s = g.D.DocReader.document c.args.tables.now in
    let t = c.args.table.now in
    let d = c.args.column.now in
    let rows = c.args.rows.now in
    let i = c.loop-row.row-index in
    let gone = take i rows in
    let r = get_or rows i 0 in
    let within : i < length rows = omega arith in
    let told = told_column s t d c.requires.there c.requires.plain in
    subst (λ l. IsIndexBut (sheet_of s) l t d.id c.match-branch-2.index) (sym (take_more rows i 0 within))
    (elim c.match-branch-2.branch [
      | in-Some w ↦ subst (λ x. IsIndexBut (sheet_of s) (gone ++ r ∷ []) t d.id x) (sym w.index-is)
          (one_out (sheet_of s) t d.id gone r c.loop-row.index w.remove.new.self d.info.ty w.in-Some.bucket c.loop-row.invariant told.0 (rw w.in-Some.is at c.in_ok-bucket.ensures) w.remove.ensures.rows)
      | in-None+else-holds_row w ↦
          let free : has (grid_at s t).rows r ≡ false = ap (λ l. has l r) (sym w.rows_in.ensures.value) ∙ sym w.holds_row.ensures ∙ w.if-holds_row.false in
          subst (λ x. IsIndexBut (sheet_of s) (gone ++ r ∷ []) t d.id x) (sym w.index-is)
          (none_there (sheet_of s) t d.id gone r c.loop-row.index (grid_at s t).rows c.loop-row.invariant told.2 free)
    ])
