use Rattle.std.proofs.Common.{Bool, ◌+◌, ◌<◌, ◌≡◌, ◌∙◌, true, false, sym, ap, subst, length, get_or, arith}
use Rattle.doc_model.specs.Rows.{has}
use Rattle.doc_readers.specs.Parts.{grid_at}
use Rattle.recalc.specs.Evaluated.{sheet_of}
use Rattle.recalc.proofs.FilledIndexes.{told_column}
use Rattle.affected_values.proofs.LeftIndexes.{IsFilling, filling_all, filling_more, filling_none, filling_same}
use Rattle.affected_values.proofs.indexing.enter_rows.Goals.{then-holds_row+in_ok-bucket+in-Some+in_ok-insert, else-holds_row}
use Rattle.affected_values.proofs.indexing.enter_rows.Goals as goal

pub loop-row-init : goal.loop-row-init
loop-row-init g c =
    let s = g.D.DocReader.document c.args.tables.now in
    let t = c.args.table.now in
    let d = c.args.column.now in
    let told = told_column s t d c.requires.there c.requires.plain in
    filling_none (sheet_of s) t d.id d.info.ty (grid_at s t).rows c.args.rows.now c.args.index.now c.requires.right told.0 told.2

pub loop-row-preserved : goal.loop-row-preserved
loop-row-preserved g c =
    let s = g.D.DocReader.document c.args.tables.now in
    let t = c.args.table.now in
    let d = c.args.column.now in
    let rows = (grid_at s t).rows in
    let gone = c.args.rows.now in
    let i = c.loop-row.row-index in
    let r = get_or gone i 0 in
    let within : i < length gone = omega arith in
    let tests : (b : Bool) → c.holds_row.result ≡ b → has rows r ≡ b = λ b e. ap (λ l. has l r) (sym c.rows_in.ensures.value) ∙ sym c.holds_row.ensures ∙ e in
    elim c.if-holds_row.branch [
      | then-holds_row+in_ok-bucket+in-Some+in_ok-insert w ↦ subst (λ x. IsFilling (sheet_of s) t d.id d.info.ty x rows gone (i + 1)) (sym w.index-is)
          (filling_more (sheet_of s) t d.id d.info.ty rows gone c.loop-row.index i within c.loop-row.invariant w.insert.new.self w.in-Some.bucket (tests true w.if-holds_row.true) (rw w.in-Some.is at w.in_ok-bucket.ensures) w.in_ok-insert.ensures.ok)
      | else-holds_row w ↦ subst (λ x. IsFilling (sheet_of s) t d.id d.info.ty x rows gone (i + 1)) (sym w.index-is)
          (filling_same (sheet_of s) t d.id d.info.ty rows gone c.loop-row.index i within c.loop-row.invariant (tests false w.if-holds_row.false))
    ]

pub returns : goal.returns
returns g c =
    let s = g.D.DocReader.document c.args.tables.now in
    let t = c.args.table.now in
    let d = c.args.column.now in
    let told = told_column s t d c.requires.there c.requires.plain in
    λ _. record {
      ty = d.info.ty;
      kind = told.0;
      no_formula = told.1;
      rows = (grid_at s t).rows;
      listed = told.2;
      filled = filling_all (sheet_of s) t d.id d.info.ty (grid_at s t).rows c.args.rows.now c.loop-row.index c.loop-row.row-index (omega arith) c.loop-row.invariant;
    }
